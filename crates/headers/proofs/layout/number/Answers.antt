-- `headers::layout::number` meets its contract.
use borrow.Author.Tests.{eq-eqb, ne_eqb}
use Rattle.laws.specs.Choose.{pick}
use Rattle.protocol.specs.FieldNumbers.{number_there}
use Rattle.headers.proofs.layout.number.Goals as goal

pub returns-then-at-eq0 : goal.returns-then-at-eq0
unfolding number_there pick
returns-then-at-eq0 g c = rw (← c.place-at.ensures, eq-eqb _ _ c.if-at-eq0.true, c.zero.ensures)

pub returns : goal.returns
unfolding number_there pick
returns g c = rw (← c.place-at.ensures, ne_eqb _ _ c.if-at-eq0.false, c.read.ensures)
