-- `headers::layout::put` meets its contract.
use borrow.Author.Tests.{eq-eqb, ne_eqb}
use Rattle.laws.specs.Choose.{pick}
use Rattle.protocol.specs.FieldNumbers.{put_there}
use Rattle.headers.proofs.layout.put.Goals as goal

pub returns-then-at-eq0 : goal.returns-then-at-eq0
unfolding put_there pick
returns-then-at-eq0 g c = rw (← c.place-at.ensures, eq-eqb _ _ c.if-at-eq0.true)

pub returns : goal.returns
unfolding put_there pick
returns g c =
    rw (← c.place-at.ensures, ne_eqb _ _ c.if-at-eq0.false, c.write.ensures)
