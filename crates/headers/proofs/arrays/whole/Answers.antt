-- `headers::arrays::whole` meets its contract.
use Rattle.laws.specs.Choose.{pick}
use Rattle.protocol.specs.Arrays.{array_whole}
use borrow.Author.Tests.{eq-eqb, ne_eqb}
use Rattle.headers.proofs.arrays.whole.Goals as goal

pub returns-then-row-eq0 : goal.returns-then-row-eq0
unfolding array_whole pick
returns-then-row-eq0 c = rw (eq-eqb _ _ c.if-row-eq0.true)

pub returns : goal.returns
unfolding array_whole pick
returns c = rw (ne_eqb _ _ c.if-row-eq0.false)
