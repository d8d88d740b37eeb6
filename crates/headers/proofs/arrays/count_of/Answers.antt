-- `headers::arrays::count_of` meets its contract. The sum does not wrap: the array has at most 8,192 bytes.
use Rattle.laws.specs.Choose.{pick}
use Rattle.protocol.specs.Arrays.{array_count}
use borrow.Author.Tests.{eq-eqb, ne_eqb}
use Rattle.headers.proofs.arrays.count_of.Goals as goal

pub returns-then-row-eq0 : goal.returns-then-row-eq0
unfolding array_count pick
returns-then-row-eq0 c = rw (eq-eqb _ _ c.if-row-eq0.true)

pub returns : goal.returns
unfolding array_count pick
returns c = rw (ne_eqb _ _ c.if-row-eq0.false)
