-- `headers::arrays::allowed` meets its contract.
use Rattle.protocol.specs.Arrays.{array_allowed}
use borrow.Author.Tests.{eq-eqb, ne_eqb}
use Rattle.headers.proofs.arrays.allowed.Goals as goal

pub returns-then-row-ne0 : goal.returns-then-row-ne0
unfolding array_allowed
returns-then-row-ne0 c = rw (ne_eqb _ _ c.if-row-ne0.true)

pub returns-else-row-ne0 : goal.returns-else-row-ne0
unfolding array_allowed
returns-else-row-ne0 c = rw (eq-eqb _ _ c.if-row-ne0.false)
