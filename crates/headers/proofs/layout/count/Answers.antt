-- `headers::layout::count` meets its contract.
use Rattle.protocol.specs.FieldNumbers.{count_in}
use Rattle.protocol.specs.Layout as fields
use native.Mathlib.Omega.{arith}
use Rattle.headers.proofs.layout.count.Goals as goal

pub number-requires-clause-unit_in_bounds : goal.number-requires-clause-unit_in_bounds
number-requires-clause-unit_in_bounds c =
    omega (arith, c.requires.sound.inside fields.count)

pub returns : goal.returns
unfolding count_in
returns c = c.number.ensures
