-- `text::put_number` meets its contract: a space, and the digits behind it.
use mathlib.Core.Path.{◌∙◌}
use native.Mathlib.Omega.{arith}
use Rattle.laws.proofs.Storing.{set_next}
use Rattle.text.specs.Decimals.{decimal}
use Rattle.text.proofs.put_number.Goals as goal

pub returns : goal.returns
returns c =
    let a = c.args in
    let w = c.put_decimal.ensures in
    (omega arith, w.1 ∙ set_next a.text.now a.at 32 (decimal a.v) (omega arith))
