-- `headers::layout::write_valueless` meets its contract: each field is put inside the header, or nowhere.
use native.Mathlib.Omega.{arith}
use Rattle.laws.specs.Choose.{pick}
use Rattle.protocol.specs.Layout.{count, multiuse, padding}
use Rattle.protocol.proofs.PutLaws.{not_put}
use Rattle.protocol.specs.Options.{connid_or_zero}
use Rattle.headers.proofs.layout.write_valueless.Goals as goal

pub returns-then-row-lt-MULTIUSE : goal.returns-then-row-lt-MULTIUSE
unfolding pick
returns-then-row-lt-MULTIUSE c =
    let r = c.args.row in
    rw (not_put r multiuse _ _ c.if-row-lt-MULTIUSE.true, not_put r padding _ _ (omega arith), not_put r count _ _ (omega arith))

pub put-requires-clause-unit_in_bounds : goal.put-requires-clause-unit_in_bounds
put-requires-clause-unit_in_bounds c =
    omega (arith, c.requires.sound.inside multiuse)

pub put-requires-2-clause-unit_in_bounds : goal.put-requires-2-clause-unit_in_bounds
put-requires-2-clause-unit_in_bounds c =
    omega (arith, c.requires.sound.inside padding, c.put.auto)

pub put-requires-3-clause-unit_in_bounds : goal.put-requires-3-clause-unit_in_bounds
put-requires-3-clause-unit_in_bounds c =
    omega (arith, c.requires.sound.inside count, c.put-2.auto, c.put.auto)

pub returns : goal.returns
unfolding pick connid_or_zero
returns c =
    rw (c.put-3.ensures, c.put-2.ensures, c.put.ensures, c.unwrap_or-connid.ensures)
