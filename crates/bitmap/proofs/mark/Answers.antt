-- `bitmap::mark` meets its contract: the parts of a range are marked one after the other.
use lib.Dec.{lit<}
use native.Mathlib.Omega.{arith}
use Rattle.bitmap.specs.Map.{marked}
use Rattle.bitmap.proofs.Stores.{mark_add, mark_none, mark_whole, fill_range}
use Rattle.bitmap.proofs.mark.Goals as goal
use Rattle.bitmap.proofs.mark.Goals.{After-split-range}

pub returns : goal.returns
returns c =
    let a = c.args in
    fill_range marked 18446744073709551615 (lit< tt) mark_none mark_add mark_whole a.map.now _ _ _ a.at a.n c.split-range.result
    c.split-range.ensures (omega arith) (omega arith) (λ j. (c.slice_known-2-1.given j).fits)
    c.mark_part.ensures
    c.fill.ensures
    c.mark_part-2.ensures
