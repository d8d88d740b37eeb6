-- `bitmap::clear` meets its contract: the parts of a range are cleared one after the other.
use lib.Dec.{lit<}
use native.Mathlib.Omega.{arith}
use Rattle.bitmap.specs.Map.{cleared}
use Rattle.bitmap.proofs.Stores.{clear_add, clear_none, clear_whole, fill_range}
use Rattle.bitmap.proofs.clear.Goals as goal
use Rattle.bitmap.proofs.clear.Goals.{After-split-range}

pub returns : goal.returns
returns c =
    let a = c.args in
    fill_range cleared 0 (lit< tt) clear_none clear_add clear_whole a.map.now _ _ _ a.at a.n c.split-range.result
    c.split-range.ensures (omega arith) (omega arith) (λ j. (c.slice_known-2-1.given j).fits)
    c.clear_part.ensures
    c.fill.ensures
    c.clear_part-2.ensures
