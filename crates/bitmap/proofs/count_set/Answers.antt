-- `bitmap::count_set` meets its contract: the bits of a range are those of its parts.
use Prim.Native.Nat.{◌+◌, ◌≤◌}
use lib.Count.{ones}
use mathlib.Core.Path.{◌≡◌, sym}
use native.Mathlib.Omega.{arith}
use Rattle.bitmap.specs.Map.{count_set}
use Rattle.bitmap.proofs.Counts.{count_le, range_count}
use Rattle.bitmap.proofs.count_set.Goals as goal
use Rattle.bitmap.proofs.count_set.Goals.{After-part, After-part-2, After-split-range}

-- the ones of all parts are the range's
all_count : (c : After-part-2) → let a = c.args in
    count_set a.map.now a.at a.n ≡ ones c.part.result + c.ones_of-between.result + ones c.part-2.result
all_count c =
    let a = c.args in
    let p = c.part in
    let t = c.part-2 in
    rw c.ones_of-between.ensures
    (range_count a.map.now a.at a.n p.result t.result c.split-range.result c.split-range.ensures (omega arith)
    (λ j. (c.shared_slice_known-1.given j).fits) p.ensures t.ensures)

-- and no more than its length
few : (c : After-part-2) → let a = c.args in count_set a.map.now a.at a.n ≤ a.n
few c = let a = c.args in count_le a.map.now a.at a.n

pub overflow_add-result : goal.overflow_add-result
overflow_add-result c = omega (arith, all_count (goal.at.overflow_add-result c).After-part-2, few (goal.at.overflow_add-result c).After-part-2)

pub overflow_add-result-2 : goal.overflow_add-result-2
overflow_add-result-2 c = omega (arith, all_count (goal.at.overflow_add-result-2 c).After-part-2, few (goal.at.overflow_add-result-2 c).After-part-2)

pub returns : goal.returns
returns c = sym (all_count (goal.at.returns c).After-part-2)
