-- `bitmap::is_touched` meets its contract: a range has no bit if an or of the words of its parts is 0, and only then.
use mathlib.Core.Path.{sym}
use native.Mathlib.Omega.{arith}
use Rattle.bitmap.proofs.Counts.{range_count, touched_by}
use Rattle.bitmap.proofs.is_touched.Goals as goal
use Rattle.bitmap.proofs.is_touched.Goals.{After-split-range}

pub returns : goal.returns
returns c =
    let a = c.args in
    let p = c.part-head in
    let t = c.part-tail in
    let n =
    range_count a.map.now a.at a.n p.result t.result c.split-range.result c.split-range.ensures (omega arith)
    (λ j. (c.shared_slice_known-1.given j).fits) p.ensures t.ensures in
    rw c.or_of-between.ensures (sym (touched_by a.map.now a.at a.n p.result t.result _ n))
