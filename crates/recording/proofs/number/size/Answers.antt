-- `recording::number::size` meets its contract. The loop's invariant: the groups passed, with those of the rest, are the number's.
use Prim.Native.Nat.{◌+◌, ◌-◌}
use lib.ListN.{length}
use mathlib.Core.Path.{◌≡◌, ap}
use native.Mathlib.Omega.{arith}
use Rattle.trace.proofs.GroupLaws.{groups_last}
use Rattle.trace.proofs.GroupCounts.{groups_more}
use Rattle.recording.proofs.number.size.Goals as goal

pub loop-rest-preserved : goal.loop-rest-preserved
loop-rest-preserved c =
    let l = c.loop-rest in
    let t = groups_more (10 - l.size) l.rest (omega arith) l.invariant.1 in
    let e : 10 - (l.size + 1) ≡ 10 - l.size - 1 = omega arith in
    (omega arith, rw e t.1, rw e (omega (arith, ap length t.2)))

pub returns : goal.returns
returns c =
    let l = c.loop-rest in
    omega (arith, ap length (groups_last (10 - l.size) l.rest (omega arith)))
