-- `recording::number::size` meets its contract. The loop's invariant: the groups passed, with those of the rest, are the number's.
use Prim.Native.Nat.{◌+◌, ◌-◌, ◌≤◌}
use lib.ListN.{length}
use mathlib.Core.Path.{◌≡◌}
use Rattle.trace.specs.Numbers.{groups}
use Rattle.trace.proofs.GroupCounts.{In}
use Rattle.recording.proofs.number.size.Given as goal

abbrev pub invariant-loop-rest : goal.invariant-loop-rest
invariant-loop-rest l =
    (l.size ≤ 10) × In (10 - l.size) l.rest × (length (groups 9 l.v) + 1 ≡ l.size + length (groups (10 - l.size) l.rest))

abbrev pub decreases-loop-rest : goal.decreases-loop-rest
decreases-loop-rest l = l.rest
