-- `recording::number::put` meets its contract. The loop's invariant: the rest's groups, stored from here on, make the whole store.
use Prim.Native.Nat.{◌+◌, ◌-◌, ◌≤◌}
use lib.ListN.{length}
use mathlib.Core.Path.{◌≡◌}
use Rattle.laws.specs.Parts.{store_at}
use Rattle.trace.specs.Numbers.{groups}
use Rattle.trace.proofs.GroupCounts.{In}
use Rattle.recording.proofs.number.put.Given as goal

abbrev pub invariant-loop-rest : goal.invariant-loop-rest
invariant-loop-rest l =
    (l.i ≤ l.at + 9)
    × In (l.at + 9 - l.i) l.rest
    × (l.i + length (groups (l.at + 9 - l.i) l.rest) ≡ l.at + length (groups 9 l.v))
    × (length l.out ≡ length l.initial.out)
    × (store_at l.out l.i (groups (l.at + 9 - l.i) l.rest) ≡ store_at l.initial.out l.at (groups 9 l.v))

abbrev pub decreases-loop-rest : goal.decreases-loop-rest
decreases-loop-rest l = l.rest
