-- `bitmap::first_clear` meets its contract. The invariant of both loops: the bits before i are set, so that
-- the search from i on gives what is left of the result. The inner loop stays in the word of the outer loop's i.
use Prim.Native.Nat.{◌+◌, ◌-◌, ◌≤◌}
use mathlib.Core.Path.{◌≡◌}
use Rattle.bitmap.specs.Map.{first_clear}
use Rattle.bitmap.proofs.first_clear.Given as goal

abbrev pub invariant-loop-i : goal.invariant-loop-i
invariant-loop-i l =
    (l.initial.i ≤ l.i)
    × (l.i ≤ l.stop)
    × (first_clear l.map l.at l.n ≡ (l.i - l.at) + first_clear l.map l.i (l.end - l.i))

abbrev pub decreases-loop-i : goal.decreases-loop-i
decreases-loop-i l = l.stop - l.i

abbrev pub invariant-words : goal.invariant-words
invariant-words l =
    (l.at ≤ l.i)
    × (l.i ≤ l.end)
    × (first_clear l.map l.at l.n ≡ (l.i - l.at) + first_clear l.map l.i (l.end - l.i))

abbrev pub decreases-words : goal.decreases-words
decreases-words l = l.end - l.i
