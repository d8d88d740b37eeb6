-- `recording::writing::numbers_size` meets its contract. The loop's invariant: the bytes of the numbers passed, with those of the rest, are all.
use Prim.Native.Nat.{◌+◌, ◌*◌, ◌≤◌}
use lib.ListN.{length, drop}
use mathlib.Core.Path.{◌≡◌}
use Rattle.trace.specs.Recorded.{numbers_bytes}
use Rattle.recording.proofs.writing.numbers_size.Given as goal

abbrev pub invariant-loop-number : goal.invariant-loop-number
invariant-loop-number l =
    (l.size ≤ 10 * l.number-index) × (length (numbers_bytes l.numbers) ≡ l.size + length (numbers_bytes (drop l.number-index l.numbers)))
