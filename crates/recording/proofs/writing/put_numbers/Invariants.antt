-- `recording::writing::put_numbers` meets its contract. The loop's invariant: the bytes of the rest, stored from here on, make the whole store.
use Prim.Native.Nat.{◌+◌}
use lib.ListN.{length, drop}
use mathlib.Core.Path.{◌≡◌}
use Rattle.laws.specs.Parts.{store_at}
use Rattle.trace.specs.Recorded.{numbers_bytes}
use Rattle.recording.proofs.writing.put_numbers.Given as goal

abbrev pub invariant-loop-number : goal.invariant-loop-number
invariant-loop-number l =
    (l.next + length (numbers_bytes (drop l.number-index l.numbers)) ≡ l.at + length (numbers_bytes l.numbers))
    × (store_at l.out l.next (numbers_bytes (drop l.number-index l.numbers)) ≡ store_at l.initial.out l.at (numbers_bytes l.numbers))
