-- `text::put_line` meets its contract. The loop's invariant: with the numbers that are left, the line is whole.
use Prim.Native.Nat.{◌+◌}
use lib.ListN.{length, drop}
use mathlib.Core.Path.{◌≡◌}
use Rattle.laws.specs.Parts.{store_at}
use Rattle.text.specs.Lines.{numbers_line}
use Rattle.text.proofs.put_line.Given as goal

abbrev pub invariant-loop-number : goal.invariant-loop-number
invariant-loop-number l =
    (l.initial.next + length (numbers_line l.numbers) ≡ l.next + length (numbers_line (drop l.number-index l.numbers)))
    × (store_at l.initial.text l.initial.next (numbers_line l.numbers) ≡ store_at l.text l.next (numbers_line (drop l.number-index l.numbers)))
