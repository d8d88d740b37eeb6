-- Laws of bytes that stand in a list: one part behind the other, and what stands from there on.
use Prim.Native.Nat.{ℕ, ◌+◌, ◌≤◌}
use lib.ListN.{length, drop, length-append}
use mathlib.Core.List.{List, [], ◌∷◌, ◌++◌, append_assoc}
use mathlib.Core.Path.{◌≡◌, refl, sym, ap, ◌∙◌}
use native.Mathlib.Omega.{arith}
use Rattle.laws.specs.Parts.{part}
use Rattle.laws.proofs.Storing.{length_part, part_add, part_drop}
use Rattle.trace.specs.ExactlyRecorded.{Stands}
use Rattle.trace.specs.Numbers.{number_bytes}
use Rattle.trace.specs.Recorded.{numbers_bytes}

pub numbers_append : (ms ns : List ℕ) → numbers_bytes (ms ++ ns) ≡ numbers_bytes ms ++ numbers_bytes ns
unfolding numbers_bytes
numbers_append [] ns = refl
numbers_append (m ∷ ms) ns = rw (numbers_append ms ns) (sym (append_assoc (number_bytes m) (numbers_bytes ms) (numbers_bytes ns)))

pub stands_then : {s : List ℕ} {at m next : ℕ} {a b : List ℕ} → Stands s at a m → Stands s m b next → Stands s at (a ++ b) next
stands_then {s} {at} {m} {next} {a} {b} x y =
    let p : at + length a ≡ m = sym x.place in
    record {
      place = rw length-append (omega (arith, x.place, y.place));
      inside = y.inside;
      there = rw (length-append, part_add s at (length a) (length b), x.there, p, y.there);
    }

-- numbers behind others
pub numbers_then : {s : List ℕ} {at m next : ℕ} (ms ns : List ℕ) → Stands s at (numbers_bytes ms) m → Stands s m (numbers_bytes ns) next
    → Stands s at (numbers_bytes (ms ++ ns)) next
numbers_then ms ns x y = rw numbers_append (stands_then x y)

pub part_stands : (s : List ℕ) (at count : ℕ) → at + count ≤ length s → Stands s at (part s at count) (at + count)
part_stands s at count h = let n = length_part s at count h in record { place = rw n; inside = h; there = rw n }

-- what stands there, and the rest behind it
pub stands_drop : {s : List ℕ} {at next : ℕ} {b : List ℕ} → Stands s at b next → drop at s ≡ b ++ drop next s
stands_drop {s} {at} {next} {b} x =
    rw x.place (sym (part_drop s at (length b)) ∙ ap (λ (l : List ℕ). l ++ drop (at + length b) s) x.there)
