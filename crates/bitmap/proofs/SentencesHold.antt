-- The statements of specs/Sentences.antt hold: what marking, clearing and the overlap test are, over the numbers in the map.
use Prim.Native.Nat.{ℕ, zero, suc, ◌+◌}
use borrow.Author.Tests.{eq-eqb, eqb-true}
use lib.Dec.{eqb}
use mathlib.Core.Bool.{Bool, true, ◌||◌, or-true}
use mathlib.Core.List.{List}
use mathlib.Core.Logic.{⊎_elim}
use mathlib.Core.Path.{◌≡◌, sym, ap, ◌∙◌}
use native.Mathlib.Omega.{arith}
use Rattle.laws.proofs.Choosing.{or_cases}
use Rattle.laws.proofs.Comparing.{eq_or_ne}
use Rattle.bitmap.specs.Map.{bit, bit_at, touched}
use Rattle.bitmap.specs.Sentences.{ClearClearsTheRange, InRange, MarkSetsTheRange, OverlapIsASetBit}
use Rattle.bitmap.proofs.BitLaws.{cleared_in, cleared_out, length_cleared, length_marked, marked_in_lem, marked_out}

pub mark_sets_the_range : MarkSetsTheRange
unfolding bit_at bit
mark_sets_the_range m at n h =
    (λ i r. marked_in_lem m at n i r.0 r.1 (omega (arith, r.1)), λ i r. marked_out m at n i r, length_marked m at n)

pub clear_clears_the_range : ClearClearsTheRange
unfolding bit_at bit
clear_clears_the_range m at n = (λ i r. cleared_in m at n i r.0 r.1, λ i r. cleared_out m at n i r, length_cleared m at n)

found : (m : List ℕ) (at n : ℕ) → touched m at n ≡ true → (i : ℕ) × InRange at n i × (bit_at m i ≡ 1)
unfolding touched
found m at zero e = let z : ◌≡◌ {A = ℕ} 0 1 = cc in absurd (omega arith)
found m at (suc n) e =
    ⊎_elim
    (λ x. let (i, r, b) = found m at n x in (i, (r.0, omega (arith, r.1)), b))
    (λ x. (at + n, (omega arith, omega arith), eqb-true _ 1 x))
    (or_cases (touched m at n) (eqb (bit_at m (at + n)) 1) e)

set_found : (m : List ℕ) (at n i : ℕ) → InRange at n i → bit_at m i ≡ 1 → touched m at n ≡ true
unfolding touched
set_found m at zero i r b = absurd (omega (arith, r.0, r.1))
set_found m at (suc n) i r b =
    ⊎_elim
    (λ (z : i ≡ at + n). rw (eq-eqb (bit_at m (at + n)) 1 (ap (bit_at m) (sym z) ∙ b)) (or-true (touched m at n)))
    (λ ne. ap (λ (t : Bool). t || eqb (bit_at m (at + n)) 1) (set_found m at n i (r.0, omega (arith, r.0, r.1)) b))
    (eq_or_ne i (at + n))

pub overlap_is_a_set_bit : OverlapIsASetBit
unfolding bit_at bit
overlap_is_a_set_bit m at n = (found m at n, λ x. set_found m at n x.0 x.1 x.2)
