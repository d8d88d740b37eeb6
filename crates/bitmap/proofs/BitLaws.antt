-- Laws of the map for the layers above it: what marking and clearing a range do to each bit, and how a search of a range goes on.
use Prim.Native.Nat.{ℕ, zero, suc, ◌+◌, ◌*◌, ◌/◌, ◌%◌, ◌≤◌, ◌<◌}
use lib.Bits.{bit_or}
use lib.ListN.{length, get_or, get_or-eq_default}
use mathlib.Core.List.{List}
use mathlib.Core.Logic.{◌⊎◌, inl, inr, ⊎_elim}
use mathlib.Core.Path.{◌≡◌}
use native.Mathlib.Omega.{arith}
use Rattle.bitmap.specs.Map.{bit_at, cleared, first_clear, marked}
use Rattle.laws.specs.Choose.{pick}
use Rattle.laws.proofs.Comparing.{eq_or_ne, le_or_lt}
use Rattle.bitmap.proofs.Edited.{cleared_edited, edited_in, edited_out, length_edited, marked_edited}
use Rattle.bitmap.proofs.Word.{bit_small, no_bit, or_other, or_same, without, without_other, without_same}

pub bit_at_small : (m : List ℕ) (i : ℕ) → bit_at m i < 2
unfolding bit_at
bit_at_small m i = bit_small (get_or m (i / 64) 0) (i % 64)

-- ---- a range marked or cleared

pub length_marked : (m : List ℕ) (at n : ℕ) → length (marked m at n) ≡ length m
length_marked m at n = rw (marked_edited m at n) (length_edited bit_or m at n)

pub length_cleared : (m : List ℕ) (at n : ℕ) → length (cleared m at n) ≡ length m
length_cleared m at n = rw (cleared_edited m at n) (length_edited without m at n)

pub marked_in_lem : (m : List ℕ) (at n i : ℕ) → at ≤ i → i < at + n → i < 64 * length m → bit_at (marked m at n) i ≡ 1
marked_in_lem m at n i p q h = rw (marked_edited m at n) (edited_in bit_or or_other 1 or_same m at n i p q h)

pub marked_out : (m : List ℕ) (at n i : ℕ) → (i < at) ⊎ (at + n ≤ i) → bit_at (marked m at n) i ≡ bit_at m i
marked_out m at n i p = rw (marked_edited m at n) (edited_out bit_or or_other m at n i p)

-- a bit past the map's end
past_end : (m : List ℕ) (i : ℕ) → 64 * length m ≤ i → bit_at m i ≡ 0
unfolding bit_at
past_end m i h =
    let e : get_or m (i / 64) 0 ≡ 0 = get_or-eq_default m 0 (omega arith) in
    rw e (no_bit (i % 64))

pub cleared_in : (m : List ℕ) (at n i : ℕ) → at ≤ i → i < at + n → bit_at (cleared m at n) i ≡ 0
cleared_in m at n i p q =
    ⊎_elim
    (λ h. past_end (cleared m at n) i (rw (length_cleared m at n) h))
    (λ h. rw (cleared_edited m at n) (edited_in without without_other 0 without_same m at n i p q h))
    (le_or_lt (64 * length m) i)

pub cleared_out : (m : List ℕ) (at n i : ℕ) → (i < at) ⊎ (at + n ≤ i) → bit_at (cleared m at n) i ≡ bit_at m i
cleared_out m at n i p = rw (cleared_edited m at n) (edited_out without without_other m at n i p)

-- ---- a search of a range

pub bit_cases : (m : List ℕ) (i : ℕ) → (bit_at m i ≡ 0) ⊎ (bit_at m i ≡ 1)
bit_cases m i = ⊎_elim (λ e. inl e) (λ ne. inr (omega (arith, bit_at_small m i))) (eq_or_ne (bit_at m i) 0)

-- a clear bit ends the search, and a set one is passed
pub first_stops : (m : List ℕ) (at n : ℕ) → bit_at m at ≡ 0 → first_clear m at (suc n) ≡ 0
unfolding first_clear pick
first_stops m at n e = rw e

pub first_passes : (m : List ℕ) (at n : ℕ) → bit_at m at ≡ 1 → first_clear m at (suc n) ≡ suc (first_clear m (suc at) n)
unfolding first_clear pick
first_passes m at n e = rw e

pub first_clear_le : (m : List ℕ) (at n : ℕ) → first_clear m at n ≤ n
unfolding first_clear
first_clear_le m at zero = omega arith
first_clear_le m at (suc n) =
    ⊎_elim
    (λ z. rw (first_stops m at n z) (omega arith))
    (λ s. rw (first_passes m at n s) (omega (arith, first_clear_le m (suc at) n)))
    (bit_cases m at)
