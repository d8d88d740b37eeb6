-- A range of the map edited bit by bit, each by a function of its word and of the bit's weight: what marking and clearing share.
use Prim.Native.Nat.{ℕ, zero, suc, ◌+◌, ◌*◌, ◌/◌, ◌%◌, ◌^◌, ◌≤◌, ◌<◌}
use lib.Bits.{bit_or}
use lib.ListN.{length, get_or, set, length-set}
use lib.Seq.{set_out, get_or-set_same, get_or-set_other, set-get_or, set-set}
use mathlib.Core.List.{List}
use mathlib.Core.Logic.{◌⊎◌, inl, inr, ⊎_elim}
use mathlib.Core.Path.{◌≡◌, refl, ◌∙◌}
use native.Mathlib.Nat.{add_assoc, add-zero, add-suc}
use native.Mathlib.Omega.{arith}
use Rattle.laws.proofs.Comparing.{eq_or_ne, le_or_lt}
use Rattle.bitmap.specs.Map.{bit, bit_at, clear_bit, cleared, marked, set_bit}
use Rattle.bitmap.specs.Mask.{mask_of}
use Rattle.bitmap.proofs.Word.{and_pow, mask_suc, mask_zero, without}

-- the map with bit i edited
edit_bit : (ℕ → ℕ → ℕ) → List ℕ → ℕ → List ℕ
edit_bit f m i = set m (i / 64) (f (get_or m (i / 64) 0) (2 ^ (i % 64)))

-- the map with the n bits from `at` on edited
pub edited : (ℕ → ℕ → ℕ) → List ℕ → ℕ → ℕ → List ℕ
edited f m at zero = m
edited f m at (suc n) = edit_bit f (edited f m at n) (at + n)

module _ (f : ℕ → ℕ → ℕ) where
  pub length_edited : (m : List ℕ) (at n : ℕ) → length (edited f m at n) ≡ length m
  unfolding edited edit_bit
  length_edited m at zero = refl
  length_edited m at (suc n) = rw (edit_bit, length-set, length_edited m at n)

  -- a range in two parts
  pub edited_add : (m : List ℕ) (at k n : ℕ) → edited f m at (k + n) ≡ edited f (edited f m at k) (at + k) n
  unfolding edited
  edited_add m at k zero = rw add-zero
  edited_add m at k (suc n) = rw (add-suc, edited_add m at k n, add_assoc)

  -- a word's part of a range is edited at once
  pub edited_word : ((w : ℕ) → f w 0 ≡ w) → ((w a b : ℕ) → f (f w a) b ≡ f w (bit_or a b))
      → (m : List ℕ) (i n : ℕ) → i / 64 < length m → i % 64 + n ≤ 64
      → set m (i / 64) (f (get_or m (i / 64) 0) (mask_of (i % 64) n)) ≡ edited f m i n
  unfolding edited edit_bit
  edited_word blank both m i zero h k = rw (mask_zero (i % 64), blank) (set-get_or m (i / 64) 0)
  edited_word blank both m i (suc n) h k =
      let q : (i + n) / 64 ≡ i / 64 = omega arith in
      let r : (i + n) % 64 ≡ i % 64 + n = omega arith in
      rw (← edited_word blank both m i n h (omega arith), edit_bit, q, r, get_or-set_same m (i / 64) _ 0 h, set-set, both, mask_suc)

  -- a bit outside the range stays, if an edit of another bit keeps it
  module _ (other : (w k j : ℕ) → (j ≡ k → ⊥) → bit (f w (2 ^ k)) j ≡ bit w j) where
    edit_other : (m : List ℕ) (i j : ℕ) → (j ≡ i → ⊥) → bit_at (edit_bit f m i) j ≡ bit_at m j
    unfolding bit_at edit_bit
    edit_other m i j ne =
        ⊎_elim
        (λ (e : j / 64 ≡ i / 64).
        let n : j % 64 ≡ i % 64 → ⊥ = λ z. ne (omega arith) in
        ⊎_elim
        (λ (h : length m ≤ i / 64). rw (set_out m (i / 64) _ h))
        (λ (h : i / 64 < length m). rw (e, get_or-set_same m (i / 64) _ 0 h) (other _ _ _ n))
        (le_or_lt (length m) (i / 64)))
        (λ n. rw (get_or-set_other m (i / 64) (j / 64) _ 0 n))
        (eq_or_ne (j / 64) (i / 64))

    pub edited_out : (m : List ℕ) (at n i : ℕ) → (i < at) ⊎ (at + n ≤ i) → bit_at (edited f m at n) i ≡ bit_at m i
    unfolding edited
    edited_out m at zero i p = refl
    edited_out m at (suc n) i p =
        let ne : i ≡ at + n → ⊥ = λ e. ⊎_elim (λ l. omega arith) (λ l. omega arith) p in
        edit_other (edited f m at n) (at + n) i ne ∙ edited_out m at n i (⊎_elim (λ l. inl l) (λ l. inr (omega arith)) p)

    -- a bit of the range is what an edit makes of it
    pub edited_in : (v : ℕ) → ((w k : ℕ) → bit (f w (2 ^ k)) k ≡ v)
        → (m : List ℕ) (at n i : ℕ) → at ≤ i → i < at + n → i < 64 * length m → bit_at (edited f m at n) i ≡ v
    unfolding edited edit_bit bit_at
    edited_in v same m at zero i p q h = absurd (omega arith)
    edited_in v same m at (suc n) i p q h =
        ⊎_elim
        (λ (e : i ≡ at + n).
        let l : i / 64 < length (edited f m at n) = rw (length_edited m at n) (omega arith) in
        rw (← e, edit_bit, get_or-set_same (edited f m at n) (i / 64) _ 0 l) (same _ _))
        (λ ne. edit_other (edited f m at n) (at + n) i ne ∙ edited_in v same m at n i p (omega arith) h)
        (eq_or_ne i (at + n))

-- marking and clearing are edits
pub marked_edited : (m : List ℕ) (at n : ℕ) → marked m at n ≡ edited bit_or m at n
unfolding marked set_bit edited edit_bit
marked_edited m at zero = refl
marked_edited m at (suc n) = rw (marked_edited m at n)

pub cleared_edited : (m : List ℕ) (at n : ℕ) → cleared m at n ≡ edited without m at n
unfolding cleared clear_bit edited edit_bit
cleared_edited m at zero = refl
cleared_edited m at (suc n) = rw (cleared_edited m at n, edit_bit, and_pow)
