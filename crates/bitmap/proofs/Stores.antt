-- A range marked or cleared word by word.
use Prim.Native.Nat.{ℕ, zero, suc, ◌+◌, ◌-◌, ◌*◌, ◌/◌, ◌%◌, ◌^◌, ◌≤◌, ◌<◌}
use lib.Bits.{bit_and, bit_or, or_zero_r, or_add_and, and_mask}
use borrow.Rule.Slice.PartMut.{put_mid}
use lib.Dec.{lit<}
use lib.ListN.{length, get_or, set, take, drop, length-set, replicate, length-replicate, drop_of_length-le}
use lib.Seq.{get_or-set_other, get_or-set_same}
use mathlib.Core.List.{List, append-nil}
use mathlib.Core.Logic.{⊎_elim}
use mathlib.Core.Path.{◌≡◌, refl, sym, ap, ◌∙◌}
use native.Mathlib.Nat.{mod-eq_of_lt, sub_self}
use native.Mathlib.Omega.{arith}
use Rattle.laws.specs.Parts.{store_at}
use Rattle.laws.proofs.Comparing.{eq_or_ne}
use Rattle.laws.proofs.Storing.{length_lent, put_part, set_next, store_nothing}
use Rattle.bitmap.specs.Map.{cleared, marked}
use Rattle.bitmap.specs.Mask.{mask_of, part_of}
use Rattle.bitmap.specs.Ranges.{split_of}
use Rattle.bitmap.specs.declared.ranges.ThreeParts.{ThreeParts}
use Rattle.bitmap.proofs.Edited.{cleared_edited, edited, edited_add, edited_word, marked_edited}
use Rattle.bitmap.proofs.SplitLaws.{Placed, in_parts, placed}
use Rattle.bitmap.proofs.Word.{or_assoc, without, without_none, without_or}

-- no bits, and a range in two parts
pub mark_none : (m : List ℕ) (at : ℕ) → marked m at 0 ≡ m
unfolding marked
mark_none m at = refl

pub clear_none : (m : List ℕ) (at : ℕ) → cleared m at 0 ≡ m
unfolding cleared
clear_none m at = refl

pub mark_add : (m : List ℕ) (at k n : ℕ) → marked m at (k + n) ≡ marked (marked m at k) (at + k) n
mark_add m at k n =
    rw (marked_edited m at (k + n), marked_edited m at k, marked_edited (edited bit_or m at k) (at + k) n) (edited_add bit_or m at k n)

pub clear_add : (m : List ℕ) (at k n : ℕ) → cleared m at (k + n) ≡ cleared (cleared m at k) (at + k) n
clear_add m at k n =
    rw (cleared_edited m at (k + n), cleared_edited m at k, cleared_edited (edited without m at k) (at + k) n) (edited_add without m at k n)

-- a part of a range that lies in one word
module _ (m : List ℕ) (i n : ℕ) (h : i / 64 < length m) (f : i % 64 + n ≤ 64) where
  pub mark_word : set m (i / 64) (bit_or (get_or m (i / 64) 0) (mask_of (i % 64) n)) ≡ marked m i n
  mark_word = rw (marked_edited m i n) (edited_word bit_or or_zero_r or_assoc m i n h f)

  pub clear_word : set m (i / 64) (without (get_or m (i / 64) 0) (mask_of (i % 64) n)) ≡ cleared m i n
  clear_word = rw (cleared_edited m i n) (edited_word without without_none without_or m i n h f)

-- a whole word
and_full : (w : ℕ) → w < 2 ^ 64 → bit_and w (mask_of 0 64) ≡ w
and_full w h = and_mask w 64 ∙ mod-eq_of_lt h

module _ (m : List ℕ) (i : ℕ) (z : i % 64 ≡ 0) (fits : get_or m (i / 64) 0 < 2 ^ 64) where
  pub part_whole : part_of m i 64 ≡ get_or m (i / 64) 0
  part_whole = rw z (and_full (get_or m (i / 64) 0) fits)

  pub mark_whole : i / 64 < length m → set m (i / 64) 18446744073709551615 ≡ marked m i 64
  mark_whole h =
      let w = get_or m (i / 64) 0 in
      let e : bit_or w 18446744073709551615 ≡ 18446744073709551615 =
      omega (arith, or_add_and w 18446744073709551615, and_full w fits) in
      let t = mark_word m i 64 h (omega arith) in
      rw (z, e) at t

  pub clear_whole : i / 64 < length m → set m (i / 64) 0 ≡ cleared m i 64
  clear_whole h =
      let e : get_or m (i / 64) 0 - part_of m i 64 ≡ 0 = rw part_whole (sub_self (get_or m (i / 64) 0)) in
      let t = clear_word m i 64 h (omega arith) in
      rw e at t

-- ---- whole words, one after the other

-- the words of a list are words
abbrev pub AreWords : List ℕ → Type 0
AreWords m = (j : ℕ) → get_or m j 0 < 2 ^ 64

set_words : (m : List ℕ) (k w : ℕ) → w < 2 ^ 64 → k < length m → AreWords m → AreWords (set m k w)
set_words m k w f h ok j =
    ⊎_elim (λ (e : j ≡ k). rw (e, get_or-set_same m k w 0 h) f) (λ ne. rw (get_or-set_other m k j w 0 ne) (ok j)) (eq_or_ne j k)

-- `full` is a word that is filled whole
module _ (fill : List ℕ → ℕ → ℕ → List ℕ) (full : ℕ) (small : full < 2 ^ 64)
    (none : (m : List ℕ) (at : ℕ) → fill m at 0 ≡ m)
    (add : (m : List ℕ) (at k n : ℕ) → fill m at (k + n) ≡ fill (fill m at k) (at + k) n)
    (whole : (m : List ℕ) (i : ℕ) → i % 64 ≡ 0 → get_or m (i / 64) 0 < 2 ^ 64 → i / 64 < length m → set m (i / 64) full ≡ fill m i 64)
  where
    word : (m : List ℕ) (k : ℕ) → AreWords m → k < length m → set m k full ≡ fill m (64 * k) 64
    word m k ok h =
        let at : 64 * k / 64 ≡ k = omega arith in
        ap (λ (j : ℕ). set m j full) (sym at) ∙ whole m (64 * k) (omega arith) (ok (64 * k / 64)) (omega arith)

    pub filled : (n : ℕ) (m : List ℕ) (k : ℕ) → AreWords m → k + n ≤ length m → store_at m k (replicate n full) ≡ fill m (64 * k) (64 * n)
    filled zero m k ok h = store_nothing m k ∙ sym (none m (64 * k))
    filled (suc n) m k ok h =
        let rest : k + 1 + length (replicate n full) ≤ length m = rw (length-replicate n full) (omega arith) in
        let len : length (set m k full) ≡ length m = length-set m k full in
        let more : 64 * suc n ≡ 64 + 64 * n = omega arith in
        let next : 64 * (k + 1) ≡ 64 * k + 64 = omega arith in
        sym (set_next m k full (replicate n full) rest)
        ∙ filled n (set m k full) (k + 1) (set_words m k full small (omega arith) ok) (omega arith)
        ∙ rw (word m k ok (omega arith), next, more) (sym (add m (64 * k) 64 (64 * n)))

    -- a range by its parts, as the code fills them: the first part, then the words that were lent on, then the last part
    pub fill_range : (m m₁ ws m₃ : List ℕ) (at n : ℕ) (s : ThreeParts) → s ≡ split_of at n → at + n ≤ 64 * length m → length m₁ ≡ length m
        → AreWords m₁ → m₁ ≡ fill m at s.head → ws ≡ replicate (length (take (s.last - s.first) (drop s.first m₁))) full
        → m₃ ≡ fill (put_mid s.first (s.last - s.first) m₁ ws) (64 * s.last) s.tail → m₃ ≡ fill m at n
    fill_range m m₁ ws m₃ at n s e h len ok head between tail =
        let x = split_of at n in
        let w = (n - x.head) / 64 in
        let l : Placed at n (length m) x = placed refl h in
        let room : x.first + w ≤ length m₁ = omega (arith, l.last_in) in
        let first : m₁ ≡ fill m at x.head = head ∙ rw e in
        let words : ws ≡ replicate w full = between ∙ rw (e, length_lent m₁ x.first w room) in
        let put : put_mid x.first (x.first + w - x.first) m₁ (replicate w full) ≡ store_at m₁ x.first (replicate w full) =
        put_part m₁ (replicate w full) x.first w (length-replicate w full) in
        tail ∙ rw (e, words, put, filled w m₁ x.first ok room, first) (sym (in_parts fill none add m at n))

-- ---- the map whole

pub cleared_all : (m : List ℕ) → AreWords m → cleared m 0 (64 * length m) ≡ replicate (length m) 0
unfolding store_at
cleared_all m ok =
    let n = length m in
    let zeros : List ℕ = replicate n 0 in
    let e : length zeros ≡ n = length-replicate n 0 in
    let end : n ≤ 0 + length zeros = omega arith in
    sym (filled cleared 0 (lit< tt) clear_none clear_add clear_whole n m 0 ok (omega arith)) ∙ rw (drop_of_length-le m end) (append-nil zeros)
