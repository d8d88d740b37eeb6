-- A range searched for its first clear bit by the runs of set bits in its words.
use Prim.Native.Nat.{ℕ, zero, suc, ◌+◌, ◌-◌, ◌*◌, ◌/◌, ◌%◌, ◌^◌, ◌≤◌, ◌<◌, min}
use borrow.Author.Tests.{eq-eqb, ne_eqb}
use lib.Count.{count_trailing_zeros, under, trailing_of_zero}
use lib.Dec.{eqb, lit<}
use lib.ListN.{length, get_or, take, drop, length-drop, length-take}
use lib.Pow.{shr-shr}
use lib.Seq.{get_or-drop, get_or-take}
use mathlib.Core.List.{List}
use mathlib.Core.Logic.{⊎_elim}
use mathlib.Core.Path.{◌≡◌, sym, ap, ◌∙◌}
use native.Mathlib.Nat.{add-zero, zero-add, add-suc, suc-add, pow-suc, sub-zero, zero-div}
use native.Mathlib.Omega.{arith}
use Rattle.bitmap.specs.Map.{bit, bit_at, first_clear}
use Rattle.bitmap.specs.Mask.{set_in}
use Rattle.bitmap.specs.Offsets.{first_not}
use Rattle.bitmap.specs.WholeWords.{full_run}
use Rattle.laws.specs.Choose.{pick}
use Rattle.laws.proofs.Comparing.{eq_or_ne}
use Rattle.bitmap.proofs.BitLaws.{bit_cases, first_passes, first_stops}
use Rattle.bitmap.proofs.CoverLaws.{first_cover}
use Rattle.bitmap.proofs.Word.{bit_small, bit_suc, bit_zero}
use Rattle.bitmap.proofs.WordFolds.{run_full, run_le}

-- ---- the run of set digits of a word from a place on: the trailing zeros of the complement

not_bit : (k j w : ℕ) → j < k → w < 2 ^ k → bit (2 ^ k - 1 - w) j ≡ 1 - bit w j
not_bit zero j w h b = absurd (omega arith)
not_bit (suc k) zero w h b =
    let e : 2 ^ suc k ≡ 2 ^ k * 2 = pow-suc 2 k in
    rw (bit_zero (2 ^ suc k - 1 - w), bit_zero w) (omega arith)
not_bit (suc k) (suc j) w h b =
    let e : 2 ^ suc k ≡ 2 ^ k * 2 = pow-suc 2 k in
    let q : (2 ^ suc k - 1 - w) / 2 ≡ 2 ^ k - 1 - w / 2 = omega arith in
    rw (bit_suc (2 ^ suc k - 1 - w) j, bit_suc w j, q) (not_bit k j (w / 2) (omega arith) (omega arith))

run_step : (b d t n : ℕ) → d ≡ 1 - b → b < 2 → min (under d t) (suc n) ≡ pick (eqb b 1) (suc (min t n)) 0
unfolding pick
run_step b zero t n e h = rw (eq-eqb b 1 (omega arith)) (omega arith)
run_step b (suc d) t n e h = rw (ne_eqb b 1 (λ z. omega arith)) (omega arith)

run : (k n x w lo : ℕ) → n ≤ k → ((j : ℕ) → j < n → bit x j ≡ 1 - bit w (lo + j)) → min (count_trailing_zeros k x) n ≡ first_not (set_in w) lo n
unfolding count_trailing_zeros first_not
run k zero x w lo h f = omega arith
run zero (suc n) x w lo h f = absurd (omega arith)
run (suc k) (suc n) x w lo h f =
    let z = rw (bit_zero, add-zero) at (f 0 (omega arith)) in
    let r = run k n (x / 2) w (suc lo) (omega arith) (λ j l. sym (bit_suc x j) ∙ f (suc j) (omega arith) ∙ rw (add-suc, suc-add)) in
    run_step (bit w lo) (x % 2) (count_trailing_zeros k (x / 2)) n z (bit_small w lo) ∙ rw r

pub run_word : (w lo n : ℕ) → w < 2 ^ 64 → lo + n ≤ 64 → min (count_trailing_zeros 64 ((18446744073709551615 - w) / 2 ^ lo)) n ≡ first_not (set_in w) lo n
unfolding bit
run_word w lo n b h = run 64 n ((18446744073709551615 - w) / 2 ^ lo) w lo (omega arith) (λ j l. rw shr-shr (not_bit 64 (lo + j) w (omega arith) b))

word_full : (lo n : ℕ) → lo + n ≤ 64 → first_not (set_in 18446744073709551615) lo n ≡ n
word_full lo n h =
    let r = run_word 18446744073709551615 lo n (lit< tt) h in
    sym (rw (zero-div, trailing_of_zero) at r) ∙ omega arith

-- ---- the search of a range by such runs

-- a search of fewer bits
first_cut : (m : List ℕ) (at k n : ℕ) → k ≤ n → first_clear m at k ≡ min k (first_clear m at n)
unfolding first_clear
first_cut m at zero n h = omega arith
first_cut m at (suc k) zero h = absurd (omega arith)
first_cut m at (suc k) (suc n) h =
    ⊎_elim
    (λ z. rw (first_stops m at k z, first_stops m at n z) (omega arith))
    (λ s. rw (first_passes m at k s, first_passes m at n s) (omega (arith, first_cut m (suc at) k n (omega arith))))
    (bit_cases m at)

-- set bits are passed
first_skip : (m : List ℕ) (at k n : ℕ) → k ≤ first_clear m at n → first_clear m at n ≡ k + first_clear m (at + k) (n - k)
unfolding first_clear
first_skip m at zero n h = rw (add-zero, sub-zero, zero-add)
first_skip m at (suc k) zero h = absurd (omega arith)
first_skip m at (suc k) (suc n) h =
    ⊎_elim
    (λ z. absurd (omega (arith, first_stops m at n z)))
    (λ s.
    let l : k ≤ first_clear m (suc at) n = omega (arith, first_passes m at n s) in
    let e : suc n - suc k ≡ n - k = omega arith in
    rw (first_passes m at n s, e, add-suc, ← suc-add at k, suc-add k) (ap suc (first_skip m (suc at) k n l)))
    (bit_cases m at)

-- a search in one word
word_bit : (m : List ℕ) (q o : ℕ) → o < 64 → eqb (bit_at m (64 * q + o)) 1 ≡ set_in (get_or m q 0) o
unfolding bit_at
word_bit m q o l =
    let d : (64 * q + o) / 64 ≡ q = omega arith in
    let r : (64 * q + o) % 64 ≡ o = omega arith in
    rw (d, r)

first_word : (m : List ℕ) (i n : ℕ) → i % 64 + n ≤ 64 → first_clear m i n ≡ first_not (set_in (get_or m (i / 64) 0)) (i % 64) n
first_word m i n h =
    let e : i ≡ 64 * (i / 64) + i % 64 = omega arith in
    ap (λ (x : ℕ). first_clear m x n) e
    ∙ first_cover m (set_in (get_or m (i / 64) 0)) (64 * (i / 64)) 64 (word_bit m (i / 64)) (i % 64) n h

-- the run of set bits at i, in the k bits from j on that are a range's part in one word
same_word : (j i k end : ℕ) → j ≤ i → i < j + k → k ≡ min (64 - j % 64) (end - j)
    → (i / 64 ≡ j / 64) × (i % 64 + (j + k - i) ≤ 64) × (j + k - i ≤ end - i)
same_word j i k end p q e = omega arith

word_run : (m : List ℕ) (i k n : ℕ) → i % 64 + k ≤ 64 → k ≤ n → first_not (set_in (get_or m (i / 64) 0)) (i % 64) k ≡ min k (first_clear m i n)
word_run m i k n h l = sym (first_word m i k h) ∙ first_cut m i k n l

pub first_run : (m : List ℕ) (j i k end r : ℕ) → j ≤ i → i < j + k → k ≡ min (64 - j % 64) (end - j)
    → r ≡ first_not (set_in (get_or m (j / 64) 0)) (i % 64) (j + k - i)
    → (i + r ≤ j + k) × (r ≤ first_clear m i (end - i)) × (r ≡ 0 → first_clear m i (end - i) ≡ 0)
first_run m j i k end r p q e f =
    let w = same_word j i k end p q e in
    let t : r ≡ min (j + k - i) (first_clear m i (end - i)) = f ∙ rw (← w.0) (word_run m i (j + k - i) (end - i) w.1 w.2) in
    of_min i (j + k) r (first_clear m i (end - i)) q t
  where
    of_min : (i s r all : ℕ) → i < s → r ≡ min (s - i) all → (i + r ≤ s) × (r ≤ all) × (r ≡ 0 → all ≡ 0)
    of_min i s r all h e = (omega arith, omega arith, λ z. omega arith)

-- the bits of a full word are passed
first_full : (m : List ℕ) (i k n : ℕ) → get_or m (i / 64) 0 ≡ 18446744073709551615 → i % 64 + k ≤ 64 → k ≤ n → k ≤ first_clear m i n
first_full m i k n w h l =
    omega (arith, word_run m i k n h l, ap (λ (x : ℕ). first_not (set_in x) (i % 64) k) w, word_full (i % 64) k h)

-- so are those of full words, one after the other
full_words : (r : ℕ) (m : List ℕ) (q n : ℕ) → ((j : ℕ) → j < r → get_or m (q + j) 0 ≡ 18446744073709551615) → 64 * r ≤ n → 64 * r ≤ first_clear m (64 * q) n
full_words zero m q n f h = omega arith
full_words (suc r) m q n f h =
    let at : 64 * q / 64 ≡ q + 0 = omega arith in
    let one = first_full m (64 * q) 64 n (ap (λ (j : ℕ). get_or m j 0) at ∙ f 0 (omega arith)) (omega arith) (omega arith) in
    let next : 64 * q + 64 ≡ 64 * suc q = omega arith in
    let skip = rw next at (first_skip m (64 * q) 64 n one) in
    let rest = full_words r m (suc q) (n - 64) (λ j l. rw (suc-add, ← add-suc) (f (suc j) (omega arith))) (omega arith) in
    omega arith

-- a full word, of which the range has k bits, and the run of full words behind it, of those that the range has whole
pub full_run_lem : (m : List ℕ) (i k end r : ℕ) → get_or m (i / 64) 0 ≡ 18446744073709551615 → i < end → k ≡ min (64 - i % 64) (end - i) → end ≤ 64 * length m
    → r ≡ full_run (take (end / 64 - (i + k) / 64) (drop ((i + k) / 64) m))
    → (i + k + 64 * r ≤ end) × (k + 64 * r ≤ first_clear m i (end - i))
full_run_lem m i k end r w more e h f =
    let q = (i + k) / 64 in
    let n = end / 64 - q in
    let ws = take n (drop q m) in
    let size : length ws ≡ n = simp (length-take, length-drop) (omega arith) in
    let few : r ≤ n = omega (arith, f, run_le ws) in
    let head = first_full m i k (end - i) w (omega arith) (omega arith) in
    ⊎_elim
    (λ (z : n ≡ 0). (omega arith, omega arith))
    (λ (ne : n ≡ 0 → ⊥).
    let from : 64 * q ≡ i + k = omega arith in
    let full : (j : ℕ) → j < r → get_or m (q + j) 0 ≡ 18446744073709551615 = λ j l.
    sym (get_or-take n (drop q m) j 0 (omega arith) ∙ get_or-drop q m j 0) ∙ run_full ws j (omega arith) in
    let rest = rw from at (full_words r m q (end - i - k) full (omega arith)) in
    (omega arith, omega (arith, first_skip m i k (end - i) head)))
    (eq_or_ne n 0)

-- a search goes on past k set bits
pub first_pass : (m : List ℕ) (at i k end all : ℕ) → at ≤ i → k ≤ first_clear m i (end - i) → all ≡ (i - at) + first_clear m i (end - i)
    → all ≡ (i + k - at) + first_clear m (i + k) (end - (i + k))
first_pass m at i k end all p l e =
    let q : end - i - k ≡ end - (i + k) = omega arith in
    let s = rw q at (first_skip m i k (end - i) l) in
    omega arith
