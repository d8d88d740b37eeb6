-- A range counted word by word, and tested by the count.
use Prim.Native.Nat.{ℕ, zero, suc, ◌+◌, ◌-◌, ◌*◌, ◌/◌, ◌%◌, ◌^◌, ◌≤◌, ◌<◌}
use borrow.Author.Tests.{ne_eqb}
use lib.Arith.{bin_ind}
use lib.Bits.{bit_or, and_high, and_le_l, and_le_r, or_add_and}
use lib.Count.{ones, ones_in, ones_cat, ones_step}
use lib.Dec.{eqb, lit<}
use lib.ListN.{length, get_or, take, drop}
use lib.Pow.{pow_pos, shr-shr, mod-pow-add}
use lib.Seq.{drop-cons}
use mathlib.Core.Bool.{not, ◌||◌}
use mathlib.Core.List.{List, [], ◌∷◌}
use mathlib.Core.Logic.{⊎_elim}
use mathlib.Core.Path.{◌≡◌, refl, sym, ap, ◌∙◌}
use native.Mathlib.Nat.{add_assoc, add-zero, zero-add, add-suc, add_comm, mod-lt, mod-one}
use native.Mathlib.Numerals.{one-add}
use native.Mathlib.Omega.{arith}
use Rattle.laws.specs.Parts.{part}
use Rattle.laws.proofs.Comparing.{eq_or_ne}
use Rattle.laws.proofs.Storing.{lent_part}
use Rattle.bitmap.specs.Map.{bit, bit_at, count_set, touched}
use Rattle.bitmap.specs.Mask.{part_of}
use Rattle.bitmap.specs.Ranges.{split_of}
use Rattle.bitmap.specs.WholeWords.{ones_of, or_of}
use Rattle.bitmap.specs.declared.ranges.ThreeParts.{ThreeParts}
use Rattle.bitmap.proofs.BitLaws.{bit_at_small}
use Rattle.bitmap.proofs.SplitLaws.{in_parts, placed}
use Rattle.bitmap.proofs.Stores.{AreWords, part_whole}

-- ---- counting

pub count_add : (m : List ℕ) (at k n : ℕ) → count_set m at (k + n) ≡ count_set m at k + count_set m (at + k) n
unfolding count_set
count_add m at k zero = rw (add-zero k, add-zero (count_set m at k))
count_add m at k (suc n) = rw (add-suc, count_add m at k n, add_assoc (count_set m at k), add_assoc at)

pub count_le : (m : List ℕ) (at n : ℕ) → count_set m at n ≤ n
unfolding count_set
count_le m at zero = omega arith
count_le m at (suc n) = omega (arith, count_le m at n, bit_at_small m (at + n))

ones_small : (b : ℕ) → b < 2 → ones b ≡ b
unfolding ones ones_in
ones_small zero h = refl
ones_small (suc zero) h = refl
ones_small (suc (suc b)) h = absurd (omega arith)

ones_suc : (x n : ℕ) → ones (x % 2 ^ suc n) ≡ ones (x % 2 ^ n) + x / 2 ^ n % 2
ones_suc x n =
    let e = mod-pow-add x 1 n in
    ap ones (rw one-add at e) ∙ ones_cat n (x / 2 ^ n % 2 ^ 1) (x % 2 ^ n) (mod-lt x (pow_pos n))
    ∙ rw (ones_small (x / 2 ^ n % 2) (mod-lt _ (lit< tt))) (add_comm _ _)

count_shifted : (m : List ℕ) (i n : ℕ) → i % 64 + n ≤ 64 → count_set m i n ≡ ones (get_or m (i / 64) 0 / 2 ^ (i % 64) % 2 ^ n)
unfolding count_set bit_at bit ones ones_in
count_shifted m i zero h = rw mod-one
count_shifted m i (suc n) h =
    let q : (i + n) / 64 ≡ i / 64 = omega arith in
    let r : (i + n) % 64 ≡ i % 64 + n = omega arith in
    rw (ones_suc, ← count_shifted m i n (omega arith), q, r, shr-shr)

count_word : (m : List ℕ) (i n : ℕ) → i % 64 + n ≤ 64 → ones (part_of m i n) ≡ count_set m i n
count_word m i n h =
    let w = get_or m (i / 64) 0 in
    let e = ones_cat (i % 64) (w / 2 ^ (i % 64) % 2 ^ n) 0 (pow_pos (i % 64)) in
    rw (and_high w n (i % 64), count_shifted m i n h) (rw (add-zero, ones_small 0 (lit< tt), add-zero) at e)

-- a number that is a part of the map has as many ones as the map has bits there, and no more than its length
pub part_count : (m : List ℕ) (i n r : ℕ) → i % 64 + n ≤ 64 → r ≡ part_of m i n → (ones r ≡ count_set m i n) × (ones r ≤ n)
part_count m i n r h e =
    let t = ap ones e ∙ count_word m i n h in
    (t, rw t (count_le m i n))

-- a whole word, and the words from k on
whole_count : (m : List ℕ) (k : ℕ) → AreWords m → ones (get_or m k 0) ≡ count_set m (64 * k) 64
whole_count m k ok =
    let at : 64 * k / 64 ≡ k = omega arith in
    ap (λ (j : ℕ). ones (get_or m j 0)) (sym at)
    ∙ (part_count m (64 * k) 64 _ (omega arith) (sym (part_whole m (64 * k) (omega arith) (ok (64 * k / 64))))).0

count_words : (n : ℕ) (m : List ℕ) (k : ℕ) → AreWords m → k + n ≤ length m → ones_of (part m k n) ≡ count_set m (64 * k) (64 * n)
unfolding ones_of count_set part
count_words zero m k ok h = refl
count_words (suc n) m k ok h =
    let more : 64 * suc n ≡ 64 + 64 * n = omega arith in
    let next : 64 * k + 64 ≡ 64 * suc k = omega arith in
    rw (drop-cons m k 0 (omega arith), more, count_add m (64 * k) 64 (64 * n), next, ← whole_count m k ok)
    (ap (λ (x : ℕ). ones (get_or m k 0) + x) (count_words n m (suc k) ok (omega arith)))

-- a range by its parts, as the code has them
pub range_count : (m : List ℕ) (at n p t : ℕ) (s : ThreeParts) → s ≡ split_of at n → at + n ≤ 64 * length m → AreWords m
    → p ≡ part_of m at s.head → t ≡ part_of m (64 * s.last) s.tail
    → count_set m at n ≡ ones p + ones_of (take (s.last - s.first) (drop s.first m)) + ones t
range_count m at n p t s e h ok head tail =
    let x = split_of at n in
    let w = (n - x.head) / 64 in
    let l = placed refl h in
    let a = (part_count m at x.head p l.head_fits (head ∙ rw e)).0 in
    let b = count_words w m x.first ok (omega (arith, l.last_in)) in
    let c = (part_count m (64 * x.last) x.tail t l.tail_fits (tail ∙ rw e)).0 in
    sym (zero-add (count_set m at n))
    ∙ in_parts (λ (y i k : ℕ). y + count_set m i k) (λ y i. unfold count_set in add-zero y)
    (λ y i k j. rw count_add (sym (add_assoc y (count_set m i k) (count_set m (i + k) j)))) 0 at n
    ∙ rw (zero-add, e, lent_part m x.first w, a, b, c)

-- ---- testing

test_or : (c b : ℕ) → b < 2 → (not (eqb c 0) || eqb b 1) ≡ not (eqb (c + b) 0)
test_or (suc c) b h = rw (ne_eqb (suc c) 0 (λ z. omega arith), ne_eqb (suc c + b) 0 (λ z. omega arith))
test_or zero zero h = refl
test_or zero (suc zero) h = refl
test_or zero (suc (suc b)) h = absurd (omega arith)

-- a range is touched if it has a bit to count
touched_count : (m : List ℕ) (at n : ℕ) → touched m at n ≡ not (eqb (count_set m at n) 0)
unfolding touched count_set
touched_count m at zero = refl
touched_count m at (suc n) = rw (touched_count m at n) (test_or (count_set m at n) (bit_at m (at + n)) (bit_at_small m (at + n)))

-- a word has no ones if it is 0, and only then; so have words, if an or of them is 0
NoneIf0 : ℕ → ℕ → Type 0
NoneIf0 count w = (w ≡ 0 → count ≡ 0) × (count ≡ 0 → w ≡ 0)

ones_none : (w : ℕ) → NoneIf0 (ones w) w
unfolding NoneIf0
ones_none w = (
  λ e. rw e (ones_small 0 (lit< tt)),
  bin_ind (λ (w : ℕ). ones w ≡ 0 → w ≡ 0) (λ e. refl) (λ w ih e. omega (arith, ones_step w, ih (omega (arith, ones_step w)))) w,
)

or_none : (c a d b : ℕ) → NoneIf0 c a → NoneIf0 d b → NoneIf0 (c + d) (bit_or a b)
unfolding NoneIf0
or_none c a d b f g =
    let both = or_add_and a b in
    let left = and_le_l a b in
    let right = and_le_r a b in (
      λ e. omega (arith, f.0 (omega arith), g.0 (omega arith)),
      λ e. let x : a ≡ 0 = f.1 (omega arith) in let y : b ≡ 0 = g.1 (omega arith) in rw (x, y),
    )

words_none : (ws : List ℕ) → NoneIf0 (ones_of ws) (or_of ws)
unfolding ones_of or_of NoneIf0
words_none [] = (λ e. refl, λ e. refl)
words_none (w ∷ ws) = or_none (ones w) w (ones_of ws) (or_of ws) (ones_none w) (words_none ws)

-- a range whose bits are those of two words and of words between them is touched if an or of all of them is not 0
pub touched_by : (m : List ℕ) (at n p t : ℕ) (ws : List ℕ) → count_set m at n ≡ ones p + ones_of ws + ones t
    → touched m at n ≡ not (eqb (bit_or (bit_or p (or_of ws)) t) 0)
unfolding NoneIf0
touched_by m at n p t ws e =
    let all = bit_or (bit_or p (or_of ws)) t in
    let x = or_none _ _ _ t (or_none _ p _ _ (ones_none p) (words_none ws)) (ones_none t) in
    touched_count m at n
    ∙ ⊎_elim
    (λ (z : all ≡ 0). let none : count_set m at n ≡ 0 = e ∙ x.0 z in rw (none, z))
    (λ ne. rw (ne_eqb (count_set m at n) 0 (λ z. ne (x.1 (sym e ∙ z))), ne_eqb all 0 ne))
    (eq_or_ne all 0)
