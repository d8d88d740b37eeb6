-- Whole words passed one after the other (specs/WholeWords.antt): how a pass goes on by a word, and what it has at its end.
use Prim.Native.Nat.{ℕ, zero, suc, ◌+◌, ◌≤◌, ◌<◌}
use borrow.Author.Tests.{eqb-true, ne_eqb}
use lib.Bits.{bit_or, or_zero_r}
use lib.Count.{ones}
use lib.Dec.{eqb}
use lib.ListN.{length, get_or, drop, drop_of_length-le}
use lib.Seq.{drop-cons}
use mathlib.Core.List.{List, [], ◌∷◌}
use mathlib.Core.Path.{◌≡◌, sym, ◌∙◌}
use native.Mathlib.Nat.{add_assoc, add-zero, add-suc, suc-add}
use native.Mathlib.Numerals.{add-one}
use native.Mathlib.Omega.{arith}
use Rattle.laws.specs.Choose.{pick}
use Rattle.laws.proofs.Choosing.{branch}
use Rattle.bitmap.specs.WholeWords.{full_run, ones_of, or_of}
use Rattle.bitmap.proofs.Word.{or_assoc}

module _ (ws : List ℕ) (k : ℕ) where
  -- with the word k
  module _ (h : k < length ws) where
    pub or_turn : (seen all : ℕ) → all ≡ bit_or seen (or_of (drop k ws)) → all ≡ bit_or (bit_or seen (get_or ws k 0)) (or_of (drop (k + 1) ws))
    unfolding or_of
    or_turn seen all e = e ∙ rw (drop-cons ws k 0 h, add-one) (sym (or_assoc seen (get_or ws k 0) _))

    pub ones_turn : (total all : ℕ) → all ≡ total + ones_of (drop k ws) → all ≡ total + ones (get_or ws k 0) + ones_of (drop (k + 1) ws)
    unfolding ones_of
    ones_turn total all e = e ∙ rw (drop-cons ws k 0 h, add-one) (sym (add_assoc total (ones (get_or ws k 0)) _))

    -- a full word is passed, and another ends the run
    pub run_turn : (all : ℕ) → all ≡ k + full_run (drop k ws) → get_or ws k 0 ≡ 18446744073709551615 → all ≡ k + 1 + full_run (drop (k + 1) ws)
    unfolding full_run pick
    run_turn all e full = let t = rw (drop-cons ws k 0 h, full) at e in t ∙ rw add-one (add-suc k _ ∙ sym (suc-add k _))

    pub run_stop : (all : ℕ) → all ≡ k + full_run (drop k ws) → (get_or ws k 0 ≡ 18446744073709551615 → ⊥) → all ≡ k
    unfolding full_run pick
    run_stop all e ne = let t = rw (drop-cons ws k 0 h, ne_eqb _ 18446744073709551615 ne) at e in t ∙ add-zero k

  -- behind the last word
  module _ (h : length ws ≤ k) where
    pub or_end : (seen all : ℕ) → all ≡ bit_or seen (or_of (drop k ws)) → all ≡ seen
    unfolding or_of
    or_end seen all e = e ∙ rw (drop_of_length-le ws h) (or_zero_r seen)

    pub ones_end : (total all : ℕ) → all ≡ total + ones_of (drop k ws) → all ≡ total
    unfolding ones_of
    ones_end total all e = e ∙ rw (drop_of_length-le ws h) (add-zero total)

    pub run_end : (all : ℕ) → all ≡ k + full_run (drop k ws) → all ≡ k
    unfolding full_run
    run_end all e = e ∙ rw (drop_of_length-le ws h) (add-zero k)

-- ---- the words of a run are full

pub run_le : (ws : List ℕ) → full_run ws ≤ length ws
unfolding full_run
run_le [] = omega arith
run_le (w ∷ ws) =
    branch (λ (r : ℕ). r ≤ suc (length ws)) (eqb w 18446744073709551615) (suc (full_run ws)) 0 (λ t. omega (arith, run_le ws)) (λ t. omega arith)

pub run_full : (ws : List ℕ) (j : ℕ) → j < full_run ws → get_or ws j 0 ≡ 18446744073709551615
unfolding full_run
run_full [] j h = absurd (omega arith)
run_full (w ∷ ws) zero h =
    branch (λ (r : ℕ). 0 < r → w ≡ 18446744073709551615) (eqb w 18446744073709551615) (suc (full_run ws)) 0
    (λ t l. eqb-true w 18446744073709551615 t) (λ t l. absurd (omega arith)) h
run_full (w ∷ ws) (suc j) h =
    branch (λ (r : ℕ). suc j < r → get_or ws j 0 ≡ 18446744073709551615) (eqb w 18446744073709551615) (suc (full_run ws)) 0
    (λ t l. run_full ws j (omega arith)) (λ t l. absurd (omega arith)) h
