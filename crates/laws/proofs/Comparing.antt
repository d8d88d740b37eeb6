-- Comparisons of numbers, as tests and as facts.
use Prim.Native.Nat.{ℕ, ◌≤◌, ◌<◌}
use borrow.Author.Tests.{leb-true, leb-false, eqb-true, eqb-false, lt-ltb, le-ltb, le-leb, eq-eqb, ne_eqb}
use lib.Dec.{leb, ltb, eqb}
use mathlib.Core.Bool.{Bool, true, false, ◌&&◌}
use mathlib.Core.Logic.{◌⊎◌, ◌↔◌, inl, inr}
use mathlib.Core.Path.{◌≡◌, refl, sym, ◌∙◌}
use native.Mathlib.Decide.{dec_lt, ℕ_discrete}
use native.Mathlib.Omega.{arith}
use Rattle.laws.proofs.Choosing.{and_intro, and_left, and_right}

-- ---- the cases of an order and of an equation

pub le_or_lt : (a b : ℕ) → (a ≤ b) ⊎ (b < a)
le_or_lt a b = go (leb a b) refl
  where
    go : (t : Bool) → leb a b ≡ t → (a ≤ b) ⊎ (b < a)
    go true e = inl (leb-true a b e)
    go false e = inr (leb-false a b e)

pub eq_or_ne : (a b : ℕ) → (a ≡ b) ⊎ (a ≡ b → ⊥)
eq_or_ne a b = go (eqb a b) refl
  where
    go : (t : Bool) → eqb a b ≡ t → (a ≡ b) ⊎ (a ≡ b → ⊥)
    go true e = inl (eqb-true a b e)
    go false e = inr (eqb-false a b e)

-- ---- tests that are equal

-- two comparisons that hold together
module _ (a b x y : ℕ) where
  pub ltb_same : (a < b → x < y) → (x < y → a < b) → ltb a b ≡ ltb x y
  ltb_same f g = go (dec_lt a b)
    where
      go : Dec (a < b) → ltb a b ≡ ltb x y
      go (yes h) = lt-ltb a b h ∙ sym (lt-ltb x y (f h))
      go (no h) = le-ltb a b (omega (arith, h)) ∙ sym (le-ltb x y (other (dec_lt x y)))
        where
          other : Dec (x < y) → y ≤ x
          other (yes k) = absurd (h (g k))
          other (no k) = omega (arith, k)

-- a range that ends beyond does not end by
pub beyond : (a b : ℕ) → leb a b ≡ true → ltb b a ≡ false
beyond a b e = le-ltb b a (leb-true a b e)

pub not_beyond : (a b : ℕ) → leb a b ≡ false → ltb b a ≡ true
not_beyond a b e = lt-ltb b a (leb-false a b e)

pub eqb_sym : (a b : ℕ) → eqb a b ≡ eqb b a
eqb_sym a b = elim (ℕ_discrete a b) as (λ d. eqb a b ≡ eqb b a) [
  | yes e ↦ eq-eqb a b e ∙ sym (eq-eqb b a (sym e))
  | no e ↦ ne_eqb a b e ∙ sym (ne_eqb b a (λ x. e (sym x)))
]

-- ---- tests in words

-- a conjunction of two tests in words
pub both_tests : {a b : Bool} {A B : Type 0} → (a ≡ true) ↔ A → (b ≡ true) ↔ B → ((a && b) ≡ true) ↔ (A × B)
both_tests {a} {b} p q = (λ e. (p.0 (and_left a b e), q.0 (and_right a b e)), λ w. and_intro a b (p.1 w.0) (q.1 w.1))

pub le_words : (m n : ℕ) → (leb m n ≡ true) ↔ (m ≤ n)
le_words m n = (leb-true m n, le-leb m n)

pub eq_words : (m n : ℕ) → (eqb m n ≡ true) ↔ (m ≡ n)
eq_words m n = (eqb-true m n, eq-eqb m n)
