-- Laws of `tabulate`, `flat` and `same`, over any element, the turns of the loops that fill a list and put words side by side, and the equality of slices.
use Prim.Native.Nat.{ℕ, zero, suc, ◌+◌, ◌*◌, ◌≤◌, ◌<◌}
use borrow.Author.Tests.{eq-eqb, eqb-true}
use lib.Dec.{eqb}
use lib.Pointwise.{pointwise}
use lib.ListN.{length, get_or, take, set, length-append, drop_of_length-le}
use lib.Seq.{length-take-le, take_all, take-suc, get_or-take, ext_get_or, paste, paste-suc}
use mathlib.Core.Bool.{Bool, true, false, ◌&&◌, false≢true}
use mathlib.Core.List.{List, [], ◌∷◌, ◌++◌, append-nil, append_assoc}
use mathlib.Core.Path.{◌≡◌, refl, sym, ap, ap₂, ◌∙◌}
use native.Mathlib.Nat.{mul-zero, mul-suc, zero-add, mul-le-mul_left}
use native.Mathlib.Numerals.{add-one}
use native.Mathlib.Omega.{arith}
use Rattle.laws.specs.Parts.{store_at}
use Rattle.state_words.specs.Flat.{tabulate, flat, same}
use Rattle.laws.proofs.Choosing.{and_left, and_right}
use Rattle.laws.proofs.Storing.{store_next}

module _ {A : Type 0} where
  -- ---- a list by the places

  pub length_tabulate : (f : ℕ → A) (k : ℕ) → length (tabulate f k) ≡ k
  unfolding tabulate
  length_tabulate f zero = refl
  length_tabulate f (suc k) = ap suc (length_tabulate (λ i. f (suc i)) k)

  pub get_d_tabulate : (f : ℕ → A) (k i : ℕ) (d : A) → i < k → get_or (tabulate f k) i d ≡ f i
  unfolding tabulate
  get_d_tabulate f zero i d h = absurd (omega arith)
  get_d_tabulate f (suc k) zero d h = refl
  get_d_tabulate f (suc k) (suc i) d h = get_d_tabulate (λ j. f (suc j)) k i d (omega arith)

  -- the elements of a list, by their places, are the list
  pub tabulate_is : (f : ℕ → A) (k : ℕ) (l : List A) (d : A) → length l ≡ k → ((i : ℕ) → i < k → f i ≡ get_or l i d) → tabulate f k ≡ l
  tabulate_is f k l d e each =
      ext_get_or d (tabulate f k) l (length_tabulate f k ∙ sym e)
      (λ i h. let h' : i < k = omega (arith, length_tabulate f k) in get_d_tabulate f k i d h' ∙ each i h')

  -- one element more is set
  pub tabulate_turn : (f : ℕ → A) (k : ℕ) (l₀ l : List A) (i : ℕ) → length l₀ ≡ k → i < k → l ≡ paste l₀ 0 (tabulate f k) i
      → set l i (f i) ≡ paste l₀ 0 (tabulate f k) (i + 1)
  tabulate_turn f k l₀ l i len h e =
      let here : get_or (tabulate f k) i (f 0) ≡ f i = get_d_tabulate f k i (f 0) h in
      let fits : i < length (tabulate f k) = omega (arith, length_tabulate f k) in
      let inside : 0 + i < length l₀ = omega arith in
      rw (e, ← here, add-one, ← paste-suc l₀ 0 (tabulate f k) i (f 0) inside fits, zero-add)

  -- all are set
  pub tabulate_all : (f : ℕ → A) (k : ℕ) (l₀ : List A) → length l₀ ≡ k → paste l₀ 0 (tabulate f k) k ≡ tabulate f k
  tabulate_all f k l₀ len =
      let all : length (tabulate f k) ≤ k = omega (arith, length_tabulate f k) in
      let none : length l₀ ≤ 0 + k = omega arith in
      rw (take_all k (tabulate f k) all, drop_of_length-le l₀ none) (append-nil (tabulate f k))

  -- ---- the words of all elements

  pub flat_append : (f : A → List ℕ) (a b : List A) → flat f (a ++ b) ≡ flat f a ++ flat f b
  unfolding flat
  flat_append f [] b = refl
  flat_append f (x ∷ a) b = rw (flat_append f a b) (sym (append_assoc (f x) (flat f a) (flat f b)))

  pub flat_next : (f : A → List ℕ) (l : List A) (i : ℕ) (d : A) → i < length l → flat f (take (i + 1) l) ≡ flat f (take i l) ++ f (get_or l i d)
  unfolding flat
  flat_next f l i d h = rw (add-one, take-suc l i d h, flat_append) (rw append-nil)

  -- each element has c words
  pub length_flat : (f : A → List ℕ) (c : ℕ) (l : List A) (d : A) → ((i : ℕ) → i < length l → length (f (get_or l i d)) ≡ c) → length (flat f l) ≡ c * length l
  unfolding flat
  length_flat f c [] d each = sym (mul-zero c)
  length_flat f c (x ∷ l) d each =
      let rest = length_flat f c l d (λ i h. each (suc i) (omega arith)) in
      omega (arith, length-append (f x) (flat f l), each 0 (omega arith), rest, mul-suc c (length l))

  module _ (f : A → List ℕ) (c : ℕ) (l : List A) (d : A) (each : (i : ℕ) → i < length l → length (f (get_or l i d)) ≡ c) where
    pub length_flat_take : (i : ℕ) → i ≤ length l → length (flat f (take i l)) ≡ c * i
    length_flat_take i h =
        let size : length (take i l) ≡ i = length-take-le i l h in
        length_flat f c (take i l) d (λ j k. ap (λ (x : A). length (f x)) (get_or-take i l j d (omega arith)) ∙ each j (omega arith)) ∙ ap (λ (n : ℕ). c * n) size

    -- the words of one element more are stored
    pub flat_turn : (w : List ℕ) (at i k : ℕ) → i < length l → k ≡ at + c * i → at + c * length l ≤ length w
        → store_at (store_at w at (flat f (take i l))) k (f (get_or l i d)) ≡ store_at w at (flat f (take (i + 1) l))
    flat_turn w at i k h e fits =
        let past : length (flat f (take i l)) ≡ c * i = length_flat_take i (omega arith) in
        let inside : c * suc i ≤ c * length l = mul-le-mul_left c (omega arith) in
        rw (flat_next f l i d h)
        (store_next w at (flat f (take i l)) (f (get_or l i d)) k (omega arith) (omega (arith, each i h, inside, mul-suc c i)))

-- ---- the same words

pub same_refl : (a : List ℕ) → same a a ≡ true
unfolding same
same_refl [] = refl
same_refl (x ∷ a) = rw (eq-eqb x x refl) (same_refl a)

pub same_true : (a b : List ℕ) → same a b ≡ true → a ≡ b
unfolding same
same_true [] [] e = refl
same_true [] (y ∷ b) e = absurd (false≢true e)
same_true (x ∷ a) [] e = absurd (false≢true e)
same_true (x ∷ a) (y ∷ b) e =
    ap₂ (λ (n : ℕ) (l : List ℕ). n ∷ l) (eqb-true x y (and_left (eqb x y) (same a b) e)) (same_true a b (and_right (eqb x y) (same a b) e))

pub same_lengths : (a b : List ℕ) → (length a ≡ length b → ⊥) → same a b ≡ false
unfolding same
same_lengths [] [] n = absurd (n refl)
same_lengths [] (y ∷ b) n = refl
same_lengths (x ∷ a) [] n = refl
same_lengths (x ∷ a) (y ∷ b) n = rw (same_lengths a b (λ e. n (ap suc e))) (and_false (eqb x y))
  where
    and_false : (t : Bool) → (t && false) ≡ false
    and_false true = refl
    and_false false = refl

-- the library's equality of slices
pub same_pointwise : (a b : List ℕ) → pointwise eqb a b ≡ same a b
unfolding same
same_pointwise [] [] = refl
same_pointwise [] (y ∷ b) = refl
same_pointwise (x ∷ a) [] = refl
same_pointwise (x ∷ a) (y ∷ b) = ap (λ (t : Bool). eqb x y && t) (same_pointwise a b)
