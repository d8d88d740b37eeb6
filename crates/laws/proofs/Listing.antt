-- Laws of lists by their elements, with a default behind their end.
use Prim.Native.Nat.{ℕ, zero, suc, ◌<◌}
use lib.ListN.{length, get_or, drop, set, replicate, length-set, length-map}
use lib.Seq.{drop-cons, drop-set-lt, get_or-set_same}
use mathlib.Core.List.{List, [], ◌∷◌, map}
use mathlib.Core.Logic.{◌⊎◌, inl, inr, ⊎_elim, ⊎_map}
use mathlib.Core.Path.{◌≡◌, refl, sym, ap, ◌∙◌}
use native.Mathlib.Omega.{arith}

module _ {A : Type 0} where
  -- an element replaced: what stands at each place
  pub set_cases : (l : List A) (i : ℕ) (a d : A) (j : ℕ) → ((j ≡ i) × (get_or (set l i a) j d ≡ a)) ⊎ (get_or (set l i a) j d ≡ get_or l j d)
  set_cases [] i a d j = inr refl
  set_cases (x ∷ l) zero a d zero = inl (refl, refl)
  set_cases (x ∷ l) zero a d (suc j) = inr refl
  set_cases (x ∷ l) (suc i) a d zero = inr refl
  set_cases (x ∷ l) (suc i) a d (suc j) = ⊎_map (λ w. (ap suc w.0, w.1)) (λ w. w) (set_cases l i a d j)

  -- what holds of it and of all that stood there holds of all
  pub set_each : (P : A → Type 0) (l : List A) (i : ℕ) (a d : A) → P a → ((j : ℕ) → P (get_or l j d)) → (j : ℕ) → P (get_or (set l i a) j d)
  set_each P l i a d p f j = ⊎_elim (λ w. rw w.1 p) (λ w. rw w (f j)) (set_cases l i a d j)

  -- an element that is not the default stands in the list
  pub set_there : (l : List A) (i : ℕ) (a d : A) → (get_or l i d ≡ d → ⊥) → get_or (set l i a) i d ≡ a
  set_there [] i a d n = absurd (n refl)
  set_there (x ∷ l) zero a d n = refl
  set_there (x ∷ l) (suc i) a d n = set_there l i a d n

  pub replicate_each : (n : ℕ) (a : A) (j : ℕ) → get_or (replicate n a) j a ≡ a
  replicate_each zero a j = refl
  replicate_each (suc n) a zero = refl
  replicate_each (suc n) a (suc j) = replicate_each n a j

-- one default for another, inside a list
pub get_d_any : {A : Type 0} (l : List A) (i : ℕ) (d e : A) → i < length l → get_or l i d ≡ get_or l i e
get_d_any [] i d e h = absurd (omega arith)
get_d_any (x ∷ l) zero d e h = refl
get_d_any (x ∷ l) (suc i) d e h = get_d_any l i d e (omega arith)

-- an element is set, and what stands from there on
pub drop_set : {A : Type 0} (l : List A) (i : ℕ) (a : A) → i < length l → drop i (set l i a) ≡ a ∷ drop (suc i) l
drop_set l i a h =
    rw (drop-cons (set l i a) i a (rw length-set h), get_or-set_same l i a a h, drop-set-lt (suc i) l i a (omega arith))

-- an array's length
pub length_mapped : {A B : Type 0} (f : A → B) (l : List A) (n : ℕ) → length (map f l) ≡ n → length l ≡ n
length_mapped f l n e = sym (length-map l f) ∙ e
