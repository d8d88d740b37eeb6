-- Laws of `pick` and of Bool tests.
use Prim.Native.Nat.{ℕ, zero, suc, ◌≤◌}
use lib.ListN.{get_or}
use mathlib.Core.Bool.{Bool, true, false, ◌&&◌, ◌||◌, true≢false, false≢true}
use mathlib.Core.List.{List, [], ◌∷◌}
use mathlib.Core.Logic.{◌⊎◌, inl, inr, ⊎_elim}
use mathlib.Core.Path.{◌≡◌, refl, sym, ◌∙◌}
use native.Mathlib.Nat.{le_refl}
use native.Mathlib.Omega.{arith}
use Rattle.laws.specs.Choose.{pick}

-- ---- a choice

pub pick_true : {A : Type 0} {t : Bool} (a b : A) → t ≡ true → pick t a b ≡ a
unfolding pick
pick_true a b e = rw e

pub pick_false : {A : Type 0} {t : Bool} (a b : A) → t ≡ false → pick t a b ≡ b
unfolding pick
pick_false a b e = rw e

-- what a choice was made from
pub pick_cases : {A : Type 0} (t : Bool) (a b c : A) → pick t a b ≡ c → ((t ≡ true) × (a ≡ c)) ⊎ ((t ≡ false) × (b ≡ c))
unfolding pick
pick_cases true a b c e = inl (refl, e)
pick_cases false a b c e = inr (refl, e)

-- a choice that is not the other result
pub pick_first : {A : Type 0} (t : Bool) (a b c : A) → (b ≡ c → ⊥) → pick t a b ≡ c → (t ≡ true) × (a ≡ c)
pick_first t a b c n e = ⊎_elim (λ h. h) (λ h. absurd (n h.1)) (pick_cases t a b c e)

pub pick_second : {A : Type 0} (t : Bool) (a b c : A) → (a ≡ c → ⊥) → pick t a b ≡ c → (t ≡ false) × (b ≡ c)
pick_second t a b c n e = ⊎_elim (λ h. absurd (n h.1)) (λ h. h) (pick_cases t a b c e)

-- a property of a choice, from the property of each side, with the test's value known there
pub branch : {A : Type 0} (P : A → Type 0) (t : Bool) (a b : A) → (t ≡ true → P a) → (t ≡ false → P b) → P (pick t a b)
unfolding pick
branch P true a b f g = f refl
branch P false a b f g = g refl

-- what holds of both results holds of the choice
pub pick_either : {A : Type 0} (P : A → Type 0) (t : Bool) {a b : A} → P a → P b → P (pick t a b)
pick_either P t {a} {b} p q = branch P t a b (λ x. p) (λ x. q)

-- a number that is there or not
pub pick_small : (t : Bool) (n : ℕ) → pick t n 0 ≤ n
pick_small t n = pick_either (λ (k : ℕ). k ≤ n) t (le_refl n) (omega arith)

-- a function goes into a choice
pub pick_ap : {A B : Type 0} (f : A → B) (t : Bool) (a b : A) → f (pick t a b) ≡ pick t (f a) (f b)
unfolding pick
pick_ap f true a b = refl
pick_ap f false a b = refl

-- two choices by one test, side by side
pub in_step : {A B : Type 0} (f : A → B) {t u : Bool} (a b : A) (a' b' : B) → t ≡ u → (t ≡ true → f a ≡ a') → (t ≡ false → f b ≡ b')
    → f (pick t a b) ≡ pick u a' b'
unfolding pick
in_step f {t = true} {u = true} a b a' b' e x y = x refl
in_step f {t = false} {u = false} a b a' b' e x y = y refl
in_step f {t = true} {u = false} a b a' b' e x y = absurd (true≢false e)
in_step f {t = false} {u = true} a b a' b' e x y = absurd (false≢true e)

-- ---- tests

-- a test passes or fails
pub tested : (t : Bool) → (t ≡ true) ⊎ (t ≡ false)
tested true = inl refl
tested false = inr refl

-- and not both
pub clashing : {C : Type 0} (t : Bool) → t ≡ true → t ≡ false → C
clashing t p q = absurd (true≢false (sym p ∙ q))

-- a conjunction that holds has both parts
pub and_left : (a b : Bool) → (a && b) ≡ true → a ≡ true
and_left true b e = refl
and_left false b e = e

pub and_right : (a b : Bool) → (a && b) ≡ true → b ≡ true
and_right true b e = e
and_right false b e = absurd (false≢true e)

pub and_intro : (a b : Bool) → a ≡ true → b ≡ true → (a && b) ≡ true
and_intro a b p q = rw (p, q)

-- a disjunction that holds has a part that holds
pub or_cases : (a b : Bool) → (a || b) ≡ true → (a ≡ true) ⊎ (b ≡ true)
or_cases true b e = inl refl
or_cases false b e = inr e

-- a disjunction that fails fails in both parts
pub or_left : (a b : Bool) → (a || b) ≡ false → a ≡ false
or_left true b e = e
or_left false b e = refl

pub or_right : (a b : Bool) → (a || b) ≡ false → b ≡ false
or_right true b e = absurd (true≢false e)
or_right false b e = e

pub or_neither : (a b : Bool) → a ≡ false → b ≡ false → (a || b) ≡ false
or_neither a b p q = rw (p, q)

-- the tests of a list, all of which pass
abbrev pub all_true : List Bool → Bool
all_true [] = true
all_true (t ∷ ts) = t && all_true ts

pub all_true_lem : (ts : List Bool) → all_true ts ≡ true → (i : ℕ) → get_or ts i true ≡ true
all_true_lem [] e i = refl
all_true_lem (t ∷ ts) e zero = and_left t (all_true ts) e
all_true_lem (t ∷ ts) e (suc i) = all_true_lem ts (and_right t (all_true ts) e) i
