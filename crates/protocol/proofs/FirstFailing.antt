-- An answer that is made by a list of checks is the first failing check's refusal, or what was asked for if none fails.
use Prim.Native.Nat.{ℕ, zero, suc, ◌<◌}
use lib.ListN.{length, get_or}
use mathlib.Core.Bool.{Bool, true, false}
use mathlib.Core.List.{List, [], ◌∷◌}
use mathlib.Core.Logic.{◌⊎◌, ◌↔◌, inl, inr, ⊎_elim}
use mathlib.Core.Path.{◌≡◌, refl, sym, ap, ◌∙◌}
use native.Mathlib.Omega.{arith}
use Rattle.laws.specs.Choose.{pick}
use Rattle.protocol.specs.Checks.{First, Said, gives, refused}
use Rattle.laws.proofs.Choosing.{pick_ap, pick_false, pick_true, tested}

-- the checks one after the other
abbrev pub judged : {C R : Type 0} → (C → Bool) → (C → R) → R → List C → R
judged fails refuse passed [] = passed
judged fails refuse passed (c ∷ cs) = pick (fails c) (refuse c) (judged fails refuse passed cs)

-- a function goes into the checks
pub judged_ap : {C R S : Type 0} (g : R → S) (fails : C → Bool) (refuse : C → R) (passed : R) (cs : List C)
    → g (judged fails refuse passed cs) ≡ judged fails (λ c. g (refuse c)) (g passed) cs
judged_ap g fails refuse passed [] = refl
judged_ap g fails refuse passed (c ∷ cs) =
    pick_ap g (fails c) _ _ ∙ ap (λ x. pick (fails c) (g (refuse c)) x) (judged_ap g fails refuse passed cs)

-- the last check, which no place of the list is past
module _ {C R : Type 0} (last : C) (fails : C → Bool) (refuse : C → R) (passed : R) where
  -- place i of the list cs is the first that fails
  abbrev pub FirstIn : List C → ℕ → Type 0
  FirstIn cs i = (i < length cs) × (fails (get_or cs i last) ≡ true) × ((j : ℕ) → j < i → fails (get_or cs j last) ≡ false)

  -- some place is, or no check fails
  pub first_or_none : (cs : List C) → ((i : ℕ) × FirstIn cs i) ⊎ ((i : ℕ) → i < length cs → fails (get_or cs i last) ≡ false)
  first_or_none [] = inr (λ i l. absurd (omega arith))
  first_or_none (c ∷ cs) = go (tested (fails c)) (first_or_none cs)
    where
      go : (fails c ≡ true) ⊎ (fails c ≡ false)
          → ((i : ℕ) × FirstIn cs i) ⊎ ((i : ℕ) → i < length cs → fails (get_or cs i last) ≡ false)
          → ((i : ℕ) × FirstIn (c ∷ cs) i) ⊎ ((i : ℕ) → i < length (c ∷ cs) → fails (get_or (c ∷ cs) i last) ≡ false)
      go (inl t) rest = inl (0, (omega arith, t, λ j l. absurd (omega arith)))
      go (inr t) (inl (i, f)) = inl (suc i, (omega (arith, f.0), f.1, below))
        where
          below : (j : ℕ) → j < suc i → fails (get_or (c ∷ cs) j last) ≡ false
          below zero l = t
          below (suc j) l = f.2 j (omega arith)
      go (inr t) (inr f) = inr pass
        where
          pass : (i : ℕ) → i < length (c ∷ cs) → fails (get_or (c ∷ cs) i last) ≡ false
          pass zero l = t
          pass (suc i) l = f i (omega arith)

  pub of_first : (cs : List C) (i : ℕ) → FirstIn cs i → judged fails refuse passed cs ≡ refuse (get_or cs i last)
  of_first [] i f = absurd (omega (arith, f.0))
  of_first (c ∷ cs) zero f = pick_true _ _ f.1
  of_first (c ∷ cs) (suc i) f =
      pick_false _ _ (f.2 0 (omega arith)) ∙ of_first cs i (omega (arith, f.0), f.1, λ j l. f.2 (suc j) (omega arith))

  pub none_of : (cs : List C) → ((i : ℕ) → i < length cs → fails (get_or cs i last) ≡ false) → judged fails refuse passed cs ≡ passed
  none_of [] f = refl
  none_of (c ∷ cs) f = pick_false _ _ (f 0 (omega arith)) ∙ none_of cs (λ i l. f (suc i) (omega arith))

  -- a result that no refusal is
  pub all_pass : (cs : List C) (x : R) → ((c : C) → refuse c ≡ x → ⊥) → judged fails refuse passed cs ≡ x
      → ((i : ℕ) → i < length cs → fails (get_or cs i last) ≡ false) × (passed ≡ x)
  all_pass cs x n e = go (first_or_none cs)
    where
      go : ((i : ℕ) × FirstIn cs i) ⊎ ((i : ℕ) → i < length cs → fails (get_or cs i last) ≡ false)
          → ((i : ℕ) → i < length cs → fails (get_or cs i last) ≡ false) × (passed ≡ x)
      go (inl (i, f)) = absurd (n (get_or cs i last) (sym (of_first cs i f) ∙ e))
      go (inr f) = (f, sym (none_of cs f) ∙ e)

-- in words: tests that are facts
module _ {C A : Type 0} (last : C) (fails : C → Bool) (Fails : C → Type 0) (number : C → ℕ) (v : A) (cs : List C)
    (holds : (c : C) → fails c ≡ true → Fails c)
    (fails_not : (c : C) → fails c ≡ false → Fails c → ⊥) where
  abbrev refuse : C → Said A
  refuse c = refused (number c)

  abbrev said : Said A
  said = judged fails refuse (gives v) cs

  is_true : (c : C) → Fails c → fails c ≡ true
  is_true c w = ⊎_elim (λ t. t) (λ t. absurd (fails_not c t w)) (tested (fails c))

  is_false : (c : C) → (Fails c → ⊥) → fails c ≡ false
  is_false c w = ⊎_elim (λ t. absurd (w (holds c t))) (λ t. t) (tested (fails c))

  abbrev Firsts : ℕ → Type 0
  Firsts n = (i : ℕ) × (i < length cs) × (number (get_or cs i last) ≡ n) × First Fails (λ j. get_or cs j last) i

  abbrev None : Type 0
  None = (i : ℕ) → i < length cs → Fails (get_or cs i last) → ⊥

  pub refused_by_first : (n : ℕ) → (said ≡ refused n) ↔ Firsts n
  refused_by_first n = (λ e. given e (first_or_none last fails refuse (gives v) cs), asked)
    where
      given : said ≡ refused n
          → ((i : ℕ) × FirstIn last fails refuse (gives v) cs i) ⊎ ((i : ℕ) → i < length cs → fails (get_or cs i last) ≡ false)
          → Firsts n
      given e (inl (i, f)) =
          let x : refuse (get_or cs i last) ≡ refused n = sym (of_first last fails refuse (gives v) cs i f) ∙ e in
          (i, f.0, cc, (holds _ f.1, λ j l. fails_not _ (f.2 j l)))
      given e (inr f) =
          let x : gives v ≡ refused n = sym (none_of last fails refuse (gives v) cs f) ∙ e in
          let z : ◌≡◌ {A = ℕ} 0 1 = cc in
          absurd (omega arith)

      asked : Firsts n → said ≡ refused n
      asked (i, l, k, (x, b)) =
          of_first last fails refuse (gives v) cs i (l, is_true _ x, λ j h. is_false _ (b j h)) ∙ ap refused k

  pub given_if_none : (w : A) → (said ≡ gives w) ↔ ((v ≡ w) × None)
  given_if_none w = (λ e. given e (first_or_none last fails refuse (gives v) cs), asked)
    where
      given : said ≡ gives w
          → ((i : ℕ) × FirstIn last fails refuse (gives v) cs i) ⊎ ((i : ℕ) → i < length cs → fails (get_or cs i last) ≡ false)
          → (v ≡ w) × None
      given e (inl (i, f)) =
          let x : refuse (get_or cs i last) ≡ gives w = sym (of_first last fails refuse (gives v) cs i f) ∙ e in
          let z : ◌≡◌ {A = ℕ} 0 1 = cc in
          absurd (omega arith)
      given e (inr f) =
          let x : gives v ≡ gives w = sym (none_of last fails refuse (gives v) cs f) ∙ e in
          (cc, λ i l. fails_not _ (f i l))

      asked : (v ≡ w) × None → said ≡ gives w
      asked (e, f) = none_of last fails refuse (gives v) cs (λ i l. is_false _ (f i l)) ∙ ap gives e
