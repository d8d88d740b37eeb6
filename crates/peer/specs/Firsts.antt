-- "Given exactly when (no earlier check fails)": what is said is the first check of a list that fails, by its number.
use Rattle.std.specs.Prelude.{◌≡◌, ℕ, ◌↔◌, List, [], ◌∷◌, ◌++◌, ◌≢◌}
use mathlib.Core.List.{Memᴰ}
use Rattle.peer.specs.Says.{Saying, refused, say}

-- the list is `before`, then c, then `after`; c fails, and no check of `before` does
pub record FirstToFail {C : Type 0} (fails : C → Type 0) (cs : List C) (c : C) : Type 0 where
  pub before : List C
  pub after : List C
  pub list : cs ≡ before ++ (c ∷ after)
  pub failed : fails c
  pub earlier : (b : C) → Memᴰ b before → fails b → ⊥

abbrev pub NoneFails : {C : Type 0} → (C → Type 0) → List C → Type 0
NoneFails {C} fails cs = (c : C) → Memᴰ c cs → fails c → ⊥

-- refused k exactly if the first check to fail has the number k; no refusal exactly if none fails
pub record RefusedByFirst {C : Type 0} (fails : C → Type 0) (number : C → ℕ) (cs : List C) (s : Saying) : Type 0 where
  pub given : (k : ℕ) → (s ≡ say refused (k ∷ [])) ↔ ((c : C) × FirstToFail fails cs c × (number c ≡ k))
  pub passed : (s.word ≢ refused) ↔ NoneFails fails cs
