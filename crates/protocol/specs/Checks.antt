-- A list of checks in order, and what an answer says by it (01: "Given exactly when (no earlier check fails)").
use Rattle.std.specs.Prelude.{ℕ, ◌<◌}

-- an answer in 01's words: "Each refusal returns its number alone"; else what was asked for
pub data Said (A : Type 0) : Type 0 where
  refused : ℕ → Said A
  gives : A → Said A

-- the check at place i fails, and none before it
abbrev pub First : {C : Type 0} → (C → Type 0) → (ℕ → C) → ℕ → Type 0
First fails at i = fails (at i) × ((j : ℕ) → j < i → fails (at j) → ⊥)
