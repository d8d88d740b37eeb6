-- What a state that was loaded says of its words, and what it says of them that none was.
use Prim.Native.Nat.{ℕ}
use mathlib.Core.Bool.{true, false}
use mathlib.Core.List.{List}
use mathlib.Core.Logic.{⊎_elim}
use mathlib.Core.Path.{◌≡◌, ◌∙◌}
use native.Mathlib.Omega.{arith}
use Rattle.std.specs.Prelude.{Option, None, Some}
use Rattle.laws.proofs.Choosing.{pick_cases, pick_false, pick_true}
use Rattle.engine.specs.SetUp.{engine_of}
use Rattle.engine.specs.declared.types.Engine.{Engine}
use Rattle.state_words.specs.Loading.{engine_in, is_state, loaded, state_of}

module _ (w : List ℕ) where
  pub loaded_some : (e : Engine) → loaded w ≡ Some e → (is_state w ≡ true) × (state_of w ≡ e)
  unfolding loaded state_of
  loaded_some e h =
      ⊎_elim
      (λ t. (t.0, pick_true (engine_in w) (engine_of 0 0 0) t.0 ∙ read t.1))
      (λ t. absurd (other t.1))
      (pick_cases (is_state w) (Some (engine_in w)) None (Some e) h)
    where
      read : Some (engine_in w) ≡ Some e → engine_in w ≡ e
      read h = cc

      other : ◌≡◌ {A = Option Engine} None (Some e) → ⊥
      other h = let z : ◌≡◌ {A = ℕ} 0 1 = cc in omega arith

  pub loaded_none : loaded w ≡ None → (is_state w ≡ false) × (state_of w ≡ engine_of 0 0 0)
  unfolding loaded state_of
  loaded_none h =
      ⊎_elim
      (λ t. absurd (other t.1))
      (λ t. (t.0, pick_false (engine_in w) (engine_of 0 0 0) t.0))
      (pick_cases (is_state w) (Some (engine_in w)) None None h)
    where
      other : ◌≡◌ {A = Option Engine} (Some (engine_in w)) None → ⊥
      other h = let z : ◌≡◌ {A = ℕ} 0 1 = cc in omega arith
