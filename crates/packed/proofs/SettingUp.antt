-- A set-up with the state's words around it.
use Prim.Native.Nat.{ℕ}
use borrow.Author.Tests.{eq-eqb, ne_eqb}
use lib.ListN.{length}
use mathlib.Core.List.{List}
use mathlib.Core.Path.{◌≡◌, sym, ap, ◌∙◌}
use Rattle.std.specs.Prelude.{Ok, Err}
use Rattle.laws.proofs.Choosing.{pick_false, pick_true}
use Rattle.protocol.specs.Refusals.{bad_set_up, number}
use Rattle.protocol.specs.declared.refusals.Refusal.{Refusal}
use Rattle.engine.specs.SetUp.{Prepared, set_up}
use Rattle.state_words.specs.Saving.{engine_words, state_size}
use Rattle.packed.specs.Starting.{start_of, started_as}

module _ (n area limit arena : ℕ) (map state : List ℕ) where
  pub start_short : (length state ≡ state_size → ⊥) → record { refusal = number bad_set_up; map = map; state = state } ≡ start_of n area limit arena map state
  unfolding start_of
  start_short h = sym (pick_false _ _ (ne_eqb (length state) state_size h))

  module _ (h : length state ≡ state_size) (p : Prepared) (e : p ≡ set_up n area limit arena map) where
    started : started_as state p p.started.answer ≡ start_of n area limit arena map state
    unfolding start_of
    started = ap (λ (p : Prepared). started_as state p p.started.answer) e ∙ sym (pick_true _ _ (eq-eqb (length state) state_size h))

    pub start_refused : (k : Refusal) → p.started.answer ≡ Err k
        → record { refusal = number k; map = p.map; state = state } ≡ start_of n area limit arena map state
    start_refused k z = rw z at started

    pub start_ready : p.started.answer ≡ Ok tt
        → record { refusal = 0; map = p.map; state = engine_words p.started.engine } ≡ start_of n area limit arena map state
    start_ready z = rw z at started
