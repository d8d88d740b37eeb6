-- The set-up for a caller who keeps the state as words (01: refusal 1, "set-up numbers or lent lengths are wrong; map untouched").
use Rattle.std.specs.Prelude.{ℕ, List, length, eqb, Ok, Err}
use Rattle.laws.specs.Choose.{pick}
use Rattle.protocol.specs.Refusals.{bad_set_up, number}
use Rattle.engine.specs.SetUp.{Ready}
use Rattle.engine.specs.SetUp.{Prepared, set_up}
use Rattle.state_words.specs.Saving.{engine_words, state_size}

-- 0 or the refusal's number, and what is left of map and state
pub record StartLeaves : Type 0 where
  pub refusal : ℕ
  pub map : List ℕ
  pub state : List ℕ

abbrev pub started_as : List ℕ → Prepared → Ready → StartLeaves
started_as state p (Err k) = record { refusal = number k; map = p.map; state = state }
started_as state p (Ok tt) = record { refusal = 0; map = p.map; state = engine_words p.started.engine }

unfoldable pub start_of : ℕ → ℕ → ℕ → ℕ → List ℕ → List ℕ → StartLeaves
start_of n area limit arena map state =
    pick (eqb (length state) state_size)
    (started_as state (set_up n area limit arena map) (set_up n area limit arena map).started.answer)
    (record { refusal = number bad_set_up; map = map; state = state })
