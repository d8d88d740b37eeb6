-- A run of packed calls: the calls that the words say, run as `guarantees` defines a run, and what is left of all that is lent.
use Rattle.std.specs.Prelude.{ℕ, zero, suc, ◌+◌, ◌/◌, min, List, [], ◌∷◌, Option, None, Some, length}
use Rattle.peer.specs.declared.types.Request.{Request}
use Rattle.engine.specs.Leaves.{world}
use Rattle.engine.specs.Steps.{World}
use Rattle.guarantees.specs.Outputs.{RunLeaves, run_leaves}
use Rattle.state_words.specs.Loading.{state_of, state_after}
use Rattle.packed.specs.Calls.{request_at, words_each}
use Rattle.packed.specs.Answers.{answer_words}

-- ---- the calls

abbrev pub on_found_request : {A : Type 0} → Option Request → A → (Request → A) → A
on_found_request None bad f = bad
on_found_request (Some q) bad f = f q

-- at most k calls of the words from `at` on, up to the first that is none
unfoldable pub requests_from : ℕ → List ℕ → List ℕ → List ℕ → ℕ → List Request
requests_from zero w bytes replies at = []
requests_from (suc k) w bytes replies at =
    on_found_request (request_at w (length bytes) (length replies) at) [] (λ q. q ∷ requests_from k w bytes replies (at + words_each))

-- ---- the run

-- as many calls as there are words for, and for their answers
abbrev pub budget_of : ℕ → ℕ → ℕ
budget_of calls answers = min (calls / words_each) (answers / words_each)

-- eight words for each answer, from the first on
unfoldable pub ran_from : World → List ℕ → List ℕ → List ℕ → List ℕ → RunLeaves
ran_from w calls bytes replies answers =
    run_leaves bytes replies answer_words w answers 0 (requests_from (budget_of (length calls) (length answers)) calls bytes replies 0)

-- the number of calls, and the state's words with all else that is lent
pub record Kept : Type 0 where
  pub taken : ℕ
  pub state : List ℕ
  pub arena : List ℕ
  pub map : List ℕ
  pub replies : List ℕ
  pub answers : List ℕ

abbrev pub keep : List ℕ → RunLeaves → Kept
keep state l =
    record {
      taken = l.taken;
      state = state_after state l.world.engine;
      arena = l.world.arena;
      map = l.world.map;
      replies = l.replies;
      answers = l.output;
    }

-- a run from the state that the words are
unfoldable pub run_of : List ℕ → List ℕ → List ℕ → List ℕ → List ℕ → List ℕ → List ℕ → Kept
run_of state arena map calls bytes replies answers = keep state (ran_from (world (state_of state) arena map) calls bytes replies answers)
