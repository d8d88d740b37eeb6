-- A set-up that answers 0, then any number of runs, each on the words, arena and map that the one before left, are one run of `guarantees`:
-- that of the requests of all of them, one after the other, from the world that set-up leaves. Proved in proofs/AsOneRun.antt.
use Rattle.std.specs.Prelude.{ℕ, suc, ◌*◌, ◌<◌, length, get_or, take, drop, List, [], ◌∷◌, ◌++◌, ◌≡◌, Ok}
use Rattle.laws.specs.Parts.{part, store_at}
use Rattle.engine.specs.SetUp.{set_up}
use Rattle.engine.specs.Steps.{Turn, World}
use Rattle.peer.specs.declared.types.Request as code
use Rattle.peer.specs.LentCalls.{reply_place}
use Rattle.guarantees.specs.Outputs.{requests_of}
use Rattle.guarantees.specs.Runs.{world_after}
use Rattle.guarantees.specs.Receiving.{LentRequest, fresh_world, receiving, request_of, turn_of}
use Rattle.state_words.specs.Saving.{engine_words}
use Rattle.packed.specs.Answers.{answer_words}
use Rattle.packed.specs.Running.{Kept, budget_of, requests_from, run_of}
use Rattle.packed.specs.Starting.{start_of}
use Rattle.packed.specs.Calls.{words_each}

-- what one run is lent besides state, arena and map
pub record Batch : Type 0 where
  pub calls : List ℕ
  pub bytes : List ℕ
  pub replies : List ℕ
  pub answers : List ℕ

-- what a caller keeps from one run to the next
pub record Store : Type 0 where
  pub state : List ℕ
  pub arena : List ℕ
  pub map : List ℕ

abbrev pub run_on : Store → Batch → Kept
run_on s b = run_of s.state s.arena s.map b.calls b.bytes b.replies b.answers

abbrev pub store_of : Kept → Store
store_of k = record { state = k.state; arena = k.arena; map = k.map }

-- "Each call gets the state, arena and map that the last one left, and only the engine writes them between calls"
unfoldable pub store_after : Store → List Batch → Store
store_after s [] = s
store_after s (b ∷ bs) = store_after (store_of (run_on s b)) bs

-- ---- the requests of the batches

-- as many calls as there are words for, and for their answers, up to the first that is none
abbrev pub calls_in : Batch → List code.Request
calls_in b = requests_from (budget_of (length b.calls) (length b.answers)) b.calls b.bytes b.replies 0

abbrev pub requests_in : Batch → List LentRequest
requests_in b = requests_of b.bytes b.replies (calls_in b)

unfoldable pub requests_in_all : List Batch → List LentRequest
requests_in_all [] = []
requests_in_all (b ∷ bs) = requests_in b ++ requests_in_all bs

-- bytes, as the machine's types have them
abbrev pub BatchesOfBytes : List Batch → Type 0
BatchesOfBytes [] = Unit {0}
BatchesOfBytes (b ∷ bs) = ((i : ℕ) → get_or b.bytes i 0 < 256) × BatchesOfBytes bs

-- ---- one batch among them

-- in the run from w, where the requests `earlier` came before those of the batch b, which left k: the turn of its call j, if it has one
abbrev pub turn_at : World → List LentRequest → Batch → ℕ → code.Request → Turn
turn_at w earlier b j none = turn_of (world_after receiving w (earlier ++ take j (requests_in b))) (request_of b.bytes b.replies (get_or (calls_in b) j none))

pub record PartOfRun (w : World) (earlier : List LentRequest) (b : Batch) (k : Kept) : Type 0 where
  pub taken : k.taken ≡ length (calls_in b)
  -- each call has its answer in its eight words, and the words behind them stay
  pub answers : (j : ℕ) (none : code.Request) → j < length (calls_in b) → part k.answers (words_each * j) words_each ≡ answer_words (turn_at w earlier b j none).answer
  pub answers_stay : drop (words_each * length (calls_in b)) k.answers ≡ drop (words_each * length (calls_in b)) b.answers
  -- the replies, after so many calls: each call's reply packet is put at its place
  pub replies_at : ℕ → List ℕ
  pub replies_first : replies_at 0 ≡ b.replies
  pub replies_next : (j : ℕ) (none : code.Request) → j < length (calls_in b)
      → replies_at (suc j) ≡ store_at (replies_at j) (reply_place (get_or (calls_in b) j none).call) (turn_at w earlier b j none).reply
  pub replies_last : replies_at (length (calls_in b)) ≡ k.replies
  -- what is left of arena, map and state
  pub arena : k.arena ≡ (world_after receiving w (earlier ++ requests_in b)).arena
  pub map : k.map ≡ (world_after receiving w (earlier ++ requests_in b)).map
  pub state : k.state ≡ engine_words (world_after receiving w (earlier ++ requests_in b)).engine

-- a set-up that answers 0 is one that was not refused, as the runs of `guarantees` begin
unfoldable pub StartIsReady : Type 0
StartIsReady =
    (n area limit : ℕ) (arena map state : List ℕ)
    → (start_of n area limit (length arena) map state).refusal ≡ 0
    → (set_up n area limit (length arena) map).started.answer ≡ Ok tt

unfoldable pub RunsAreOneRun : Type 0
RunsAreOneRun =
    (n area limit : ℕ) (arena map state : List ℕ) (before : List Batch) (b : Batch)
    → (start_of n area limit (length arena) map state).refusal ≡ 0
    → BatchesOfBytes before
    → let started = start_of n area limit (length arena) map state in
    PartOfRun (fresh_world n area limit arena map) (requests_in_all before) b
    (run_on (store_after (record { state = started.state; arena = arena; map = started.map }) before) b)
