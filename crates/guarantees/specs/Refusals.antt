-- Demand 1: "A refused call answers one number from the table, and the state, the arena, the map and the reply buffer are then as they
-- were." Proved in proofs/Refused.antt.
use Rattle.std.specs.Prelude.{ℕ, ◌≡◌, List, ◌∷◌, true, length, Ok}
use Rattle.protocol.specs.Checks.{refused}
use Rattle.protocol.specs.declared.refusals.Refusal.{Refusal}
use Rattle.peer.specs.declared.types.Answer.{Answer}
use Rattle.peer.specs.Refusing.{refusals_of, among}
use Rattle.engine.specs.Checks.{ready_says}
use Rattle.engine.specs.SetUp.{set_up}
use Rattle.engine.specs.Steps.{World}
use Rattle.peer.specs.Calls.{LentCall, call_of}
use Rattle.peer.specs.LentCalls.{buffer_of}
use Rattle.guarantees.specs.Runs.{world_after}
use Rattle.guarantees.specs.Receiving.{LentRequest, buffer_after, fresh_world, receiving, turn_of}
use Rattle.protocol.specs.Refusals.{number}

-- the refusals of each call, in their order: 2, 3 and 4, then the peer's own
abbrev pub list_for : LentCall → List ℕ
list_for a = 2 ∷ 3 ∷ 4 ∷ refusals_of (call_of a)

-- for every world, also one that no run reaches, and every call
unfoldable pub RefusedLeavesAll : Type 0
RefusedLeavesAll =
    (w : World) (q : LentRequest) (k : Refusal)
    → (turn_of w q).answer ≡ Answer.Refused k
    → (among (list_for q.call) (number k) ≡ true)
    × ((turn_of w q).world ≡ w)
    × (buffer_after w q ≡ buffer_of q.call)

-- a set-up that is refused answers 1 and leaves the map
unfoldable pub RefusedSetUp : Type 0
RefusedSetUp =
    (n area limit arena : ℕ) (map : List ℕ) (k : ℕ)
    → ready_says (set_up n area limit arena map).started.answer ≡ refused k
    → (k ≡ 1) × ((set_up n area limit arena map).map ≡ map)

-- refusals 2 and 3 never arise in a run after a set-up that was not refused
unfoldable pub NeverBadState : Type 0
NeverBadState =
    (n area limit : ℕ) (arena map : List ℕ)
    → (set_up n area limit (length arena) map).started.answer ≡ Ok tt
    → (before : List LentRequest) (q : LentRequest) (k : Refusal)
    → (turn_of (world_after receiving (fresh_world n area limit arena map) before) q).answer ≡ Answer.Refused k
    → (number k ≡ 2 → ⊥) × (number k ≡ 3 → ⊥)
