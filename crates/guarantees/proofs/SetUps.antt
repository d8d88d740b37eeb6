-- A set-up that is not refused gives a good world, and every call of a run keeps it good.
use Prim.Native.Nat.{ℕ}
use lib.ListN.{length, replicate, length-replicate}
use mathlib.Core.Bool.{◌&&◌}
use mathlib.Core.List.{List, [], ◌∷◌}
use mathlib.Core.Path.{◌≡◌, refl, sym, ap, ◌∙◌, subst}
use native.Mathlib.Omega.{arith}
use Rattle.std.specs.Prelude.{Ok}
use Rattle.engine.specs.Leaves.{world}
use Rattle.engine.specs.SetUp.{Prepared, engine_of, lent_fits, not_started, numbers_fit, peer_count, set_up}
use Rattle.engine.specs.Steps.{World, call_turn}
use Rattle.peer.specs.Calls.{call_of}
use Rattle.guarantees.specs.Runs.{world_after}
use Rattle.guarantees.specs.Receiving.{LentRequest, fresh_world, receiving, turn_of}
use Rattle.peer.specs.State.{free_slot, fresh_peer, slot_count}
use Rattle.peer.specs.declared.types.Peer.{Peer}
use Rattle.engine.proofs.SentencesHold.{fresh_peer_lem, ready_fits}
use Rattle.engine.proofs.WorldTurns.{good_called}
use Rattle.engine.proofs.Worlds.{Good}
use Rattle.laws.proofs.Choosing.{branch}
use Rattle.peer.proofs.Plain.Steps.{fresh_valid}
use Rattle.peer.proofs.Slots.Valid.{Valid}

-- what a set-up that is not refused leaves, written out
pub fresh_is : (n area limit : ℕ) (arena map : List ℕ) → (set_up n area limit (length arena) map).started.answer ≡ Ok tt
    → fresh_world n area limit arena map ≡ world (engine_of n area limit) arena (replicate (length map) 0)
unfolding fresh_world set_up
fresh_is n area limit arena map =
    branch (λ (x : Prepared). x.started.answer ≡ Ok tt
    → ◌≡◌ {A = World} (world x.started.engine arena x.map) (world (engine_of n area limit) arena (replicate (length map) 0)))
    (numbers_fit n area limit && lent_fits n area (length arena) (length map)) _ (not_started map)
    (λ x y. refl) (λ x y. let u : ◌≡◌ {A = ℕ} 0 1 = cc in absurd (omega arith))

pub fresh_good : (n area limit : ℕ) (arena map : List ℕ) → (set_up n area limit (length arena) map).started.answer ≡ Ok tt → Good (fresh_world n area limit arena map)
fresh_good n area limit arena map e =
    let (numbers, lent) = ready_fits n area limit (length arena) map e in
    subst Good (sym (fresh_is n area limit arena map e))
    (record {
      numbers = numbers;
      lent = ap (lent_fits n area (length arena)) (length-replicate (length map) 0) ∙ lent;
      peers = length-replicate peer_count fresh_peer;
      each = λ p h. subst (λ (q : Peer). Valid area q.slots) (sym (fresh_peer_lem n area limit p)) (fresh_valid area);
      slots = λ p h. ap (λ (q : Peer). length q.slots) (fresh_peer_lem n area limit p) ∙ (unfold fresh_peer in length-replicate slot_count free_slot);
    })

pub good_after : (w : World) (qs : List LentRequest) → Good w → Good (world_after receiving w qs)
unfolding world_after turn_of
good_after w [] g = g
good_after w (q ∷ qs) g = good_after (call_turn w q.peer (call_of q.call)).world qs (good_called w g q.peer (call_of q.call))
