-- Only a grant touches the reply buffer, and only its first 24 bytes: the statements of specs/Replies.antt.
use Prim.Native.Nat.{ℕ, ◌+◌}
use lib.Dec.{ltb}
use lib.ListN.{length, drop}
use mathlib.Core.Path.{◌≡◌, refl, ap, ◌∙◌, subst}
use native.Mathlib.Omega.{arith}
use Rattle.protocol.specs.Refusals.{bad_lent, bad_peer, bad_state}
use Rattle.engine.specs.SetUp.{engine_fits, lent_fits, peer_at}
use Rattle.engine.specs.Steps.{Turn, World, call_turn, peer_turn, put_back, refused_turn, words_of}
use Rattle.guarantees.specs.Replies.{ReplyUntouched, RestUntouched}
use Rattle.peer.specs.Calls.{Call, call_of, peer_step}
use Rattle.peer.specs.LentCalls.{buffer_of}
use Rattle.guarantees.specs.Receiving.{LentRequest, turn_of}
use Rattle.laws.specs.Parts.{store_at}
use Rattle.protocol.specs.declared.refusals.Refusal.{Refusal}
use Rattle.laws.proofs.Choosing.{pick_either}
use Rattle.laws.proofs.Storing.{drop_store, length_store, store_nothing}
use Rattle.peer.specs.Effects.{Effect}
use Rattle.guarantees.proofs.Tracking.{room_of_lem}
use Rattle.peer.proofs.PeerSteps.AnswerLaws.{granted_or_not}
use Rattle.peer.proofs.Plain.Replies.{Replying, step_replies}

-- what holds of every refusal and of the peer's own turn holds of a call
called : (P : Turn → Type 0) (w : World) (p : ℕ) (c : Call) → ((k : Refusal) → P (refused_turn w k)) → P (peer_turn w p c) → P (call_turn w p c)
unfolding call_turn
called P w p c refuse own =
    pick_either P (engine_fits w.engine) (pick_either P (lent_fits w.engine.n w.engine.area (length w.arena) (length w.map))
    (pick_either P (ltb p w.engine.n) own (refuse bad_peer)) (refuse bad_lent)) (refuse bad_state)

-- a grant's reply is a CTS of 24 bytes, for which there is room; no other answer comes with a reply
replies : (w : World) (q : LentRequest) → Replying (length (buffer_of q.call)) (turn_of w q).reply (turn_of w q).answer
unfolding turn_of peer_turn put_back
replies w q =
    called (λ (t : Turn). Replying (length (buffer_of q.call)) t.reply t.answer) w q.peer (call_of q.call) (λ k. refl)
    (subst (λ (n : ℕ). Replying n f.reply f.answer) (room_of_lem q.call)
    (step_replies w.engine.area w.engine.limit (peer_at w.engine q.peer) (words_of w q.peer) (call_of q.call)))
  where
    f : Effect
    f = peer_step w.engine.area w.engine.limit (peer_at w.engine q.peer) (words_of w q.peer) (call_of q.call)

pub reply_untouched : ReplyUntouched
unfolding ReplyUntouched
reply_untouched w q e =
    ap (store_at (buffer_of q.call) 0) ((granted_or_not (turn_of w q).answer (replies w q)).0 e) ∙ store_nothing (buffer_of q.call) 0

pub rest_untouched : RestUntouched
unfolding RestUntouched
rest_untouched w q e =
    let (size, room) = (granted_or_not (turn_of w q).answer (replies w q)).1 e in
    let size' : 0 + length (turn_of w q).reply ≡ 24 = omega (arith, size) in
    record {
      room = room;
      size = length_store (buffer_of q.call) 0 (turn_of w q).reply (omega arith);
      rest = subst (λ (n : ℕ). drop n (store_at (buffer_of q.call) 0 (turn_of w q).reply) ≡ drop n (buffer_of q.call)) size'
          (drop_store (buffer_of q.call) 0 (turn_of w q).reply (omega arith));
    }
