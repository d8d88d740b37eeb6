-- One call of a run by its gate: refused before it comes to its peer, or its peer makes its step. Either is the turn that the definition makes of it.
use Prim.Native.Nat.{ℕ}
use lib.ListN.{length, get_or}
use mathlib.Core.Bool.{Bool, ◌&&◌}
use mathlib.Core.List.{List}
use mathlib.Core.Path.{◌≡◌, refl, sym, ap, subst, ◌∙◌}
use Rattle.std.specs.Prelude.{Ok, Err}
use Rattle.laws.specs.Parts.{store_at}
use Rattle.laws.proofs.Listing.{get_d_any}
use Rattle.laws.proofs.Storing.{store_nothing}
use Rattle.protocol.specs.declared.refusals.Refusal.{Refusal}
use Rattle.peer.specs.Calls.{call_of, peer_step}
use Rattle.peer.specs.State.{fresh_peer}
use Rattle.peer.specs.declared.types.Answer.{Answer}
use Rattle.peer.specs.declared.types.Peer.{Peer}
use Rattle.peer.specs.declared.types.Request.{Request}
use Rattle.peer.specs.LentCalls.{lent_call_of, reply_place}
use Rattle.lending.specs.Lending.{Lent, leaves_at}
use Rattle.engine.specs.Gates.{Gate, gate_of}
use Rattle.engine.specs.Leaves.{world}
use Rattle.engine.specs.SetUp.{numbers_fit}
use Rattle.engine.specs.Steps.{Turn, World, put_back, refused_turn, with_peer, words_of}
use Rattle.engine.proofs.WorldTurns.{turn_own}
use Rattle.guarantees.specs.Receiving.{request_of, turn_of}
use Rattle.guarantees.proofs.CheckedOnce.{CheckedOnce, once_good, once_in_peers, once_passed, once_refused, once_turn}

-- a call has left this world and these replies, with this answer, as a turn says, and the check would say the same again
pub record TurnTaken (replies : List ℕ) (q : Request) (good : Bool) (t : Turn) (w' : World) (replies' : List ℕ) (a : Answer) : Type 0 where
  pub world : w' ≡ t.world
  pub answer : a ≡ t.answer
  pub reply : replies' ≡ store_at replies (reply_place q.call) t.reply
  pub once : CheckedOnce good w'.engine

module _ (bytes replies : List ℕ) (w : World) (q : Request) {good : Bool} (s : CheckedOnce good w.engine) (o : Gate)
    (y : o ≡ gate_of (good && numbers_fit w.engine.n w.engine.area w.engine.limit) w.engine.n w.engine.area (length w.arena) (length w.map) q.peer) where
  pub turn_refused : (k : Refusal) → o ≡ Err k → TurnTaken replies q good (turn_of w (request_of bytes replies q)) w replies (Answer.Refused k)
  turn_refused k z =
      let e : refused_turn w k ≡ turn_of w (request_of bytes replies q) =
      unfold turn_of in sym (once_refused w q.peer s o y k (call_of (lent_call_of bytes replies q.call)) z) in
      subst
      (λ (t : Turn). TurnTaken replies q good t w replies (Answer.Refused k))
      e
      (record { world = refl; answer = refl; reply = sym (store_nothing replies (reply_place q.call)); once = s })

  pub turn_open : o ≡ Ok tt → (d : Peer) (l : Lent)
      → l ≡ leaves_at (reply_place q.call) w.engine.area q.peer w.arena w.map replies
      (peer_step w.engine.area w.engine.limit (get_or w.engine.peers q.peer d) (words_of w q.peer) (call_of (lent_call_of bytes replies q.call)))
      → TurnTaken replies q good (turn_of w (request_of bytes replies q)) (world (with_peer w.engine q.peer l.step.peer) l.arena l.map) l.reply l.step.answer
  unfolding put_back
  turn_open z d l e =
      let p = q.peer in
      let call = call_of (lent_call_of bytes replies q.call) in
      let below = (once_passed w p s o y z).peer in
      let f = peer_step w.engine.area w.engine.limit (get_or w.engine.peers p fresh_peer) (words_of w p) call in
      let own = turn_own w (once_good w p s o y z) p below call in
      let e' : l ≡ leaves_at (reply_place q.call) w.engine.area p w.arena w.map replies f =
      e ∙ ap (λ (x : Peer). leaves_at (reply_place q.call) w.engine.area p w.arena w.map replies (peer_step w.engine.area w.engine.limit x (words_of w p) call))
      (get_d_any w.engine.peers p d fresh_peer (once_in_peers w p s o y z)) in
      let t : put_back w p f ≡ turn_of w (request_of bytes replies q) = unfold turn_of in sym own in
      subst
      (λ (l : Lent). TurnTaken replies q good (turn_of w (request_of bytes replies q)) (world (with_peer w.engine p l.step.peer) l.arena l.map) l.reply l.step.answer)
      (sym e')
      (subst
      (λ (u : Turn). TurnTaken replies q good u (put_back w p f).world (store_at replies (reply_place q.call) f.reply) f.answer)
      t
      (record { world = refl; answer = refl; reply = refl; once = rw own at (once_turn w p s o y z call) }))
