-- What a run's calls leave is an engine as the code holds it: numbers of fewer than 64 bits stay within their types, as they are read from
-- bytes or counted modulo 2^32.
use Prim.Native.Nat.{ℕ, zero, suc, ◌+◌, ◌^◌, ◌<◌}
use lib.Dec.{lit<}
use lib.ListN.{get_or, set, replicate, length-set, length-replicate}
use mathlib.Core.List.{List, [], ◌∷◌}
use mathlib.Core.Logic.{◌⊎◌, inl, inr, ⊎_elim}
use mathlib.Core.Path.{◌≡◌, refl, sym, ap, ◌∙◌, subst}
use native.Mathlib.Decide.{dec_lt}
use native.Mathlib.Nat.{mod-lt}
use native.Mathlib.Omega.{arith}
use Rattle.std.specs.Prelude.{Ok}
use Rattle.laws.proofs.Choosing.{pick_either}
use Rattle.laws.proofs.Storing.{part_all}
use Rattle.protocol.specs.Layout.{Field}
use Rattle.protocol.specs.Reading.{read_of}
use Rattle.protocol.specs.declared.types.Packet.{Packet}
use Rattle.protocol.specs.Types.{served_row}
use Rattle.protocol.proofs.ReadNumbers.{read_numbers}
use Rattle.protocol.proofs.Served.{any_read}
use Rattle.peer.specs.Calls.{Call, call_of, peer_step, placed, renumbered, renumbered_phase}
use Rattle.peer.specs.Claims.{AreBytes}
use Rattle.peer.specs.Effects.{Effect, accept, advance, begun, extended, grant_of, opened, settled_as, truncated_at, with_phase}
use Rattle.peer.specs.Incomings.{incoming_of}
use Rattle.peer.specs.State.{free_slot, fresh_peer, phase_at, slot_count, slot_with}
use Rattle.peer.specs.declared.types.Inbound.{Inbound}
use Rattle.peer.specs.declared.types.Incoming.{Incoming}
use Rattle.peer.specs.declared.types.Peer.{Peer}
use Rattle.peer.specs.declared.types.Phase.{Phase}
use Rattle.peer.specs.declared.types.Progress.{Progress}
use Rattle.peer.specs.declared.types.Receive.{Receive}
use Rattle.peer.specs.declared.types.Slot.{Slot}
use Rattle.peer.proofs.Slots.Ages.{length_renumbered, phase_renumbered}
use Rattle.peer.proofs.PeerSteps.Verdicts.{continued_at}
use Rattle.peer.proofs.PeerSteps.StepCases.{StepCase, begins, cancelled, continues, posted, refused, reported, step_case, truncated}
use Rattle.engine.specs.SetUp.{engine_of, peer_at, peer_count}
use Rattle.engine.specs.Steps.{Turn, World, call_turn, put_back, words_of}
use Rattle.engine.proofs.WorldTurns.{good_called, turn_none, turn_own}
use Rattle.engine.proofs.Worlds.{Good, sized}
use Rattle.peer.specs.LentCalls.{lent_call_of}
use Rattle.guarantees.specs.Outputs.{requests_of}
use Rattle.guarantees.specs.Runs.{world_after}
use Rattle.guarantees.specs.Receiving.{receiving, turn_of}
use Rattle.engine.proofs.SentencesHold.{fresh_peer_lem}
use Rattle.state_words.specs.RoundTrip.{Held, MessageHeld, PeerHeld}
use Rattle.peer.specs.declared.types.Call as code
use Rattle.peer.specs.declared.types.LocalCall.{LocalCall}
use Rattle.peer.specs.declared.types.Request.{Request}

-- what is at a place of a list after a store
set_either : {A : Type 0} (l : List A) (i j : ℕ) (a d : A) → (get_or (set l i a) j d ≡ a) ⊎ (get_or (set l i a) j d ≡ get_or l j d)
set_either [] i j a d = inr refl
set_either (x ∷ l) zero zero a d = inl refl
set_either (x ∷ l) zero (suc j) a d = inr refl
set_either (x ∷ l) (suc i) zero a d = inr refl
set_either (x ∷ l) (suc i) (suc j) a d = set_either l i j a d

-- ---- a peer

abbrev PhaseHeld : Phase → Type 0
PhaseHeld f = (o : Inbound) → f ≡ Phase.Open o → MessageHeld o.message

free_held : PhaseHeld Phase.Free
free_held o e = let z : ◌≡◌ {A = ℕ} 0 1 = cc in absurd (omega arith)

open_held : (o : Inbound) → MessageHeld o.message → PhaseHeld (Phase.Open o)
open_held o m q e = let same : o ≡ q = cc in subst (λ (x : Inbound). MessageHeld x.message) same m

put_held : (next : ℕ) (ss : List Slot) (i : ℕ) (f : Phase) → PeerHeld (record { next = next; slots = ss }) → PhaseHeld f
    → PeerHeld (record { next = next; slots = set ss i (slot_with f) })
put_held next ss i f h g =
    record {
      next = h.next;
      slots = length-set ss i (slot_with f) ∙ h.slots;
      messages = λ j o e.
          ⊎_elim (λ x. g o (ap (λ (s : Slot). s.phase) (sym x) ∙ e)) (λ x. h.messages j o (ap (λ (s : Slot). s.phase) (sym x) ∙ e))
          (set_either ss i j (slot_with f) free_slot);
    }

with_held : (p : Peer) (i : ℕ) (f : Phase) → PeerHeld p → PhaseHeld f → PeerHeld (with_phase p i f)
with_held p i f h g = put_held p.next p.slots i f h g

advance_held : (p : Peer) → PeerHeld p → PeerHeld (advance p)
advance_held p h = record { next = mod-lt (p.next + 1) (lit< tt); slots = h.slots; messages = h.messages }

-- ---- a post

renumbered_held : (all : List Slot) (f : Phase) → PhaseHeld f → PhaseHeld (renumbered_phase all f)
renumbered_held all Phase.Free h = h
renumbered_held all (Phase.Posted r a) h = λ o e. let z : ◌≡◌ {A = ℕ} 0 1 = cc in absurd (omega arith)
renumbered_held all (Phase.Open q) h = h

placed_held : (p : Peer) (r : Receive) (i : ℕ) → PeerHeld p → PeerHeld (placed p r i)
unfolding placed
placed_held p r i h =
    put_held p.next (renumbered p.slots p.slots) i _
    (record {
      next = h.next;
      slots = length_renumbered p.slots p.slots ∙ h.slots;
      messages = λ j o e.
          renumbered_held p.slots (phase_at p.slots j) (h.messages j) o (sym (phase_renumbered p.slots p.slots j) ∙ e);
    })
    (λ o e. let z : ◌≡◌ {A = ℕ} 0 1 = cc in absurd (omega arith))

-- ---- a packet

-- what a packet says of its message
pub record IncomingHeld (h : Incoming) : Type 0 where
  pub id : h.id < 2 ^ 32
  pub send_id : h.send_id < 2 ^ 32
  pub credit_request : h.credit_request < 2 ^ 32

read_held : (limit : ℕ) (bs : List ℕ) (q : Packet) → ((i : ℕ) → get_or bs i 0 < 256) → read_of served_row limit bs ≡ Ok q → IncomingHeld (incoming_of q)
unfolding incoming_of
read_held limit bs q b e =
    let there = any_read served_row limit bs q e in
    let numbers = read_numbers bs b limit q there in
    record {
      id = pick_either (λ (n : ℕ). n < 2 ^ 32) _ (numbers.fields Field.msg_id) (numbers.fields Field.recv_id);
      send_id = numbers.fields Field.send_id;
      credit_request = numbers.fields Field.credit_request;
    }

settled_held : (limit : ℕ) (p : Peer) (i : ℕ) (o : Inbound) (g : Progress) → PeerHeld p → MessageHeld o.message → PeerHeld (with_phase p i (settled_as limit i o g).phase)
unfolding settled_as
settled_held limit p i o Progress.Whole h m = with_held p i Phase.Free h free_held
settled_held limit p i o Progress.Due h m =
    let wider = extended (grant_of limit o.message) o in
    with_held p i (Phase.Open wider) h
    (open_held wider (record { id = m.id; send_id = m.send_id; credit_request = m.credit_request }))
settled_held limit p i o Progress.Partial h m = with_held p i (Phase.Open o) h (open_held o m)

-- ---- every call

step_held : (area limit : ℕ) (p : Peer) (ws : List ℕ) (c : Call) → PeerHeld p → AreBytes c → PeerHeld (peer_step area limit p ws c).peer
unfolding truncated_at begun accept
step_held area limit p ws c h b = go (step_case area limit p ws c) b
  where
    go : {c : Call} {f : Effect} → StepCase area limit p ws c f → AreBytes c → PeerHeld f.peer
    go (refused c k e) b = h
    go (posted r i v x y) b = placed_held p r i h
    go (cancelled i x y) b = with_held p i Phase.Free h free_held
    go (reported i o e) b = h
    go (truncated bs room q a i x) b = with_held (advance p) i Phase.Free (advance_held p h) free_held
    go (begins bs room q a i r x) b =
        let y = read_held limit bs q b a.reads in
        settled_held limit (advance p) i (opened r (incoming_of q)) _ (advance_held p h)
        (record { id = y.id; send_id = y.send_id; credit_request = y.credit_request })
    go (continues bs room q a i o x) b = settled_held limit p i o _ h (h.messages i o (continued_at p ws (incoming_of q) i o x).1)

-- ---- the engine

pub fresh_held : (n area limit : ℕ) → Held (engine_of n area limit)
fresh_held n area limit =
    record {
      peers = length-replicate peer_count fresh_peer;
      each = λ p h. subst PeerHeld (sym (fresh_peer_lem n area limit p)) fresh;
    }
  where
    free_slots : (m i : ℕ) → get_or (replicate m free_slot) i free_slot ≡ free_slot
    free_slots zero i = refl
    free_slots (suc m) zero = refl
    free_slots (suc m) (suc i) = free_slots m i

    fresh : PeerHeld fresh_peer
    fresh =
        unfold fresh_peer in
        (record {
          next = lit< tt;
          slots = length-replicate slot_count free_slot;
          messages = λ i o e. free_held o (ap (λ (s : Slot). s.phase) (sym (free_slots slot_count i)) ∙ e);
        })

called_held : (w : World) → Good w → Held w.engine → (p : ℕ) (c : Call) → AreBytes c → Held (call_turn w p c).world.engine
called_held w g h p c b = elim (dec_lt p w.engine.n) as (λ d. Held (call_turn w p c).world.engine) [
  | yes l ↦ subst (λ (t : Turn). Held t.world.engine) (sym (turn_own w g p l c)) (own l)
  | no l ↦ subst (λ (t : Turn). Held t.world.engine) (sym (turn_none w g p (omega (arith, l)) c)) h
]
  where
    own : p < w.engine.n → Held (put_back w p (peer_step w.engine.area w.engine.limit (peer_at w.engine p) (words_of w p) c)).world.engine
    own l =
        unfold put_back in
        (record {
          peers = length-set w.engine.peers p _ ∙ h.peers;
          each = λ q k.
              ⊎_elim
              (λ x.
              subst PeerHeld (sym x)
              (step_held w.engine.area w.engine.limit (peer_at w.engine p) (words_of w p) c
              (h.each p (omega (arith, (sized _ _ _ g.numbers).few))) b))
              (λ x. subst PeerHeld (sym x) (h.each q k))
              (set_either w.engine.peers p q _ fresh_peer);
        })

-- the calls of a batch, whose packets lie in its bytes
pub batch_held : (bytes replies : List ℕ) → ((i : ℕ) → get_or bytes i 0 < 256) → (w : World) → Good w → Held w.engine → (qs : List Request)
    → Held (world_after receiving w (requests_of bytes replies qs)).engine
unfolding world_after turn_of
batch_held bytes replies b w g h [] = h
batch_held bytes replies b w g h (q ∷ qs) =
    batch_held bytes replies b (call_turn w q.peer call).world (good_called w g q.peer call) (called_held w g h q.peer call (within q.call)) qs
  where
    call : Call
    call = call_of (lent_call_of bytes replies q.call)

    within : (c : code.Call) → AreBytes (call_of (lent_call_of bytes replies c))
    within (code.Call.Local (LocalCall.Post receive)) = tt
    within (code.Call.Local (LocalCall.Cancel slot)) = tt
    within (code.Call.Local (LocalCall.Report slot)) = tt
    within (code.Call.Packet sent reply) = part_all (λ x. x < 256) 0 bytes sent.at sent.size b
