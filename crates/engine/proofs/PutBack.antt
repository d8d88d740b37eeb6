-- One peer's step in its own part, put back into the whole.
use Prim.Native.Nat.{ℕ, ◌+◌, ◌*◌, ◌/◌, ◌≤◌}
use lib.ListN.{length, get_or}
use mathlib.Core.List.{List, []}
use mathlib.Core.Path.{◌≡◌, sym, ap, ap₂, ◌∙◌}
use native.Mathlib.Nat.{sub-zero}
use native.Mathlib.Omega.{arith}
use Rattle.std.specs.Prelude.{Ok, Err}
use Rattle.laws.specs.Parts.{part}
use Rattle.engine.specs.Gates.{through_gate}
use Rattle.engine.specs.Leaves.{CallLeaves, call_leaves}
use Rattle.engine.specs.SetUp.{peer_at}
use Rattle.engine.specs.Gates.{Gate}
use Rattle.lending.specs.Lending.{Lent, leaves_at}
use Rattle.engine.specs.Steps.{World, call_turn, peer_turn, put_back, refused_turn, with_peer, words_of}
use Rattle.engine.specs.declared.types.Engine.{Engine}
use Rattle.protocol.specs.declared.refusals.Refusal.{Refusal}
use Rattle.peer.specs.Calls.{Call, packet, peer_step}
use Rattle.peer.specs.Effects.{quiet}
use Rattle.peer.specs.State.{fresh_peer}
use Rattle.peer.specs.declared.types.Answer.{Answer}
use Rattle.peer.specs.declared.types.Peer.{Peer}
use Rattle.laws.proofs.Storing.{part_rest, store_nothing, store_own}
use Rattle.laws.proofs.Listing.{get_d_any}
use Rattle.engine.proofs.CheckLaws.{Gated, opened, through}

-- a step that changes nothing but the peer
pub quiet_turn : (w : World) (p : ℕ) (q : Peer) (a : Answer) → p * (w.engine.area / 64) + w.engine.area / 64 ≤ length w.map
    → put_back w p (quiet q (words_of w p) a) ≡ record { world = record { engine = with_peer w.engine p q; arena = w.arena; map = w.map }; answer = a; reply = [] }
unfolding put_back
quiet_turn w p q a h =
    ap₂ (λ (x y : List ℕ). record { world = record { engine = with_peer w.engine p q; arena = x; map = y }; answer = a; reply = [] })
    (store_nothing w.arena (p * w.engine.area + 0)) (store_own w.map (p * (w.engine.area / 64)) (w.engine.area / 64) h)

-- a packet's step
abbrev pub put_in : Engine → ℕ → Lent → CallLeaves
put_in e p l =
    record {
      outcome = record { engine = with_peer e p l.step.peer; answer = l.step.answer };
      arena = l.arena;
      map = l.map;
      reply = l.reply;
    }

-- a part that is all of the list
all_of : (l : List ℕ) → part l 0 (length l) ≡ l
all_of l = rw sub-zero at (part_rest l 0)

-- ---- a call that its gate lets through, and one that it does not

module _ (w : World) {p : ℕ} {g : Gate} (x : Gated w.engine (length w.arena) (length w.map) p g) where
  pub refused_call : {k : Refusal} (c : Call) → g ≡ Err k → refused_turn w k ≡ call_turn w p c
  unfolding through_gate
  refused_call {k} c z = sym (through w p c (Err k) x z)

  -- a refused call leaves what it is lent
  pub refused_call_leaves : {k : Refusal} (c : Call) (reply : List ℕ) → g ≡ Err k
      → ◌≡◌ {A = CallLeaves} (record { outcome = record { engine = w.engine; answer = Answer.Refused k }; arena = w.arena; map = w.map; reply = reply })
      (call_leaves reply (call_turn w p c))
  refused_call_leaves c reply z = rw (← refused_call c z) (rw (store_nothing reply 0))

  module _ (z : g ≡ Ok tt) where
    step_of : (d : Peer) → get_or w.engine.peers p d ≡ peer_at w.engine p
    step_of d = get_d_any w.engine.peers p d fresh_peer (omega (arith, x.eight, (opened x z).below))

    -- a step that changes nothing but the peer
    pub quiet_call : (c : Call) (d : Peer) {q : Peer} {a : Answer}
        → quiet q (words_of w p) a ≡ peer_step w.engine.area w.engine.limit (get_or w.engine.peers p d) (words_of w p) c
        → record { world = record { engine = with_peer w.engine p q; arena = w.arena; map = w.map }; answer = a; reply = [] } ≡ call_turn w p c
    unfolding peer_turn through_gate
    quiet_call c d {q} {a} e =
        sym
        (through w p c (Ok tt) x z
        ∙ ap (λ (y : Peer). put_back w p (peer_step w.engine.area w.engine.limit y (words_of w p) c)) (sym (step_of d))
        ∙ ap (put_back w p) (sym e) ∙ quiet_turn w p q a ((opened x z).owns d).mapped.in_map)

    -- a packet's, which lies alone in what is lent, as its reply buffer does
    pub packet_call : (d : Peer) (bs reply : List ℕ) (l : Lent)
        → l ≡ leaves_at 0 w.engine.area p w.arena w.map reply
        (peer_step w.engine.area w.engine.limit (get_or w.engine.peers p d) (words_of w p)
        (packet (part bs 0 (length bs)) (length (part reply 0 (length reply)))))
        → put_in w.engine p l ≡ call_leaves reply (call_turn w p (packet bs (length reply)))
    unfolding peer_turn put_back through_gate
    packet_call d bs reply l e =
        let leaves : Peer → Call → Lent = λ y c. leaves_at 0 w.engine.area p w.arena w.map reply (peer_step w.engine.area w.engine.limit y (words_of w p) c) in
        ap (put_in w.engine p)
        (e ∙ ap₂ leaves (step_of d) (ap₂ packet (all_of bs) (ap length (all_of reply))))
        ∙ ap (call_leaves reply) (sym (through w p (packet bs (length reply)) (Ok tt) x z))
