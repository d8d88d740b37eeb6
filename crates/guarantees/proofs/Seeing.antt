-- Demand 2, delivery: in every run all that a peer sees is what the plain receiver makes of that peer's own calls.
use Prim.Native.Nat.{ℕ, ◌<◌}
use lib.ListN.{length, replicate}
use mathlib.Core.List.{List}
use mathlib.Core.Path.{◌≡◌, refl, sym, ap, ◌∙◌, subst, subst₂}
use Rattle.std.specs.Prelude.{Ok}
use Rattle.engine.specs.Leaves.{world}
use Rattle.engine.specs.SetUp.{engine_of, peer_at, set_up}
use Rattle.engine.specs.Steps.{World, words_of}
use Rattle.guarantees.specs.Delivery.{SeenByHistory, demanded}
use Rattle.guarantees.specs.Receiving.{asked, fresh_world, no_starts, receiving, seen_at, turn_of}
use Rattle.peer.specs.Calls.{Call, call_of}
use Rattle.peer.specs.Expected.{plain_step}
use Rattle.peer.specs.Plain.{Plain, fresh_plain}
use Rattle.peer.specs.Starts.{note_start}
use Rattle.peer.specs.State.{free_slot, fresh_peer, is_free, phase_at, slot_count}
use Rattle.peer.specs.declared.types.Peer.{Peer}
use Rattle.engine.proofs.SentencesHold.{fresh_peer_lem}
use Rattle.engine.proofs.Worlds.{byte_in}
use Rattle.guarantees.proofs.ByHistory.{Tracked, by_history}
use Rattle.guarantees.proofs.SetUps.{fresh_good, fresh_is}
use Rattle.guarantees.proofs.Tracking.{Tracks, other_stays, own_seen, own_stays}
use Rattle.laws.proofs.Choosing.{clashing}
use Rattle.peer.proofs.Plain.Agreement.{Agrees}
use Rattle.peer.proofs.Plain.Steps.{fresh_agrees, fresh_free}
use Rattle.peer.proofs.Plain.Replies.{Starts}

-- the peer is tracked in a world with these numbers
pub record Follows (p area limit : ℕ) (w : World) (starts : List ℕ) (l : Plain) : Type 0 where
  pub tracks : Tracks p w starts l
  pub same_area : w.engine.area ≡ area
  pub same_limit : w.engine.limit ≡ limit

pub followed : (p area limit : ℕ)
    → Tracked receiving p (demanded area limit) (λ (l : Plain) (c : Call). (plain_step area limit l c).after) (Follows p area limit)
followed p area limit =
    record {
      shows = λ w starts l c f.
          subst₂ (λ (m n : ℕ). seen_at w starts (asked p c) ≡ demanded m n l (call_of c)) f.same_area f.same_limit (own_seen p w starts l f.tracks (asked p c) refl);
      own = λ w starts l c f.
          let s = own_stays p w starts l f.tracks (asked p c) refl in
          record {
            tracks = subst₂ (λ (m n : ℕ). Tracks p (turn_of w (asked p c)).world (note_start starts (call_of c) (turn_of w (asked p c)).answer) (plain_step m n l (call_of c)).after)
                f.same_area f.same_limit s.tracks;
            same_area = s.area ∙ f.same_area;
            same_limit = s.limit ∙ f.same_limit;
          };
      others = λ w starts l q c d f.
          let s = other_stays p w starts l f.tracks (asked q c) d in
          record { tracks = s.tracks; same_area = s.area ∙ f.same_area; same_limit = s.limit ∙ f.same_limit };
    }

-- after a set-up that was not refused, every peer is tracked from a fresh history on
pub fresh_tracks : (n area limit p : ℕ) (arena map : List ℕ) → (set_up n area limit (length arena) map).started.answer ≡ Ok tt → p < n
    → Tracks p (fresh_world n area limit arena map) no_starts fresh_plain
fresh_tracks n area limit p arena map ready h =
    record {
      good = fresh_good n area limit arena map ready;
      below = subst (λ (v : World). p < v.engine.n) (sym is) h;
      agrees = subst (λ (q : Peer). Agrees q (words_of w p) (byte_in w p) fresh_plain) (sym fresh) (fresh_agrees (words_of w p) (byte_in w p));
      from = subst (λ (q : Peer). Starts q.slots no_starts) (sym fresh) fresh_starts;
    }
  where
    w : World
    w = fresh_world n area limit arena map

    is : w ≡ world (engine_of n area limit) arena (replicate (length map) 0)
    is = fresh_is n area limit arena map ready

    fresh : peer_at w.engine p ≡ fresh_peer
    fresh = ap (λ (v : World). peer_at v.engine p) is ∙ fresh_peer_lem n area limit p

    fresh_starts : Starts fresh_peer.slots no_starts
    fresh_starts =
        record {
          count = unfold fresh_peer in refl;
          at = λ i u. unfold fresh_peer in clashing (is_free (phase_at (replicate slot_count free_slot) i)) (ap is_free (fresh_free slot_count i)) u;
        }

pub fresh_follows : (n area limit p : ℕ) (arena map : List ℕ) → (set_up n area limit (length arena) map).started.answer ≡ Ok tt → p < n
    → Follows p area limit (fresh_world n area limit arena map) no_starts fresh_plain
fresh_follows n area limit p arena map ready h =
    let is = fresh_is n area limit arena map ready in
    record {
      tracks = fresh_tracks n area limit p arena map ready h;
      same_area = ap (λ (w : World). w.engine.area) is;
      same_limit = ap (λ (w : World). w.engine.limit) is;
    }

pub seen_by_history : SeenByHistory
unfolding SeenByHistory
seen_by_history n area limit p arena map ready h calls =
    by_history (followed p area limit) calls (fresh_world n area limit arena map) no_starts fresh_plain (fresh_follows n area limit p arena map ready h)
