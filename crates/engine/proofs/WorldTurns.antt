-- One peer's turn leaves a world whose state can be: the peer has what its call left it, every other peer what it had.
use Prim.Native.Nat.{ℕ, ◌+◌, ◌*◌, ◌/◌, ◌≤◌, ◌<◌}
use borrow.Author.Tests.{lt-ltb, le-ltb}
use lib.ListN.{length, get_or, length-set}
use lib.Seq.{get_or-set_same}
use mathlib.Core.List.{List}
use mathlib.Core.Logic.{⊎_map}
use mathlib.Core.Path.{◌≡◌, sym, ap, ap₂, ◌∙◌, subst}
use native.Mathlib.Decide.{dec_lt, ℕ_discrete}
use native.Mathlib.Omega.{arith}
use Rattle.protocol.specs.Refusals.{bad_peer}
use Rattle.engine.specs.SetUp.{lent_fits, peer_at}
use Rattle.engine.specs.Steps.{Turn, World, call_turn, peer_turn, put_back, refused_turn, with_peer, words_of}
use Rattle.laws.specs.Parts.{part, store_at}
use Rattle.peer.specs.Calls.{Call, peer_step}
use Rattle.peer.specs.Effects.{Effect}
use Rattle.peer.specs.State.{fresh_peer, slot_count}
use Rattle.peer.specs.declared.types.Peer.{Peer}
use Rattle.peer.specs.declared.types.Slot.{Slot}
use Rattle.engine.proofs.OthersHold.{arena_fit, map_fit, others_same}
use Rattle.engine.proofs.Worlds.{Good, byte_in, good_fits, in_peers, kept, lengths, part_inside, parts_apart, words}
use Rattle.laws.proofs.Choosing.{pick_false, pick_true}
use Rattle.laws.proofs.Reading.{get_d_store_in, get_d_store_out, part_apart}
use Rattle.laws.proofs.Storing.{length_store, part_store}
use Rattle.peer.proofs.Plain.CoverageLaws.{Wrote}
use Rattle.peer.proofs.PeerSteps.Kept.{Kept}
use Rattle.peer.proofs.Slots.Valid.{Valid}

abbrev peer_of : ℕ → List Slot → Peer
peer_of next slots = record { next = next; slots = slots }

-- the effect f of a call of peer p
module _ (w : World) (g : Good w) (p : ℕ) (h : p < w.engine.n) (f : Effect) (k : Kept w.engine.area (peer_at w.engine p) (words_of w p) f) where
  abbrev w' : World
  w' = (put_back w p f).world

  -- what others have is as it was
  pub peer_other : (q : ℕ) → (q ≡ p → ⊥) → peer_at w'.engine q ≡ peer_at w.engine q
  peer_other q d =
      let same = others_same w g p h f k q d in
      ap₂ peer_of same.next same.slots

  pub words_other : (q : ℕ) → q < w.engine.n → (q ≡ p → ⊥) → words_of w' q ≡ words_of w q
  unfolding put_back
  words_other q l d =
      let (arena, map) = lengths w g p h in
      part_apart w.map (p * (w.engine.area / 64)) f.words (q * (w.engine.area / 64)) (w.engine.area / 64) (map_fit w g p h f k)
      (omega (arith, part_inside w.engine.n q (w.engine.area / 64) l))
      (⊎_map (λ x. x) (λ x. omega (arith, k.words, words w g p h)) (parts_apart p q (w.engine.area / 64) d))

  -- what the peer has is as its call left it
  pub peer_own : peer_at w'.engine p ≡ f.peer
  unfolding put_back
  peer_own = get_or-set_same w.engine.peers p f.peer fresh_peer (in_peers w g p h)

  pub words_own : words_of w' p ≡ f.words
  unfolding put_back
  words_own =
      ap (part (store_at w.map (p * (w.engine.area / 64)) f.words) (p * (w.engine.area / 64))) (sym (k.words ∙ words w g p h))
      ∙ part_store w.map (p * (w.engine.area / 64)) f.words (omega (arith, map_fit w g p h f k))

  -- the byte at x of a peer's area
  pub byte_own : Wrote w.engine.area (byte_in w p) (byte_in w' p) f.at f.bytes
  unfolding put_back
  byte_own =
      record {
        written = λ x l.
            ap (λ (n : ℕ). get_or (store_at w.arena (p * w.engine.area + f.at) f.bytes) n 0) (omega arith)
            ∙ get_d_store_in w.arena (p * w.engine.area + f.at) f.bytes (arena_fit w g p h f k) x 0 l;
        kept = λ y l d. get_d_store_out w.arena (p * w.engine.area + f.at) f.bytes (arena_fit w g p h f k) (p * w.engine.area + y) 0
            (⊎_map (λ x. omega arith) (λ x. omega arith) d);
      }

  pub good_turn : Good w'
  unfolding put_back
  good_turn =
      let (arena, map) = lengths w g p h in
      record {
        numbers = g.numbers;
        lent = ap₂ (lent_fits w.engine.n w.engine.area)
            (length_store w.arena (p * w.engine.area + f.at) f.bytes (arena_fit w g p h f k)) (length_store w.map (p * (w.engine.area / 64)) f.words (map_fit w g p h f k))
            ∙ g.lent;
        peers = length-set w.engine.peers p f.peer ∙ g.peers;
        each = λ q l. each q l (ℕ_discrete q p);
        slots = λ q l. slots q l (ℕ_discrete q p);
      }
    where
      each : (q : ℕ) → q < w.engine.n → Dec (q ≡ p) → Valid w.engine.area (peer_at (with_peer w.engine p f.peer) q).slots
      each q l (yes x) =
          subst (λ (y : Peer). Valid w.engine.area y.slots) (sym (ap (peer_at (with_peer w.engine p f.peer)) x ∙ peer_own)) k.valid
      each q l (no x) = subst (λ (y : Peer). Valid w.engine.area y.slots) (sym (peer_other q x)) (g.each q l)

      slots : (q : ℕ) → q < w.engine.n → Dec (q ≡ p) → length (peer_at (with_peer w.engine p f.peer) q).slots ≡ slot_count
      slots q l (yes x) =
          ap (λ (y : Peer). length y.slots) (ap (peer_at (with_peer w.engine p f.peer)) x ∙ peer_own) ∙ k.slots ∙ g.slots p h
      slots q l (no x) = ap (λ (y : Peer). length y.slots) (peer_other q x) ∙ g.slots q l

-- ---- every call

-- a call of a peer below n: the checks pass, and its own step is made
pub turn_own : (w : World) → Good w → (p : ℕ) → p < w.engine.n → (c : Call)
    → call_turn w p c ≡ put_back w p (peer_step w.engine.area w.engine.limit (peer_at w.engine p) (words_of w p) c)
unfolding call_turn peer_turn
turn_own w g p h c = pick_true _ _ (good_fits w g) ∙ pick_true _ _ g.lent ∙ pick_true _ _ (lt-ltb p w.engine.n h)

-- a call of no peer below n leaves all
pub turn_none : (w : World) → Good w → (p : ℕ) → w.engine.n ≤ p → (c : Call) → call_turn w p c ≡ refused_turn w bad_peer
unfolding call_turn
turn_none w g p h c = pick_true _ _ (good_fits w g) ∙ pick_true _ _ g.lent ∙ pick_false _ _ (le-ltb p w.engine.n h)

-- every call leaves a good world
pub good_called : (w : World) → Good w → (p : ℕ) (c : Call) → Good (call_turn w p c).world
good_called w g p c = elim (dec_lt p w.engine.n) as (λ d. Good (call_turn w p c).world) [
  | yes h ↦ subst (λ (t : Turn). Good t.world) (sym (turn_own w g p h c)) (good_turn w g p h _ (kept w g p h c))
  | no h ↦ subst (λ (t : Turn). Good t.world) (sym (turn_none w g p (omega (arith, h)) c)) g
]
