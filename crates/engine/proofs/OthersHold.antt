-- "No peer uses another's slots, area or bits": OthersKept of specs/Sentences.antt, from what a peer's call writes and where its part lies.
use Prim.Native.Nat.{ℕ, ◌+◌, ◌*◌, ◌/◌, ◌%◌, ◌^◌, ◌≤◌, ◌<◌}
use borrow.Author.Tests.{ltb-true}
use lib.Dec.{ltb}
use lib.ListN.{length}
use lib.Seq.{get_or-set_other}
use mathlib.Core.Bool.{true}
use mathlib.Core.Logic.{⊎_map}
use mathlib.Core.Path.{◌≡◌, refl, ap}
use native.Mathlib.Omega.{arith}
use Rattle.bitmap.specs.Map.{bit, bit_at}
use Rattle.protocol.specs.Refusals.{bad_lent, bad_peer, bad_state}
use Rattle.engine.specs.Sentences.{Eights, OthersKept, SameFor}
use Rattle.engine.specs.SetUp.{engine_fits, lent_fits, peer_at}
use Rattle.engine.specs.Steps.{Turn, World, call_turn, peer_turn, put_back, refused_turn, words_of}
use Rattle.peer.specs.Calls.{Call}
use Rattle.peer.specs.Effects.{Effect}
use Rattle.peer.specs.State.{fresh_peer}
use Rattle.peer.specs.declared.types.Peer.{Peer}
use Rattle.engine.proofs.AreaBits.{word_of}
use Rattle.engine.proofs.CheckLaws.{fit_numbers, fit_peer, small}
use Rattle.engine.proofs.Worlds.{Good, kept, lengths, part_inside, parts_apart, sized, words}
use Rattle.laws.proofs.Choosing.{branch}
use Rattle.laws.proofs.Reading.{get_d_store_out}
use Rattle.peer.proofs.PeerSteps.Kept.{Kept}
use Rattle.peer.proofs.Slots.Valid.{fits_valid}

-- ---- what another peer has

-- the effect f of a call of peer p
module _ (w : World) (g : Good w) (p : ℕ) (h : p < w.engine.n) (f : Effect) (k : Kept w.engine.area (peer_at w.engine p) (words_of w p) f) where
  -- what is put back lies in the memory lent
  pub map_fit : p * (w.engine.area / 64) + length f.words ≤ length w.map
  map_fit = let (arena, map) = lengths w g p h in omega (arith, k.words, words w g p h, part_inside w.engine.n p (w.engine.area / 64) h)

  pub arena_fit : p * w.engine.area + f.at + length f.bytes ≤ length w.arena
  arena_fit = let (arena, map) = lengths w g p h in omega (arith, k.in_area, part_inside w.engine.n p w.engine.area h)

  -- and in p's own part: another peer has what it had
  pub others_same : (q : ℕ) → (q ≡ p → ⊥) → SameFor q w (put_back w p f).world
  unfolding put_back
  others_same q d =
      let size : ℕ = w.engine.area / 64 in
      record {
        next = ap (λ (x : Peer). x.next) (get_or-set_other w.engine.peers p q f.peer fresh_peer d);
        slots = ap (λ (x : Peer). x.slots) (get_or-set_other w.engine.peers p q f.peer fresh_peer d);
        bytes = λ x l. get_d_store_out w.arena (p * w.engine.area + f.at) f.bytes arena_fit (q * w.engine.area + x) 0
            (⊎_map (λ (y : q * w.engine.area + w.engine.area ≤ p * w.engine.area). omega arith)
            (λ (y : p * w.engine.area + w.engine.area ≤ q * w.engine.area). omega (arith, k.in_area)) (parts_apart p q w.engine.area d));
        bits = λ x l. unfold bit_at bit in ap (λ (word : ℕ). word / 2 ^ ((q * w.engine.area + x) % 64) % 2)
            (get_d_store_out w.map (p * size) f.words map_fit ((q * w.engine.area + x) / 64) 0
            (⊎_map (λ (y : q * size + size ≤ p * size). omega (arith, whole, word_of q w.engine.area x whole))
            (λ (y : p * size + size ≤ q * size). omega (arith, whole, k.words, words w g p h, word_of q w.engine.area x whole)) (parts_apart p q size d)));
      }
    where
      whole : w.engine.area % 64 ≡ 0
      whole = (sized w.engine.n w.engine.area w.engine.limit g.numbers).whole

-- ---- a world that passes the checks 2 and 3

pub checked_good : (w : World) → Eights w.engine → engine_fits w.engine ≡ true
    → lent_fits w.engine.n w.engine.area (length w.arena) (length w.map) ≡ true → Good w
checked_good w eights state lent =
    let numbers = fit_numbers w.engine state in
    let few = (small w.engine.n w.engine.area w.engine.limit numbers).few in
    record {
      numbers = numbers;
      lent = lent;
      peers = eights.peers;
      each = λ q h. fits_valid w.engine.area (peer_at w.engine q) (fit_peer w.engine q fresh_peer state h (omega (arith, eights.peers, few)));
      slots = eights.slots;
    }

-- a call is refused and leaves the world, or the world is a good one
pub turned : (P : Turn → Type 0) (w : World) → Eights w.engine → (p : ℕ) (c : Call) → (P (refused_turn w bad_state)) → (P (refused_turn w bad_lent)) → (P (refused_turn w bad_peer))
    → (Good w → p < w.engine.n → P (peer_turn w p c)) → P (call_turn w p c)
unfolding call_turn
turned P w eights p c state lent peer own =
    branch P (engine_fits w.engine) _ _
    (λ x. branch P (lent_fits w.engine.n w.engine.area (length w.arena) (length w.map)) _ _
    (λ y. branch P (ltb p w.engine.n) _ _ (λ z. own (checked_good w eights x y) (ltb-true p w.engine.n z)) (λ z. peer))
    (λ y. lent))
    (λ x. state)

-- ---- every call

same_for : (q : ℕ) (w : World) → SameFor q w w
same_for q w = record { next = refl; slots = refl; bytes = λ x h. refl; bits = λ x h. refl }

pub others_kept : OthersKept
unfolding OthersKept peer_turn
others_kept w eights p c q l d =
    turned (λ (t : Turn). SameFor q w t.world) w eights p c (same_for q w) (same_for q w) (same_for q w) (λ g h. others_same w g p h _ (kept w g p h c) q d)
