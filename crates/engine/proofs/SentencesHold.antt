-- A set-up that is not refused starts fresh peers over a clear map, and a call leaves the set-up numbers.
use Prim.Native.Nat.{ℕ, zero, suc, ◌/◌, ◌%◌, ◌^◌, ◌<◌}
use lib.ListN.{length, get_or, replicate, length-replicate}
use mathlib.Core.Bool.{true, ◌&&◌}
use mathlib.Core.List.{List}
use mathlib.Core.Path.{◌≡◌, refl, sym, ap, ◌∙◌, subst}
use native.Mathlib.Nat.{zero-div}
use native.Mathlib.Omega.{arith}
use Rattle.std.specs.Prelude.{Ok}
use Rattle.bitmap.specs.Map.{bit, bit_at}
use Rattle.engine.specs.Sentences.{ClearMap, FreshEngine, SameSetUp, SetUpKept, SetUpStartsFresh}
use Rattle.engine.specs.SetUp.{Prepared, engine_of, lent_fits, not_started, numbers_fit, peer_at, peer_count, set_up}
use Rattle.engine.specs.Steps.{Turn, World, peer_turn, put_back}
use Rattle.peer.specs.Calls.{Call}
use Rattle.peer.specs.State.{free_slot, fresh_peer, phase_at, slot_count}
use Rattle.peer.specs.declared.types.Peer.{Peer}
use Rattle.peer.specs.declared.types.Phase.{Phase}
use Rattle.engine.proofs.OthersHold.{turned}
use Rattle.engine.proofs.WorldTurns.{good_called, turn_own}
use Rattle.engine.proofs.Worlds.{Good, lent_lengths}
use Rattle.laws.proofs.Choosing.{and_left, and_right, branch}

-- ---- set-up

pub ready_fits : (n area limit arena : ℕ) (map : List ℕ) → (set_up n area limit arena map).started.answer ≡ Ok tt
    → (numbers_fit n area limit ≡ true) × (lent_fits n area arena (length map) ≡ true)
unfolding set_up
ready_fits n area limit arena map =
    branch (λ (x : Prepared). x.started.answer ≡ Ok tt → (numbers_fit n area limit ≡ true) × (lent_fits n area arena (length map) ≡ true))
    (numbers_fit n area limit && lent_fits n area arena (length map)) _ (not_started map)
    (λ x y. (and_left (numbers_fit n area limit) (lent_fits n area arena (length map)) x, and_right (numbers_fit n area limit) (lent_fits n area arena (length map)) x))
    (λ x y. let u : ◌≡◌ {A = ℕ} 0 1 = cc in absurd (omega arith))

zeros : (n i : ℕ) → ◌≡◌ {A = ℕ} (get_or (replicate n 0) i 0) 0
zeros zero i = refl
zeros (suc n) zero = refl
zeros (suc n) (suc i) = zeros n i

fresh_at : (m p : ℕ) → get_or (replicate m fresh_peer) p fresh_peer ≡ fresh_peer
fresh_at zero p = refl
fresh_at (suc m) zero = refl
fresh_at (suc m) (suc p) = fresh_at m p

free_at : (m i : ℕ) → phase_at (replicate m free_slot) i ≡ Phase.Free
free_at zero i = refl
free_at (suc m) zero = refl
free_at (suc m) (suc i) = free_at m i

-- every peer of a fresh engine is fresh
pub fresh_peer_lem : (n area limit p : ℕ) → peer_at (engine_of n area limit) p ≡ fresh_peer
fresh_peer_lem n area limit p = fresh_at peer_count p

fresh_engine : (n area limit : ℕ) → FreshEngine n area limit (engine_of n area limit)
fresh_engine n area limit =
    record {
      n_is = refl;
      area_is = refl;
      limit_is = refl;
      eights = record {
        peers = length-replicate peer_count fresh_peer;
        slots = λ p h. ap (λ (q : Peer). length q.slots) (fresh_peer_lem n area limit p) ∙ (unfold fresh_peer in length-replicate slot_count free_slot);
      };
      next = λ p h. ap (λ (q : Peer). q.next) (fresh_peer_lem n area limit p) ∙ (unfold fresh_peer in refl);
      free = λ p i h k. ap (λ (q : Peer). phase_at q.slots i) (fresh_peer_lem n area limit p) ∙ (unfold fresh_peer in free_at slot_count i);
    }

clear_map : (map : List ℕ) → ClearMap map (replicate (length map) 0)
clear_map map =
    record {
      size = length-replicate (length map) 0;
      clear = λ i. unfold bit_at bit in ap (λ (w : ℕ). w / 2 ^ (i % 64) % 2) (zeros (length map) (i / 64)) ∙ ap (λ (w : ℕ). w % 2) (zero-div (2 ^ (i % 64)));
    }

pub set_up_starts_fresh : SetUpStartsFresh
unfolding SetUpStartsFresh set_up
set_up_starts_fresh n area limit arena map =
    branch (λ (x : Prepared). x.started.answer ≡ Ok tt → FreshEngine n area limit x.started.engine × ClearMap map x.map)
    (numbers_fit n area limit && lent_fits n area arena (length map)) _ (not_started map)
    (λ x y. (fresh_engine n area limit, clear_map map))
    (λ x y. let u : ◌≡◌ {A = ℕ} 0 1 = cc in absurd (omega arith))

-- ---- the set-up numbers

-- the call that is made
module _ (w : World) (p : ℕ) (c : Call) (g : Good w) (h : p < w.engine.n) where
  numbers_same : SameSetUp w (peer_turn w p c).world
  unfolding peer_turn put_back
  numbers_same =
      let after : Good (peer_turn w p c).world = subst (λ (t : Turn). Good t.world) (turn_own w g p h c) (good_called w g p c) in
      let (arena, map) = lent_lengths w.engine.n w.engine.area (length w.arena) (length w.map) g.lent in
      let (arena', map') = lent_lengths w.engine.n w.engine.area _ _ after.lent in
      record { n = refl; area = refl; limit = refl; arena = arena' ∙ sym arena; map = map' ∙ sym map }

same_set_up : (w : World) → SameSetUp w w
same_set_up w = record { n = refl; area = refl; limit = refl; arena = refl; map = refl }

pub set_up_kept : SetUpKept
unfolding SetUpKept
set_up_kept w eights p c =
    turned (λ (t : Turn). SameSetUp w t.world) w eights p c (same_set_up w) (same_set_up w) (same_set_up w) (λ g h. numbers_same w p c g h)
