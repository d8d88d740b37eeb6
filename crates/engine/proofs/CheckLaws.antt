-- The checks of a call: the numbers, the state, and the gate in front of the peer's own step.
use Prim.Native.Nat.{ℕ, zero, suc, ◌*◌, ◌/◌, ◌%◌, ◌≤◌, ◌<◌}
use borrow.Author.Tests.{ltb-true, leb-true}
use lib.Dec.{leb, ltb, eqb}
use lib.ListN.{length, get_or, take}
use lib.Seq.{length-take-le, get_or-take}
use mathlib.Core.Bool.{Bool, true, false, ◌&&◌}
use mathlib.Core.List.{List, [], ◌∷◌}
use mathlib.Core.Path.{◌≡◌, refl, sym, ap, ◌∙◌}
use native.Mathlib.Nat.{mul-le-mul}
use native.Mathlib.Omega.{arith}
use Rattle.std.specs.Prelude.{Ok, Err}
use Rattle.protocol.specs.Refusals.{bad_lent, bad_peer, bad_state}
use Rattle.engine.specs.Gates.{SmallArena, gate_of, through_gate}
use Rattle.lending.specs.Lending.{Owned}
use Rattle.engine.specs.SetUp.{all_peers_fit, engine_fits, lent_fits, numbers_fit, peer_count}
use Rattle.engine.specs.Steps.{World, call_turn, peer_turn, refused_turn}
use Rattle.engine.specs.declared.types.Engine.{Engine}
use Rattle.engine.specs.Gates.{Gate}
use Rattle.laws.specs.Choose.{pick}
use Rattle.protocol.specs.declared.refusals.Refusal.{Refusal}
use Rattle.peer.specs.Calls.{Call}
use Rattle.peer.specs.State.{peer_fits, area_limit}
use Rattle.peer.specs.declared.types.Peer.{Peer}
use Rattle.engine.proofs.Worlds.{lent_lengths, part_inside, sized}
use Rattle.laws.proofs.Choosing.{and_left, and_right, pick_first}
use Rattle.protocol.specs.Limits.{packet_limit}

-- ---- the numbers

pub small : (n area limit : ℕ) → numbers_fit n area limit ≡ true → SmallArena n area
unfolding numbers_fit
small n area limit e =
    let a = and_right (leb 1 n) _ e in
    let b = and_right (leb n peer_count) _ a in
    let d = and_right (leb 64 area) _ b in
    record {
      few = leb-true n peer_count (and_left _ (leb 64 area && (leb area area_limit && (eqb (area % 64) 0 && (leb 64 limit && leb limit packet_limit)))) a);
      short = leb-true area area_limit (and_left _ (eqb (area % 64) 0 && (leb 64 limit && leb limit packet_limit)) d);
    }

pub map_small : (n area : ℕ) → SmallArena n area → n * (area / 64) ≤ peer_count * (area_limit / 64)
map_small n area s =
    let w : area / 64 ≤ area_limit / 64 = omega (arith, s.short) in
    mul-le-mul s.few w

-- ---- the check of the state

module _ (e : Engine) where
  -- what the check says of the numbers and of each peer
  pub fit_numbers : engine_fits e ≡ true → numbers_fit e.n e.area e.limit ≡ true
  unfolding engine_fits
  fit_numbers x = and_left _ (all_peers_fit e.area (take e.n e.peers)) x

  pub fit_peer : (p : ℕ) (d : Peer) → engine_fits e ≡ true → p < e.n → e.n ≤ length e.peers → peer_fits e.area (get_or e.peers p d) ≡ true
  unfolding engine_fits
  fit_peer p d x h k =
      ap (peer_fits e.area) (sym (get_or-take e.n e.peers p d h))
      ∙ each (take e.n e.peers) p (simp (length-take-le e.n e.peers k) (omega arith))
      (and_right (numbers_fit e.n e.area e.limit) _ x)
    where
      each : (ps : List Peer) (j : ℕ) → j < length ps → all_peers_fit e.area ps ≡ true → peer_fits e.area (get_or ps j d) ≡ true
      each [] j l y = absurd (omega arith)
      each (q ∷ ps) zero l y = and_left (peer_fits e.area q) (all_peers_fit e.area ps) y
      each (q ∷ ps) (suc j) l y = each ps j (omega arith) (and_right (peer_fits e.area q) (all_peers_fit e.area ps) y)

-- ---- the gate

pub gate_turn : (w : World) (p : ℕ) (c : Call)
    → call_turn w p c ≡ through_gate w p c (gate_of (engine_fits w.engine) w.engine.n w.engine.area (length w.arena) (length w.map) p)
unfolding call_turn gate_of
gate_turn w p c =
    go (engine_fits w.engine) (lent_fits w.engine.n w.engine.area (length w.arena) (length w.map)) (ltb p w.engine.n)
  where
    go : (a b d : Bool)
        → pick a (pick b (pick d (peer_turn w p c) (refused_turn w bad_peer)) (refused_turn w bad_lent)) (refused_turn w bad_state)
        ≡ through_gate w p c (pick a (pick b (pick d (Ok tt) (Err bad_peer)) (Err bad_lent)) (Err bad_state))
    go false b d = unfold pick through_gate in refl
    go true false d = unfold pick through_gate in refl
    go true true false = unfold pick through_gate in refl
    go true true true = unfold pick through_gate in refl

pub record Passed (fits : Bool) (n area arena map p : ℕ) : Type 0 where
  pub state : fits ≡ true
  pub lent : lent_fits n area arena map ≡ true
  pub peer : p < n

pub gate_open : (fits : Bool) (n area arena map p : ℕ) → gate_of fits n area arena map p ≡ Ok tt → Passed fits n area arena map p
unfolding gate_of
gate_open fits n area arena map p e =
    let (state, e) = pick_first _ _ _ _ not_open_lem e in
    let (lent, e) = pick_first _ _ _ _ not_open_lem e in
    let (peer, e) = pick_first _ _ _ _ not_open_lem e in
    record { state = state; lent = lent; peer = ltb-true p n peer }
  where
    not_open_lem : {k : Refusal} → ◌≡◌ {A = Gate} (Err k) (Ok tt) → ⊥
    not_open_lem x = let z : ◌≡◌ {A = ℕ} 0 1 = cc in omega arith

-- behind an open gate there is a peer of this number, and it owns its part of arena and map
pub record Opened (e : Engine) (arena map p : ℕ) : Type 0 where
  pub below : p < peer_count
  pub owns : (d : Peer) → Owned e.area e.limit p arena map (get_or e.peers p d)

-- what the gate says of the call of peer p, lent so much of arena and map
pub record Gated (e : Engine) (arena map p : ℕ) (g : Gate) : Type 0 where
  pub eight : length e.peers ≡ peer_count
  pub says : g ≡ gate_of (engine_fits e) e.n e.area arena map p

numbers_twice : (a b : Bool) → ((a && b) && a) ≡ (a && b)
numbers_twice false b = refl
numbers_twice true false = refl
numbers_twice true true = refl

-- behind the check of the state
pub gated : {e : Engine} {fits : Bool} {arena map p : ℕ} {g : Gate} → length e.peers ≡ peer_count → fits ≡ engine_fits e
    → g ≡ gate_of (fits && numbers_fit e.n e.area e.limit) e.n e.area arena map p → Gated e arena map p g
unfolding engine_fits
gated {e} {fits} {arena} {map} {p} k x y =
    let numbers : Bool = numbers_fit e.n e.area e.limit in
    record {
      eight = k;
      says = y ∙ ap (λ (b : Bool). gate_of b e.n e.area arena map p) (ap (λ (b : Bool). b && numbers) x ∙ numbers_twice numbers _);
    }

pub opened : {e : Engine} {arena map p : ℕ} {g : Gate} → Gated e arena map p g → g ≡ Ok tt → Opened e arena map p
opened {e} {arena} {map} {p} w h =
    let o = gate_open (engine_fits e) e.n e.area arena map p (sym w.says ∙ h) in
    let numbers = fit_numbers e o.state in
    let s = small e.n e.area e.limit numbers in
    let z = sized e.n e.area e.limit numbers in
    let (a, m) = lent_lengths e.n e.area arena map o.lent in
    record {
      below = omega (arith, o.peer, s.few);
      owns = λ d. record {
        mapped = record {
          fits = fit_peer e p d o.state o.peer (omega (arith, w.eight, s.few));
          whole = z.whole;
          short = s.short;
          in_map = omega (arith, part_inside e.n p (e.area / 64) o.peer);
        };
        low = z.limit_low;
        high = z.limit_high;
        in_arena = omega (arith, part_inside e.n p e.area o.peer);
      };
    }

-- a call, by what its gate says
pub through : (w : World) (p : ℕ) (c : Call) {g : Gate} (h : Gate) → Gated w.engine (length w.arena) (length w.map) p g → g ≡ h
    → call_turn w p c ≡ through_gate w p c h
through w p c h x z = gate_turn w p c ∙ ap (through_gate w p c) (sym x.says ∙ z)
