-- A world whose state can be and whose lent memory has the right lengths: it passes the checks, and its peers' parts are apart.
use Prim.Native.Nat.{ℕ, suc, ◌+◌, ◌*◌, ◌/◌, ◌%◌, ◌≤◌, ◌<◌}
use borrow.Author.Tests.{leb-true, eqb-true}
use lib.Dec.{leb, eqb}
use lib.ListN.{length, get_or, take}
use lib.Seq.{length-take-le, get_or-take}
use mathlib.Core.Bool.{true, ◌&&◌}
use mathlib.Core.List.{List, [], ◌∷◌}
use mathlib.Core.Logic.{◌⊎◌, inl, inr}
use mathlib.Core.Path.{◌≡◌, refl, ap, ◌∙◌}
use native.Mathlib.Decide.{dec_lt}
use native.Mathlib.Nat.{mul-le-mul_right, suc-mul}
use native.Mathlib.Omega.{arith}
use Rattle.engine.specs.SetUp.{all_peers_fit, engine_fits, lent_fits, numbers_fit, peer_at, peer_count}
use Rattle.engine.specs.Steps.{World, words_of}
use Rattle.peer.specs.Calls.{Call, peer_step}
use Rattle.peer.specs.State.{fresh_peer, peer_fits, slot_count, area_limit}
use Rattle.peer.specs.declared.types.Peer.{Peer}
use Rattle.laws.proofs.Choosing.{and_intro, and_left, and_right}
use Rattle.laws.proofs.Storing.{length_part}
use Rattle.peer.proofs.PeerSteps.Kept.{Kept, step_kept}
use Rattle.peer.proofs.Slots.Valid.{Valid, valid_fits}
use Rattle.protocol.specs.Limits.{packet_limit}

pub record Good (w : World) : Type 0 where
  pub numbers : numbers_fit w.engine.n w.engine.area w.engine.limit ≡ true
  pub lent : lent_fits w.engine.n w.engine.area (length w.arena) (length w.map) ≡ true
  pub peers : length w.engine.peers ≡ peer_count
  pub each : (p : ℕ) → p < w.engine.n → Valid w.engine.area (peer_at w.engine p).slots
  pub slots : (p : ℕ) → p < w.engine.n → length (peer_at w.engine p).slots ≡ slot_count

-- the byte at x of peer p's area
abbrev pub byte_in : World → ℕ → ℕ → ℕ
byte_in w p x = get_or w.arena (p * w.engine.area + x) 0

-- ---- the numbers

pub record Sized (n area limit : ℕ) : Type 0 where
  pub few : n ≤ peer_count
  pub low : 64 ≤ area
  pub whole : area % 64 ≡ 0
  pub limit_low : 64 ≤ limit
  pub limit_high : limit ≤ packet_limit

pub sized : (n area limit : ℕ) → numbers_fit n area limit ≡ true → Sized n area limit
unfolding numbers_fit
sized n area limit e =
    let a = and_right (leb 1 n) _ e in
    let b = and_right (leb n peer_count) _ a in
    let c = and_right (leb 64 area) _ b in
    let d = and_right (leb area area_limit) _ c in
    let f = and_right (eqb (area % 64) 0) _ d in
    record {
      few = leb-true n peer_count (and_left _ (leb 64 area && (leb area area_limit && (eqb (area % 64) 0 && (leb 64 limit && leb limit packet_limit)))) a);
      low = leb-true 64 area (and_left _ (leb area area_limit && (eqb (area % 64) 0 && (leb 64 limit && leb limit packet_limit))) b);
      whole = eqb-true (area % 64) 0 (and_left _ (leb 64 limit && leb limit packet_limit) d);
      limit_low = leb-true 64 limit (and_left _ (leb limit packet_limit) f);
      limit_high = leb-true limit packet_limit (and_right (leb 64 limit) _ f);
    }

pub lent_lengths : (n area arena map : ℕ) → lent_fits n area arena map ≡ true → (arena ≡ n * area) × (map ≡ n * (area / 64))
unfolding lent_fits
lent_lengths n area arena map e =
    (eqb-true arena (n * area) (and_left _ (eqb map (n * (area / 64))) e), eqb-true map (n * (area / 64)) (and_right (eqb arena (n * area)) _ e))

-- ---- parts of equal size

-- the part of p lies in the whole, and the parts of two peers are apart
pub part_inside : (n p size : ℕ) → p < n → p * size + size ≤ n * size
part_inside n p size h = rw suc-mul at (mul-le-mul_right size h)

pub parts_apart : (p q size : ℕ) → (q ≡ p → ⊥) → (q * size + size ≤ p * size) ⊎ (p * size + size ≤ q * size)
parts_apart p q size d = elim (dec_lt q p) as (λ x. (q * size + size ≤ p * size) ⊎ (p * size + size ≤ q * size)) [
  | yes h ↦ inl (part_inside p q size h)
  | no h ↦ inr (part_inside q p size (omega (arith, h, d)))
]

-- ---- the state check

each_fits : (area : ℕ) (ps : List Peer) → ((j : ℕ) → j < length ps → peer_fits area (get_or ps j fresh_peer) ≡ true) → all_peers_fit area ps ≡ true
each_fits area [] f = refl
each_fits area (p ∷ ps) f = and_intro (peer_fits area p) (all_peers_fit area ps) (f 0 (omega arith)) (each_fits area ps (λ j h. f (suc j) (omega arith)))

-- a good world passes the checks 2 and 3
pub good_fits : (w : World) → Good w → engine_fits w.engine ≡ true
unfolding engine_fits
good_fits w g =
    let z = sized w.engine.n w.engine.area w.engine.limit g.numbers in
    and_intro (numbers_fit w.engine.n w.engine.area w.engine.limit) _ g.numbers
    (each_fits w.engine.area (take w.engine.n w.engine.peers)
    (λ j h.
    let h' : j < w.engine.n = omega (arith, g.peers, z.few, length-take-le w.engine.n w.engine.peers (omega (arith, g.peers, z.few))) in
    ap (peer_fits w.engine.area) (get_or-take w.engine.n w.engine.peers j fresh_peer h')
    ∙ valid_fits w.engine.area (peer_at w.engine j) (g.each j h')))

-- ---- one peer's turn

-- of a peer below n
module _ (w : World) (g : Good w) (p : ℕ) (h : p < w.engine.n) where
  pub lengths : (length w.arena ≡ w.engine.n * w.engine.area) × (length w.map ≡ w.engine.n * (w.engine.area / 64))
  lengths = lent_lengths w.engine.n w.engine.area (length w.arena) (length w.map) g.lent

  pub words : length (words_of w p) ≡ w.engine.area / 64
  words =
      let (arena, map) = lengths in
      length_part w.map (p * (w.engine.area / 64)) (w.engine.area / 64) (omega (arith, part_inside w.engine.n p (w.engine.area / 64) h))

  -- the peer's words have a bit for each byte of its area
  pub words_cover : w.engine.area ≤ 64 * length (words_of w p)
  words_cover = omega (arith, words, (sized w.engine.n w.engine.area w.engine.limit g.numbers).whole)

  -- p's place among the peers
  pub in_peers : p < length w.engine.peers
  in_peers = omega (arith, g.peers, (sized w.engine.n w.engine.area w.engine.limit g.numbers).few)

  -- and what its call leaves is in bounds
  pub kept : (c : Call) → Kept w.engine.area (peer_at w.engine p) (words_of w p) (peer_step w.engine.area w.engine.limit (peer_at w.engine p) (words_of w p) c)
  kept c = step_kept w.engine.area w.engine.limit (peer_at w.engine p) (words_of w p) c (g.each p h) (g.slots p h)
