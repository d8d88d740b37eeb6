-- The checks 2, 3 and 4 of a call, as a gate in front of the peer's own step.
use Rattle.std.specs.Prelude.{ℕ, ◌≤◌, Bool, ltb, Ok, Err, Result}
use Rattle.laws.specs.Choose.{pick}
use Rattle.protocol.specs.Refusals.{bad_lent, bad_peer, bad_state}
use Rattle.protocol.specs.declared.refusals.Refusal.{Refusal}
use Rattle.peer.specs.Calls.{Call}
use Rattle.peer.specs.State.{area_limit}
use Rattle.engine.specs.SetUp.{lent_fits, peer_count}
use Rattle.engine.specs.Steps.{World, Turn, refused_turn, peer_turn}

-- the number of peers and an area are within the set-up's limits, so that their product is small
pub record SmallArena (n area : ℕ) : Type 0 where
  pub few : n ≤ peer_count
  pub short : area ≤ area_limit

-- whether a call goes through to its peer
abbrev pub Gate : Type 0
Gate = Result (Unit {0}) Refusal

-- by whether the state can be, the number of peers, the area, the lengths of arena and map, and the peer's number
unfoldable pub gate_of : Bool → ℕ → ℕ → ℕ → ℕ → ℕ → Gate
gate_of fits n area arena map p =
    pick fits
    (pick (lent_fits n area arena map) (pick (ltb p n) (Ok tt) (Err bad_peer)) (Err bad_lent))
    (Err bad_state)

unfoldable pub through_gate : World → ℕ → Call → Gate → Turn
through_gate w p c (Ok tt) = peer_turn w p c
through_gate w p c (Err k) = refused_turn w k
