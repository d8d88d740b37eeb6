-- An engine whose state was checked once: as its calls go on, the check would say the same again.
use Prim.Native.Nat.{ℕ, ◌≤◌, ◌<◌}
use lib.ListN.{length, get_or}
use mathlib.Core.Bool.{Bool, true, false, ◌&&◌}
use mathlib.Core.Path.{◌≡◌, refl, sym, ◌∙◌}
use native.Mathlib.Omega.{arith}
use Rattle.std.specs.Prelude.{Ok, Err}
use Rattle.peer.specs.Calls.{Call}
use Rattle.peer.specs.declared.types.Peer.{Peer}
use Rattle.lending.specs.Lending.{Owned}
use Rattle.engine.specs.Gates.{gate_of, through_gate}
use Rattle.engine.specs.SetUp.{engine_fits, numbers_fit, peer_count}
use Rattle.engine.specs.Steps.{World, call_turn, refused_turn}
use Rattle.engine.specs.declared.types.Engine.{Engine}
use Rattle.engine.specs.Gates.{Gate}
use Rattle.engine.proofs.CheckLaws.{Gated, Passed, fit_numbers, gate_open, opened, small, through}
use Rattle.engine.proofs.OthersHold.{checked_good}
use Rattle.engine.proofs.WorldTurns.{good_called}
use Rattle.engine.proofs.Worlds.{Good, good_fits}
use Rattle.protocol.specs.declared.refusals.Refusal.{Refusal}
use Rattle.engine.specs.Sentences.{Eights}

pub record CheckedOnce (good : Bool) (e : Engine) : Type 0 where
  pub eights : Eights e
  pub state : engine_fits e ≡ good

-- numbers outside the limits are no good state
good_numbers : (e : Engine) (good : Bool) → engine_fits e ≡ good → (good && numbers_fit e.n e.area e.limit) ≡ good
good_numbers e true x = fit_numbers e x
good_numbers e false x = refl

module _ {good : Bool} (w : World) (p : ℕ) (s : CheckedOnce good w.engine) (g : Gate)
    (y : g ≡ gate_of (good && numbers_fit w.engine.n w.engine.area w.engine.limit) w.engine.n w.engine.area (length w.arena) (length w.map) p) where
  gate : Gated w.engine (length w.arena) (length w.map) p g
  gate = record { eight = s.eights.peers; says = rw s.state (rw (good_numbers w.engine good s.state) at y) }

  -- a call that is not let through
  pub once_refused : (k : Refusal) (c : Call) → g ≡ Err k → call_turn w p c ≡ refused_turn w k
  unfolding through_gate
  once_refused k c z = through w p c (Err k) gate z

  module _ (z : g ≡ Ok tt) where
    pub once_passed : Passed good w.engine.n w.engine.area (length w.arena) (length w.map) p
    once_passed = gate_open good w.engine.n w.engine.area (length w.arena) (length w.map) p (rw s.state at (sym gate.says ∙ z))

    pub once_owned : (d : Peer) → Owned w.engine.area w.engine.limit p (length w.arena) (length w.map) (get_or w.engine.peers p d)
    once_owned = (opened gate z).owns

    few : w.engine.n ≤ peer_count
    few = (small w.engine.n w.engine.area w.engine.limit (fit_numbers w.engine (s.state ∙ once_passed.state))).few

    pub once_in_peers : p < length w.engine.peers
    once_in_peers = omega (arith, once_passed.peer, few, s.eights.peers)

    pub once_good : Good w
    once_good = checked_good w s.eights (s.state ∙ once_passed.state) once_passed.lent

    -- the check would say the same of what the call leaves
    pub once_turn : (c : Call) → CheckedOnce good (call_turn w p c).world.engine
    once_turn c =
        let h = good_called w once_good p c in
        record { eights = record { peers = h.peers; slots = h.slots }; state = good_fits _ h ∙ sym once_passed.state }
