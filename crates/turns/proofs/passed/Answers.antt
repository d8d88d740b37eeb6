-- `turns::passed` meets its contract: behind an open gate its peer is there, owns its part of arena and map, and makes its step.
use Rattle.std.proofs.Common.{ℕ, ◌<◌, ◌≡◌, ◌&&◌, length, sym, refl, true, Ok, arith}
use Rattle.engine.proofs.CheckLaws.{fit_numbers, gate_open}
use Rattle.engine.specs.Gates.{gate_of}
use Rattle.engine.specs.Leaves.{world}
use Rattle.engine.specs.Sentences.{Eights}
use Rattle.engine.specs.SetUp.{engine_fits, numbers_fit, peer_count}
use Rattle.engine.specs.Steps.{World, with_peer}
use Rattle.guarantees.specs.Receiving.{request_of, turn_of}
use Rattle.guarantees.proofs.CheckedOnce.{CheckedOnce, once_in_peers, once_owned}
use Rattle.guarantees.proofs.TurnTaken.{TurnTaken, turn_open}
use Rattle.turns.proofs.passed.Goals as goal
use Rattle.turns.proofs.passed.Goals.{After-step-step, Start}

-- an open gate says that the state is good, and is the gate of a good state
module _ (w : World) (p : ℕ) (x : Eights w.engine) (z : gate_of (engine_fits w.engine) w.engine.n w.engine.area (length w.arena) (length w.map) p ≡ Ok tt) where
  fits : engine_fits w.engine ≡ true
  fits = (gate_open _ _ _ _ _ _ z).state

  once : CheckedOnce true w.engine
  once = record { eights = x; state = fits }

  gate : Ok tt ≡ gate_of (true && numbers_fit w.engine.n w.engine.area w.engine.limit) w.engine.n w.engine.area (length w.arena) (length w.map) p
  gate = rw (fit_numbers w.engine fits) (sym (rw fits at z))

-- behind it its peer is there
below : (c : Start) → c.args.request.peer < peer_count
below c =
    let a = c.args in
    let w = world a.engine.now a.arena.now a.map.now in
    let h = once_in_peers w _ (once w _ c.requires.eights c.requires.gate) _ (gate w _ c.requires.eights c.requires.gate) refl in
    omega (arith, h, c.requires.eights.peers)

pub offset_bounds-engine-p : goal.offset_bounds-engine-p
offset_bounds-engine-p c = omega (arith, below (goal.at.offset_bounds-engine-p c).Start)

pub bounds-engine-p : goal.bounds-engine-p
bounds-engine-p c = omega (arith, below (goal.at.bounds-engine-p c).Start)

pub offset_bounds-engine-p-2 : goal.offset_bounds-engine-p-2
offset_bounds-engine-p-2 c = omega (arith, below (goal.at.offset_bounds-engine-p-2 c).Start)

pub bounds-engine-p-2 : goal.bounds-engine-p-2
bounds-engine-p-2 c = omega (arith, below (goal.at.bounds-engine-p-2 c).Start)

pub step-step-requires-clause-owned : goal.step-step-requires-clause-owned
step-step-requires-clause-owned c =
    let a = c.args in
    let w = world a.engine.now a.arena.now a.map.now in
    once_owned w _ (once w _ c.requires.eights c.requires.gate) _ (gate w _ c.requires.eights c.requires.gate) refl _

-- what the call leaves
made : (c : After-step-step) → let a = c.args in let l = c.step-step in
    TurnTaken a.replies.now a.request true (turn_of (world a.engine.now a.arena.now a.map.now) (request_of a.bytes.now a.replies.now a.request))
    (world (with_peer a.engine.now a.request.peer l.result.peer) l.new.arena l.new.map) l.new.replies l.result.answer
made c =
    let a = c.args in
    let w = world a.engine.now a.arena.now a.map.now in
    let s = once w _ c.requires.eights c.requires.gate in
    let y = gate w _ c.requires.eights c.requires.gate in
    turn_open a.bytes.now a.replies.now w a.request s _ y refl _ _ c.step-step.ensures

pub returns-clause-world_after : goal.returns-clause-world_after
returns-clause-world_after c = (made (goal.at.returns-clause-world_after c).After-step-step).world

pub returns-clause-answer : goal.returns-clause-answer
returns-clause-answer c = (made (goal.at.returns-clause-answer c).After-step-step).answer

pub returns-clause-replied : goal.returns-clause-replied
returns-clause-replied c = (made (goal.at.returns-clause-replied c).After-step-step).reply

pub returns-clause-state_after : goal.returns-clause-state_after
returns-clause-state_after c = (made (goal.at.returns-clause-state_after c).After-step-step).once.state
