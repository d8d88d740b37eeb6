-- `turns::turn` meets its contract: a call that its gate refuses leaves all, and one behind an open gate is made by `passed`.
use Rattle.std.proofs.Common.{◌≡◌, sym, true, ◌∙◌}
use Rattle.peer.specs.declared.types.Answer.{Answer}
use Rattle.engine.proofs.CheckLaws.{gated}
use Rattle.engine.specs.Leaves.{world}
use Rattle.guarantees.specs.Receiving.{request_of, turn_of}
use Rattle.guarantees.proofs.CheckedOnce.{CheckedOnce, once_passed}
use Rattle.guarantees.proofs.TurnTaken.{TurnTaken, turn_refused}
use Rattle.turns.proofs.turn.Goals as goal
use Rattle.turns.proofs.turn.Goals.{In-Err, In-Ok}

-- the gate that is open is the one of the engine's own state
pub passed-requires-clause-gate : goal.passed-requires-clause-gate
passed-requires-clause-gate c = sym (gated c.requires.eights.peers (sym c.requires.state) c.admit.ensures).says ∙ c.in-Ok.is

-- it opens for a state that the check found good alone
was_good : (c : In-Ok) → c.args.good ≡ true
was_good c =
    let a = c.args in
    let s : CheckedOnce a.good a.engine.now = record { eights = c.requires.eights; state = c.requires.state } in
    (once_passed (world a.engine.now a.arena.now a.map.now) _ s _ c.admit.ensures c.in-Ok.is).state

pub returns-in-Ok-clause-state_after : goal.returns-in-Ok-clause-state_after
returns-in-Ok-clause-state_after c = c.passed.ensures.state_after ∙ sym (was_good (goal.at.returns-in-Ok-clause-state_after c).In-Ok)

-- what a call that is refused leaves
refused : (c : In-Err) → let a = c.args in
    TurnTaken a.replies.now a.request a.good (turn_of (world a.engine.now a.arena.now a.map.now) (request_of a.bytes.now a.replies.now a.request))
    (world a.engine.now a.arena.now a.map.now) a.replies.now (Answer.Refused c.in-Err.refusal)
refused c =
    let a = c.args in
    let s : CheckedOnce a.good a.engine.now = record { eights = c.requires.eights; state = c.requires.state } in
    turn_refused a.bytes.now a.replies.now (world a.engine.now a.arena.now a.map.now) a.request s _ c.admit.ensures _ c.in-Err.is

pub returns-in-Err-clause-world_after : goal.returns-in-Err-clause-world_after
returns-in-Err-clause-world_after c = (refused (goal.at.returns-in-Err-clause-world_after c).In-Err).world

pub returns-in-Err-clause-answer : goal.returns-in-Err-clause-answer
returns-in-Err-clause-answer c = (refused (goal.at.returns-in-Err-clause-answer c).In-Err).answer

pub returns-in-Err-clause-replied : goal.returns-in-Err-clause-replied
returns-in-Err-clause-replied c = (refused (goal.at.returns-in-Err-clause-replied c).In-Err).reply
