-- `replay::replaying::begin` meets its contract: the first line, the calls' lines and the last make the report.
use lib.ListN.{length}
use mathlib.Core.Path.{◌≡◌, sym, ◌∙◌}
use native.Mathlib.Omega.{arith}
use Rattle.replay.proofs.DecodeLaws.{calls_few}
use Rattle.replay.proofs.LineRoom.{tell_room}
use Rattle.replay.proofs.WholeLaws.{last_room, ready_holds, replay_from_ready, replay_from_refused, reported_by_parts, set_up_room}
use Rattle.replay.proofs.replaying.begin.Goals as goal

pub tell-requires : goal.tell-requires
tell-requires c = tell_room _ _ _ c.requires

pub put_line-first-requires : goal.put_line-first-requires
put_line-first-requires c = let a = set_up_room in let p = c.requires in omega arith

pub run-ran-requires-clause-eights : goal.run-ran-requires-clause-eights
run-ran-requires-clause-eights c =
    let w = c.put_line-first in
    let a = set_up_room in
    let p = c.requires in
    let k : length w.new.text ≡ length c.args.text.now = w.auto.text in
    let (eights, fits) = ready_holds _ _ _ c.args.arena.now _ _ c.set_up-started.ensures c.in-Ok.is in eights

pub run-ran-requires-clause-start_value : goal.run-ran-requires-clause-start_value
run-ran-requires-clause-start_value c =
    let w = c.put_line-first in
    let a = set_up_room in
    let p = c.requires in
    let k : length w.new.text ≡ length c.args.text.now = w.auto.text in
    let (eights, fits) = ready_holds _ _ _ c.args.arena.now _ _ c.set_up-started.ensures c.in-Ok.is in fits

pub run-ran-requires-clause-budget_in_bounds : goal.run-ran-requires-clause-budget_in_bounds
run-ran-requires-clause-budget_in_bounds c =
    let w = c.put_line-first in
    let a = set_up_room in
    let p = c.requires in
    let k : length w.new.text ≡ length c.args.text.now = w.auto.text in
    let (eights, fits) = ready_holds _ _ _ c.args.arena.now _ _ c.set_up-started.ensures c.in-Ok.is in omega arith

pub put_ending-requires : goal.put_ending-requires
put_ending-requires c =
    let a = c.args in
    let w = c.put_line-first in
    let r = c.run-ran in
    last_room _ _ _ a.text.now _ a.budget (calls_few a.budget _ _ _) c.requires _ _ w.ensures.0 (rw w.ensures.1 at r.ensures)

pub returns-in-Err : goal.returns-in-Err
returns-in-Err c =
    c.tell.ensures _ _ _
    ∙ sym (replay_from_refused _ _ _ _ _ _ _ _ _ _ _ c.set_up-started.ensures _ c.in-Err.is)

pub returns-in-Ok : goal.returns-in-Ok
returns-in-Ok c =
    let a = c.args in
    let w = c.put_line-first in
    let r = c.run-ran in
    let p = c.put_ending in
    reported_by_parts _ _ _ a.text.now _ a.budget (calls_few a.budget _ _ _) c.requires _ _ w.ensures.0 (rw w.ensures.1 at r.ensures) _ _
    p.ensures.0 p.ensures.1
    ∙ sym (replay_from_ready _ _ _ _ _ _ _ _ _ _ _ c.set_up-started.ensures c.in-Ok.is)
