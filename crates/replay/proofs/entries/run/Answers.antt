-- `replay::entries::run` meets its contract. The loop's invariant: the state can be, and what the entries taken leave, with the rest run from there, is the whole replay.
use Prim.Native.Nat.{◌<◌}
use lib.ListN.{length}
use mathlib.Core.Logic.{inl, inr}
use mathlib.Core.Path.{◌≡◌, refl, sym, ◌∙◌}
use Rattle.trace.specs.Entries.{entry_at}
use Rattle.std.specs.Prelude.{Some, true}
use Rattle.guarantees.proofs.CheckedOnce.{CheckedOnce}
use Rattle.guarantees.proofs.RunInvariant.{run_made}
use Rattle.replay.proofs.ReplayInvariant.{replay_again, replay_bad, replay_end, replay_inside, replay_next, replay_start}
use Rattle.replay.proofs.entries.run.Goals as goal
use Rattle.replay.proofs.entries.run.Goals.{After-turn-answer, else-loop-taken-test, then-loop-taken-test+else-place-trace}

pub loop-taken-init : goal.loop-taken-init
loop-taken-init c =
    (refl, refl, refl, refl, record { eights = c.requires.eights; state = c.requires.start_value }, replay_start _ _ _ _ _ _ _ c.requires.budget_in_bounds)

pub returns-in_default : goal.returns-in_default
returns-in_default c =
    sym (replay_bad c.loop-taken.invariant.5 c.loop-taken-test.true c.if-place-trace.true (sym c.read_entry.ensures ∙ c.in_default.is))

-- ---- an entry that was read

inside : (c : After-turn-answer) → c.loop-taken.place < length c.args.trace.now
inside c = c.if-place-trace.true

read : (c : After-turn-answer) → entry_at c.args.trace.now c.loop-taken.place ≡ Some (c.in-Some.request, c.in-Some.next)
read c = sym c.read_entry.ensures ∙ c.in-Some.is

pub turn-answer-requires-clause-eights : goal.turn-answer-requires-clause-eights
turn-answer-requires-clause-eights c = c.loop-taken.invariant.4.eights

pub turn-answer-requires-clause-state : goal.turn-answer-requires-clause-state
turn-answer-requires-clause-state c = c.loop-taken.invariant.4.state

pub turn-answer-requires-clause-lies_within : goal.turn-answer-requires-clause-lies_within
turn-answer-requires-clause-lies_within c =
    rw c.with_buffer-call.ensures
    (replay_inside c.loop-taken.invariant.5 c.loop-taken-test.true c.if-place-trace.true _ _ (sym c.read_entry.ensures ∙ c.in-Some.is))

pub loop-taken-preserved : goal.loop-taken-preserved
loop-taken-preserved c =
    let l = c.loop-taken in
    let g = l.invariant.5 in
    let h = c.loop-taken-test.true in
    let k = inside (goal.at.loop-taken-preserved c).After-turn-answer in
    let f = read (goal.at.loop-taken-preserved c).After-turn-answer in
    let q = c.turn-answer in
    let n = q.auto.replies in
    let e = c.with_buffer-call.ensures in
    let once : CheckedOnce true q.new.engine = record { eights = q.ensures.eights_after; state = q.ensures.state_after } in
    let m = run_made (replay_next g h k _ _ f) (replay_inside g h k _ _ f) (rw e at q.ensures.world_after) (rw e at q.ensures.answer) (rw e at q.ensures.replied) n once in
    let p = c.put_answer-written in (
      q.auto.arena ∙ l.invariant.0,
      q.auto.map ∙ l.invariant.1,
      n ∙ l.invariant.2,
      p.auto.text ∙ l.invariant.3,
      once,
      replay_again g h k _ _ f m _ _ p.ensures.0 p.ensures.1,
    )

pub returns : goal.returns
returns c =
    rw c.ending.ensures
    (sym (replay_end c.loop-taken.invariant.5
    (elim c.loop-taken-test.branch [
      | then-loop-taken-test+else-place-trace w ↦ inr w.if-place-trace.false
      | else-loop-taken-test w ↦ inl w.loop-taken-test.false
    ])))
