-- `packed::running::run_calls` meets its contract. The loop's invariant: the state was checked once, and what the calls passed leave, with the rest run from there, is what
-- all of them leave.
use lib.ListN.{length}
use mathlib.Core.Path.{◌≡◌, refl, sym, ◌∙◌}
use native.Mathlib.Omega.{arith}
use Rattle.guarantees.proofs.CheckedOnce.{CheckedOnce}
use Rattle.guarantees.proofs.RunInvariant.{run_made}
use Rattle.packed.specs.Calls.{request_at}
use Rattle.std.specs.Prelude.{Some}
use Rattle.packed.proofs.BatchInvariant.{batch_again, batch_bad, batch_end, batch_inside, batch_next, batch_start}
use Rattle.packed.proofs.running.run_calls.Goals as goal
use Rattle.packed.proofs.running.run_calls.Goals.{After-turn-answer}

pub loop-taken-init : goal.loop-taken-init
loop-taken-init c = (
  refl,
  refl,
  refl,
  refl,
  record { eights = c.requires; state = sym c.fits-good.ensures },
  batch_start _ _ _ _ _ _ c.budget-most.ensures,
)

pub returns-in_default : goal.returns-in_default
returns-in_default c = sym (batch_bad c.loop-taken.invariant.5 c.loop-taken-test.true (sym c.request_at.ensures ∙ c.in_default.is))

-- ---- a call that was read

read : (c : After-turn-answer) → let a = c.args in let l = c.loop-taken in
    request_at a.calls.now (length a.bytes.now) (length l.replies) l.at ≡ Some c.in-Some.request
read c = sym c.request_at.ensures ∙ c.in-Some.is

pub turn-answer-requires-clause-eights : goal.turn-answer-requires-clause-eights
turn-answer-requires-clause-eights c = c.loop-taken.invariant.4.eights

pub turn-answer-requires-clause-state : goal.turn-answer-requires-clause-state
turn-answer-requires-clause-state c = c.loop-taken.invariant.4.state

pub turn-answer-requires-clause-lies_within : goal.turn-answer-requires-clause-lies_within
turn-answer-requires-clause-lies_within c =
    batch_inside c.loop-taken.invariant.5 c.loop-taken-test.true _ (sym c.request_at.ensures ∙ c.in-Some.is)

pub loop-taken-preserved : goal.loop-taken-preserved
loop-taken-preserved c =
    let l = c.loop-taken in
    let g = l.invariant.5 in
    let h = c.loop-taken-test.true in
    let f = read (goal.at.loop-taken-preserved c).After-turn-answer in
    let q = c.turn-answer in
    let n = q.auto.replies in
    let once : CheckedOnce c.fits-good.result q.new.engine = record { eights = q.ensures.eights_after; state = q.ensures.state_after } in
    let m = run_made (batch_next g h _ f) (batch_inside g h _ f) q.ensures.world_after q.ensures.answer q.ensures.replied n once in
    let p = c.put_answer-at in (
      q.auto.arena ∙ l.invariant.0,
      q.auto.map ∙ l.invariant.1,
      n ∙ l.invariant.2,
      p.auto.answers ∙ l.invariant.3,
      once,
      batch_again g h _ f m _ _ p.ensures.0 p.ensures.1,
    )

pub returns : goal.returns
returns c =
    let e : c.budget-most.result ≡ c.loop-taken.taken = omega arith in
    rw e (sym (batch_end c.loop-taken.invariant.5 c.loop-taken-test.false))
