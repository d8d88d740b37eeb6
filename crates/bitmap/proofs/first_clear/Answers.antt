-- `bitmap::first_clear` meets its contract. The invariant of both loops: the bits before i are set, so that
-- the search from i on gives what is left of the result. The inner loop stays in the word of the outer loop's i.
use Prim.Native.Nat.{◌+◌, ◌-◌, ◌*◌, ◌≤◌}
use mathlib.Core.Path.{◌≡◌, sym, ◌∙◌}
use native.Mathlib.Nat.{add_assoc, add-zero}
use native.Mathlib.Omega.{arith}
use Rattle.bitmap.specs.Map.{first_clear}
use Rattle.bitmap.proofs.BitLaws.{first_clear_le}
use Rattle.bitmap.proofs.Runs.{first_pass, first_run, full_run_lem}
use Rattle.bitmap.proofs.first_clear.Goals as goal
use Rattle.bitmap.proofs.first_clear.Goals.{else-words-test, then-words-test+else-w+then-loop-i-test+then-run-eq0, After-full_run, After-ones_from-run, Left-words}

-- the run of set bits at i, as far as the word goes
run : (c : After-ones_from-run)
    → let s = c in let a = s.args in
    let i = c.loop-i.i in let r = c.ones_from-run.result in let left = first_clear a.map.now i (a.at + a.n - i) in
    (i + r ≤ s.words.i + c.in_word.result) × (r ≤ left) × (r ≡ 0 → left ≡ 0)
run c =
    let s = c in
    let a = s.args in
    let l = c.loop-i in
    let k = c.in_word in
    first_run a.map.now s.words.i l.i k.result (a.at + a.n) c.ones_from-run.result
    l.invariant.0 c.loop-i-test.true k.ensures c.ones_from-run.ensures

-- the bits of a full word, and of the run of full words behind it
passed : (c : After-full_run)
    → let s = c in let a = s.args in
    let k = c.in_word.result in let r = c.full_run.result in
    (s.words.i + k + 64 * r ≤ a.at + a.n) × (k + 64 * r ≤ first_clear a.map.now s.words.i (a.at + a.n - s.words.i))
passed c =
    let s = c in
    let a = s.args in
    let k = c.in_word in
    full_run_lem a.map.now s.words.i k.result (a.at + a.n) c.full_run.result
    c.if-w.true (omega arith) k.ensures (omega arith) c.full_run.ensures

pub words-preserved-then-w : goal.words-preserved-then-w
words-preserved-then-w c =
    let a = c.args in
    let k = c.in_word.result in
    let r = 64 * c.full_run.result in
    let p = passed (goal.at.words-preserved-then-w c).After-full_run in (
      omega (arith, p.0),
      p.0,
      rw add_assoc (first_pass a.map.now a.at c.words.i (k + r) (a.at + a.n) _ (omega arith) p.1 c.words.invariant.2),
    )

pub loop-i-preserved : goal.loop-i-preserved
loop-i-preserved c =
    let l = c.loop-i in
    let a = c.args in
    let r = run (goal.at.loop-i-preserved c).After-ones_from-run in (
      omega arith,
      r.0,
      first_pass a.map.now a.at l.i c.ones_from-run.result (a.at + a.n) _ (omega arith) r.1 l.invariant.2,
    )

-- where the ways out meet: the range is at its end, or the run is empty
at_end : (c : Left-words) → let a = c.args in
    (a.at ≤ c.words-test.i) × (c.words-test.i - a.at ≡ first_clear a.map.now a.at a.n)
at_end c =
    let a = c.args in
    elim c.words-test.branch [
      | else-words-test w ↦
          let r = first_clear_le a.map.now c.words.i (a.at + a.n - c.words.i) in
          rw w.i-is (c.words.invariant.0, omega arith)
      | then-words-test+else-w+then-loop-i-test+then-run-eq0 w ↦
          let r =
          first_run a.map.now c.words.i w.loop-i.i w.in_word.result (a.at + a.n) w.ones_from-run.result
          w.loop-i.invariant.0 w.loop-i-test.true w.in_word.ensures w.ones_from-run.ensures in
          rw w.i-is (omega arith, sym (w.loop-i.invariant.2 ∙ rw (r.2 w.if-run-eq0.true, add-zero)))
    ]

pub returns : goal.returns
returns c = (at_end (goal.at.returns c).Left-words).1

pub overflow_mul-i : goal.overflow_mul-i
overflow_mul-i c = omega (arith, (passed (goal.at.overflow_mul-i c).After-full_run).0)

pub overflow_add-i : goal.overflow_add-i
overflow_add-i c = omega (arith, (passed (goal.at.overflow_add-i c).After-full_run).0)

pub overflow_add-i-in-loop-i : goal.overflow_add-i-in-loop-i
overflow_add-i-in-loop-i c = omega (arith, (run (goal.at.overflow_add-i-in-loop-i c).After-ones_from-run).0)
