-- `recording::number::put` meets its contract. The loop's invariant: the rest's groups, stored from here on, make the whole store.
use Prim.Native.Nat.{◌+◌, ◌-◌, ◌/◌, ◌%◌}
use lib.ListN.{length, length-set}
use mathlib.Core.Path.{◌≡◌, sym, ap, ◌∙◌}
use native.Mathlib.Omega.{arith}
use Rattle.laws.specs.Parts.{store_at}
use Rattle.trace.specs.Numbers.{groups}
use Rattle.laws.proofs.Storing.{set_next, set_store}
use Rattle.trace.proofs.GroupLaws.{groups_last}
use Rattle.trace.proofs.GroupCounts.{groups_length, groups_more}
use Rattle.recording.proofs.number.put.Goals as goal

pub bounds-out-i : goal.bounds-out-i
bounds-out-i c = omega (arith, groups_length (c.args.at + 9 - c.loop-rest.i) c.loop-rest.rest)

pub loop-rest-preserved : goal.loop-rest-preserved
loop-rest-preserved c =
    let a = c.args in
    let l = c.loop-rest in
    let k = a.at + 9 - l.i in
    let t = groups_more k l.rest (omega arith) l.invariant.1 in
    let n = ap length t.2 in
    let e : a.at + 9 - (l.i + 1) ≡ k - 1 = omega arith in
    let s = set_next l.out l.i (128 + l.rest % 128) (groups (k - 1) (l.rest / 128)) (omega arith) in
    (omega arith, rw e t.1, rw e (omega arith), rw length-set l.invariant.3, rw e (s ∙ ap (store_at l.out l.i) (sym t.2) ∙ l.invariant.4))

pub bounds-out-i-2 : goal.bounds-out-i-2
bounds-out-i-2 c = omega (arith, groups_length (c.args.at + 9 - c.loop-rest.i) c.loop-rest.rest)

pub returns-clause-value : goal.returns-clause-value
returns-clause-value c =
    let a = c.args in
    let l = c.loop-rest in
    let t = groups_last (a.at + 9 - l.i) l.rest (omega arith) in omega (arith, ap length t)

pub returns-clause-out_after : goal.returns-clause-out_after
returns-clause-out_after c =
    let a = c.args in
    let l = c.loop-rest in
    let t = groups_last (a.at + 9 - l.i) l.rest (omega arith) in rw (← l.invariant.4, t) (set_store l.out l.i l.rest (omega (arith, ap length t)))
