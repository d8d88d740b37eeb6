-- `recording::writing::put_numbers` meets its contract. The loop's invariant: the bytes of the rest, stored from here on, make the whole store.
use Prim.Native.Nat.{suc, ◌<◌}
use lib.ListN.{length, get_or, drop}
use mathlib.Core.Path.{sym, ap}
use native.Mathlib.Numerals.{add-one}
use native.Mathlib.Omega.{arith}
use Rattle.trace.specs.Numbers.{number_bytes}
use Rattle.trace.specs.Recorded.{numbers_bytes}
use Rattle.laws.proofs.Storing.{store_next, store_nothing}
use Rattle.recording.proofs.WritingLaws.{numbers_end, numbers_length, numbers_next}
use Rattle.recording.proofs.writing.put_numbers.Goals as goal

pub put-next-requires : goal.put-next-requires
put-next-requires c =
    let l = c.loop-number in
    omega (arith, numbers_length c.args.numbers.now l.number-index (omega arith))

pub loop-number-preserved : goal.loop-number-preserved
loop-number-preserved c =
    let l = c.loop-number in
    let a = c.args in
    let p = c.put-next in
    let h : l.number-index < length a.numbers.now = omega arith in
    let n = numbers_length a.numbers.now l.number-index h in
    let one = number_bytes (get_or a.numbers.now l.number-index 0) in
    let rest = numbers_bytes (drop (suc l.number-index) a.numbers.now) in
    let s = store_next l.out l.next one rest p.result p.ensures.value (omega arith) in
    (rw add-one (omega arith), rw (add-one, p.ensures.out_after, s, ← numbers_next a.numbers.now l.number-index h) l.invariant.1)

pub returns-clause-value : goal.returns-clause-value
returns-clause-value c =
    let l = c.loop-number in
    let a = c.args in
    let e = numbers_end a.numbers.now l.number-index (omega arith) in omega (arith, ap length e)

pub returns-clause-out_after : goal.returns-clause-out_after
returns-clause-out_after c =
    let l = c.loop-number in
    let a = c.args in
    let e = numbers_end a.numbers.now l.number-index (omega arith) in rw (← l.invariant.1, e) (sym (store_nothing l.out l.next))
