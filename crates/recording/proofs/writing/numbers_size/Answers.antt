-- `recording::writing::numbers_size` meets its contract. The loop's invariant: the bytes of the numbers passed, with those of the rest, are all.
use lib.ListN.{length, get_or}
use mathlib.Core.Path.{ap}
use native.Mathlib.Numerals.{add-one}
use native.Mathlib.Omega.{arith}
use Rattle.trace.proofs.GroupCounts.{groups_length}
use Rattle.recording.proofs.WritingLaws.{numbers_end, numbers_length}
use Rattle.recording.proofs.writing.numbers_size.Goals as goal

pub overflow_add-size : goal.overflow_add-size
overflow_add-size c = omega (arith, groups_length 9 (get_or c.args.numbers.now c.loop-number.number-index 0))

pub loop-number-preserved : goal.loop-number-preserved
loop-number-preserved c =
    let l = c.loop-number in
    let numbers = c.args.numbers.now in
    let n = numbers_length numbers l.number-index (omega arith) in
    rw add-one (omega (arith, groups_length 9 (get_or numbers l.number-index 0)))

pub returns : goal.returns
returns c =
    let l = c.loop-number in
    omega (arith, ap length (numbers_end c.args.numbers.now l.number-index (omega arith)))
