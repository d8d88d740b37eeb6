-- `recording::writing::write` meets its contract: it refuses where the numbers and the bytes do not fit, and else puts one behind the other.
use mathlib.Core.Path.{sym}
use native.Mathlib.Omega.{arith}
use Rattle.trace.specs.Recorded.{numbers_bytes}
use Rattle.recording.proofs.WritingLaws.{wrote_both, wrote_short}
use Rattle.recording.proofs.writing.write.Goals as goal

pub returns-then-out-at : goal.returns-then-out-at
returns-then-out-at c =
    let a = c.args in
    sym (wrote_short a.out.now a.at (numbers_bytes a.numbers.now) a.bytes.now (omega arith))

pub returns-then-room-size : goal.returns-then-room-size
returns-then-room-size c =
    let a = c.args in
    sym (wrote_short a.out.now a.at (numbers_bytes a.numbers.now) a.bytes.now (omega arith))

pub returns-then-room-size-2 : goal.returns-then-room-size-2
returns-then-room-size-2 c =
    let a = c.args in
    sym (wrote_short a.out.now a.at (numbers_bytes a.numbers.now) a.bytes.now (omega arith))

pub returns : goal.returns
returns c =
    let a = c.args in
    rw (c.write_bytes.ensures.0, c.write_bytes.ensures.1, c.put_numbers-next.ensures.value, c.put_numbers-next.ensures.out_after)
    (sym (wrote_both a.out.now a.at (numbers_bytes a.numbers.now) a.bytes.now (omega arith)))
