-- `headers::sections::from` meets its contract. The sums do not wrap: CQ data and connid have at most 8 bytes each.
use Prim.Native.Nat.{◌+◌}
use borrow.Author.Tests.{lt-ltb, le-ltb}
use native.Mathlib.Omega.{arith}
use Rattle.laws.specs.Choose.{pick}
use Rattle.protocol.specs.SectionsInTurn.{sections_from}
use Rattle.protocol.proofs.ReadingLaws.{options_short}
use Rattle.headers.proofs.sections.from.Goals as goal

pub overflow_add-after : goal.overflow_add-after
overflow_add-after c = omega (arith, options_short c.args.row c.args.flags c.requires.sound)

pub overflow_add-data_at : goal.overflow_add-data_at
overflow_add-data_at c =
    omega (arith, options_short c.args.row c.args.flags c.requires.sound)

pub returns-then-n-data_at : goal.returns-then-n-data_at
unfolding sections_from pick
returns-then-n-data_at c =
    let a = c.args in
    let e = lt-ltb a.n (a.at + c.cq_data_length.result + c.connid_length.result) c.if-n-data_at.true in
    rw (← c.connid_length.ensures, ← c.cq_data_length.ensures, e)

pub returns : goal.returns
unfolding sections_from pick
returns c =
    let a = c.args in
    let e = le-ltb a.n (a.at + c.cq_data_length.result + c.connid_length.result) c.if-n-data_at.false in
    rw (c.connid_at.ensures, ← c.connid_length.ensures, ← c.cq_data_length.ensures, e)
