-- `packet::writer::total` meets its contract.
use Prim.Native.Nat.{◌≤◌}
use Rattle.protocol.proofs.WritingLaws.{above_limit_lem, head_small, total_above, total_with, total_without}
use mathlib.Core.Path.{sym, ◌∙◌}
use native.Mathlib.Omega.{arith}
use Rattle.packet.proofs.writer.total.Goals as goal
use Rattle.packet.proofs.writer.total.Goals.{After-head_length-head}

-- the headers without the raw address are short
head : (c : After-head_length-head) → c.head_length-head.result ≤ 80
head c = rw c.head_length-head.ensures (head_small c.args.row c.args.flags c.requires.sound)

pub returns-then-size-gt-PACKET_LIMIT : goal.returns-then-size-gt-PACKET_LIMIT
returns-then-size-gt-PACKET_LIMIT c =
    let a = c.args in
    sym (total_above a.row a.flags a.array a.raw a.size c.requires.array_value (omega arith))

pub returns-then-array-gt-PACKET_LIMIT : goal.returns-then-array-gt-PACKET_LIMIT
returns-then-array-gt-PACKET_LIMIT c =
    let a = c.args in
    sym (total_above a.row a.flags a.array a.raw a.size c.requires.array_value (omega arith))

pub returns-then-not-raw_address : goal.returns-then-not-raw_address
returns-then-not-raw_address c =
    let a = c.args in
    let e = sym c.raw_address.ensures ∙ c.if-not-raw_address.true in
    rw (c.limited.ensures, c.head_length-head.ensures) (sym (total_without a.row a.flags a.array a.raw a.size c.requires.array_value e))

pub returns-then-raw-gt-PACKET_LIMIT : goal.returns-then-raw-gt-PACKET_LIMIT
returns-then-raw-gt-PACKET_LIMIT c =
    let a = c.args in
    let e = sym c.raw_address.ensures ∙ c.if-not-raw_address.false in
    sym (total_with a.row a.flags a.array a.raw a.size c.requires.array_value e ∙ above_limit_lem _ (omega arith))

pub returns : goal.returns
returns c =
    let a = c.args in
    let e = sym c.raw_address.ensures ∙ c.if-not-raw_address.false in
    rw (c.limited-2.ensures, c.head_length-head.ensures) (sym (total_with a.row a.flags a.array a.raw a.size c.requires.array_value e))

pub overflow_add-head : goal.overflow_add-head
overflow_add-head c = omega (arith, head (goal.at.overflow_add-head c).After-head_length-head)

pub overflow_add-head-then-not-raw_address : goal.overflow_add-head-then-not-raw_address
overflow_add-head-then-not-raw_address c = omega (arith, head (goal.at.overflow_add-head-then-not-raw_address c).After-head_length-head)

pub overflow_add-head-2 : goal.overflow_add-head-2
overflow_add-head-2 c = omega (arith, head (goal.at.overflow_add-head-2 c).After-head_length-head)

pub overflow_add-head-3 : goal.overflow_add-head-3
overflow_add-head-3 c = omega (arith, head (goal.at.overflow_add-head-3 c).After-head_length-head)

pub overflow_add-head-4 : goal.overflow_add-head-4
overflow_add-head-4 c = omega (arith, head (goal.at.overflow_add-head-4 c).After-head_length-head)

pub overflow_add-head-5 : goal.overflow_add-head-5
overflow_add-head-5 c = omega (arith, head (goal.at.overflow_add-head-5 c).After-head_length-head)
