-- `receiving::packets::packet` meets its contract: a packet that was read has its data in its bytes, and keeps to what its parts ask.
use Rattle.std.proofs.Common.{◌^◌, ◌<◌, length, sym, ◌∙◌, arith, le-ltb, lt-ltb}
use Rattle.laws.specs.Choose.{pick}
use Rattle.peer.specs.Calls.{packet_effect, read_effect}
use Rattle.laws.proofs.Storing.{lent_part}
use Rattle.receiving.proofs.Asking.{data_inside, left_quiet}
use Rattle.peer.proofs.Sentences.PacketsRead.{read_formed}
use Rattle.receiving.proofs.packets.packet.Goals as goal
use Rattle.receiving.proofs.packets.packet.Goals.{After-shared_slice_known-1}

pub returns-then-reply-lt-CTS_LENGTH : goal.returns-then-reply-lt-CTS_LENGTH
unfolding packet_effect pick
returns-then-reply-lt-CTS_LENGTH c = rw (lt-ltb _ _ c.if-reply-lt-CTS_LENGTH.true, c.refused.ensures) (left_quiet _ _ _ _ _)

-- a slice is shorter than the address space
short : (c : After-shared_slice_known-1) → length c.args.bytes.now < 2 ^ 63
short c = omega arith

pub overflow_add-end : goal.overflow_add-end
overflow_add-end c =
    let a = c.args in
    let e = sym c.read_served.ensures ∙ c.in-Ok.is in
    omega (arith, data_inside a.limit a.bytes.now _ e, short (goal.at.overflow_add-end c).After-shared_slice_known-1)

pub slice_bounds-carry-end : goal.slice_bounds-carry-end
slice_bounds-carry-end c =
    let a = c.args in
    let e = sym c.read_served.ensures ∙ c.in-Ok.is in
    omega (arith, data_inside a.limit a.bytes.now _ e)

pub carry-requires : goal.carry-requires
carry-requires c =
    let a = c.args in
    let e = sym c.read_served.ensures ∙ c.in-Ok.is in
    let d = c.in-Ok.packet.«data» in
    rw (c.incoming_of-h.ensures, lent_part a.bytes.now d.at d.size)
    (record { limited = c.requires.limited; mapped = c.requires.mapped; form = read_formed a.limit a.bytes.now _ e; room = c.if-reply-lt-CTS_LENGTH.false })

pub returns-in-Err : goal.returns-in-Err
unfolding packet_effect read_effect pick
returns-in-Err c = rw (le-ltb _ _ c.if-reply-lt-CTS_LENGTH.false, ← c.read_served.ensures, c.in-Err.is, c.refused-in-Err.ensures) (left_quiet _ _ _ _ _)

pub returns-in-Ok : goal.returns-in-Ok
unfolding packet_effect read_effect pick
returns-in-Ok c =
    let a = c.args in
    let d = c.in-Ok.packet.«data» in
    rw (le-ltb _ _ c.if-reply-lt-CTS_LENGTH.false, ← c.read_served.ensures, c.in-Ok.is)
    (rw (c.incoming_of-h.ensures, lent_part a.bytes.now d.at d.size) at c.carry.ensures)
