-- `packet::reader::whole` meets its contract.
use Rattle.laws.specs.Choose.{pick}
use Rattle.protocol.specs.Reading.{packet_in, read_lengths}
use Rattle.packet.proofs.reader.whole.Goals as goal

pub returns-then-not-fit : goal.returns-then-not-fit
unfolding read_lengths packet_in pick
returns-then-not-fit c =
    let e = c.if-not-fit.true in
    rw (← c.header-header.ensures, ← c.fit.ensures, e)

pub returns : goal.returns
unfolding read_lengths packet_in pick
returns c =
    rw (← c.header-header.ensures, ← c.fit.ensures, c.if-not-fit.false)
