-- `receiving::grants::write_cts` meets its contract: the packet writer does not refuse a CTS that grants something, where there is room.
use Rattle.receiving.proofs.CtsWritten.{cts_left}
use Rattle.receiving.proofs.grants.write_cts.Goals as goal

pub returns : goal.returns
returns c =
    let e = rw c.cts_header-header.ensures at c.write.ensures in
    cts_left c.args.send_id c.args.recv_id c.args.recv_length c.args.reply.now _ _ c.requires.in_bounds c.requires.le_recv_length e
