-- `packet::writer::head_length` meets its contract. The sum does not wrap: headers without the raw address have at most 48 bytes.
use native.Mathlib.Omega.{arith}
use Rattle.protocol.specs.SectionsInTurn.{head_length}
use Rattle.protocol.proofs.WritingLaws.{head_small}
use Rattle.packet.proofs.writer.head_length.Goals as goal

pub overflow_add-result : goal.overflow_add-result
unfolding head_length
overflow_add-result c =
    omega (arith, head_small c.args.row c.args.flags c.requires)

pub overflow_add-result-2 : goal.overflow_add-result-2
unfolding head_length
overflow_add-result-2 c =
    omega (arith, head_small c.args.row c.args.flags c.requires)

pub returns : goal.returns
unfolding head_length
returns c = rw (c.connid_length.ensures, c.cq_data_length.ensures)
