-- `packet::writer::put_mandatory` meets its contract: its two parts are stored side by side.
use native.Mathlib.Omega.{arith}
use Rattle.protocol.specs.Arrays.{array_count}
use Rattle.protocol.specs.FieldNumbers.{field_bytes}
use Rattle.protocol.specs.Optional.{flags_of}
use Rattle.protocol.specs.Layout.{layout}
use Rattle.protocol.specs.Writing.{base_bytes, mandatory_bytes}
use Rattle.laws.proofs.Storing.{store_next}
use Rattle.protocol.proofs.LayoutLaws.{length_fields}
use Rattle.protocol.proofs.WritingLaws.{length_base}
use Rattle.packet.proofs.writer.put_mandatory.Goals as goal

pub returns : goal.returns
unfolding mandatory_bytes
returns c =
    let r = c.args.row in
    let h = c.args.header in
    let base = base_bytes r.kind (flags_of r h) in
    let fields = field_bytes (layout r) (array_count r c.args.n) h in
    let n1 = length_base r.kind (flags_of r h) in
    let n2 = length_fields (layout r) (array_count r c.args.n) h in
    let n3 = c.requires.sound.header in
    let n4 = c.requires.header_in_bounds in
    rw (c.write.ensures, c.count_of.ensures, c.put_base.ensures, c.requires.flags_value) (store_next c.args.out.now 0 base fields 4 (omega arith) (omega arith))
