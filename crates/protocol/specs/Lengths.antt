-- The rules on lengths (01, "Lengths: ..", and 02, request 3, for LONGCTS).
use Rattle.std.specs.Prelude.{ℕ, ◌+◌, Bool, true, ◌&&◌, leb, eqb}
use Rattle.protocol.specs.declared.table.Shape.{Shape}
use Rattle.protocol.specs.declared.table.Shape.TheVariants.{Cts, CtsData, Eager, Medium, LongCts}
use Rattle.protocol.specs.declared.types.Fields.{Fields}

-- the lengths of a packet with the fields v and n bytes of data
unfoldable pub lengths_fit : Shape → Fields → ℕ → Bool
-- "CTS has no data and recv_length at least 1"
lengths_fit Cts v n = eqb n 0 && leb 1 v.recv_length
-- "CTSDATA data equals seg_length, at least 1"
lengths_fit CtsData v n = leb 1 n && eqb n v.seg_length
-- "Eager data may be empty; its length is the message length"
lengths_fit Eager v n = true
-- "medium data at least 1 byte, offset + data ≤ msg_length as whole numbers"
lengths_fit Medium v n = leb 1 n && leb (v.seg_offset + n) v.msg_length
-- "at most msg_length"; request 3: "Accept 0 bytes when msg_length is at least 1; a msg_length of 0 stays refusal 11"
lengths_fit LongCts v n = leb 1 v.msg_length && leb n v.msg_length
