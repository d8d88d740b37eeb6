-- The numbers of fields: in a header, and in the bytes of a packet.
use Rattle.std.specs.Prelude.{ℕ, ◌+◌, List, [], ◌∷◌, ◌++◌, eqb}
use Rattle.laws.specs.Choose.{pick}
use Rattle.laws.specs.Parts.{store_at}
use Rattle.wire.specs.LittleEndian.{le_bytes, le_at}
use Rattle.protocol.specs.declared.table.TypeRow.{TypeRow}
use Rattle.protocol.specs.declared.types.Fields.{Fields}
use Rattle.protocol.specs.declared.types.Header.{Header}
use Rattle.protocol.specs.Layout.{Field, count, credit_request, msg_id, msg_length, multiuse, padding, place_of, recv_id, recv_length, same_field, seg_length, seg_offset, send_id, tag, width}
use Rattle.protocol.specs.Options.{connid_or_zero}

-- ---- in a header

-- of the type's own fields; padding, multiuse and count have none there
abbrev pub number_in : Fields → Field → ℕ
number_in v msg_id = v.msg_id
number_in v recv_id = v.recv_id
number_in v send_id = v.send_id
number_in v msg_length = v.msg_length
number_in v seg_length = v.seg_length
number_in v recv_length = v.recv_length
number_in v seg_offset = v.seg_offset
number_in v credit_request = v.credit_request
number_in v tag = v.tag
number_in v multiuse = 0
number_in v padding = 0
number_in v count = 0

-- as they are written with the count n: "a flagged multiuse is the connid", without its flag it is zero, and so is padding
abbrev pub field_number : ℕ → Header → Field → ℕ
field_number n h f = pick (same_field count f) n (pick (same_field multiuse f) (connid_or_zero h.connid) (number_in h.fields f))

-- the bytes of the fields gs of a header
unfoldable pub field_bytes : List Field → ℕ → Header → List ℕ
field_bytes [] n h = []
field_bytes (g ∷ gs) n h = le_bytes (width g) (field_number n h g) ++ field_bytes gs n h

-- ---- in bytes

-- the number of field f in bytes bs that have the fields gs from `at` on; 0 where f is none of them
unfoldable pub field_in : List Field → ℕ → List ℕ → Field → ℕ
field_in [] at bs f = 0
field_in (g ∷ gs) at bs f = pick (same_field g f) (le_at (width f) bs at) (field_in gs (at + width g) bs f)

-- the numbers of all fields, read so
unfoldable pub fields_in : List Field → ℕ → List ℕ → Fields
fields_in gs at bs =
    record {
      msg_id = field_in gs at bs msg_id;
      recv_id = field_in gs at bs recv_id;
      send_id = field_in gs at bs send_id;
      msg_length = field_in gs at bs msg_length;
      seg_length = field_in gs at bs seg_length;
      recv_length = field_in gs at bs recv_length;
      seg_offset = field_in gs at bs seg_offset;
      credit_request = field_in gs at bs credit_request;
      tag = field_in gs at bs tag;
    }

-- ---- at one place, where 0 is none

-- the number of n bytes there; 0 where there is none
unfoldable pub number_there : ℕ → ℕ → List ℕ → ℕ
number_there place n bs = pick (eqb place 0) 0 (le_at n bs place)

-- the count of an array in the bytes bs of a packet
unfoldable pub count_in : TypeRow → List ℕ → ℕ
count_in r bs = number_there (place_of r count) (width count) bs

-- the bytes with the number x, of n bytes, there
unfoldable pub put_there : ℕ → ℕ → ℕ → List ℕ → List ℕ
put_there place n x bs = pick (eqb place 0) bs (store_at bs place (le_bytes n x))

-- the bytes with the fields fs of a header, put one by one where the row says
abbrev pub put_fields : TypeRow → ℕ → Header → List Field → List ℕ → List ℕ
put_fields r n h [] bs = bs
put_fields r n h (f ∷ fs) bs = put_fields r n h fs (put_there (place_of r f) (width f) (field_number n h f) bs)
