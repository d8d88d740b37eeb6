-- A packet's values (01: "its type, that type's own fields (padding and multiuse are none; a flagged multiuse is the connid), the
-- optional headers present and the data").
use Rattle.std.specs.Prelude.{ℕ, List, [], map, Option, Some, None}
use Rattle.laws.specs.Choose.{pick}
use Rattle.laws.specs.Parts.{part}
use Rattle.protocol.specs.declared.types.Fields.{Fields}
use Rattle.protocol.specs.declared.types.Header.{Header}
use Rattle.protocol.specs.declared.types.Packet.{Packet}
use Rattle.protocol.specs.declared.types.Span.{Span}
use Rattle.protocol.specs.FieldNumbers.{number_in}
use Rattle.protocol.specs.Layout.{own_fields}
use Rattle.protocol.specs.Types.{row_of}
use Rattle.protocol.specs.declared.table.TypeRow.{TypeRow}

pub record Values : Type 0 where
  pub kind : ℕ
  -- the numbers of the type's own fields, in their order
  pub own : List ℕ
  pub raw_address : Option (List ℕ)
  pub cq_data : Option ℕ
  pub connid : Option ℕ
  pub body : List ℕ

unfoldable pub own_numbers : Option TypeRow → Fields → List ℕ
own_numbers None v = []
own_numbers (Some r) v = map (number_in v) (own_fields r)

-- the values that a writer is given: the header, the raw address, of which the header says whether it is there, and the data
unfoldable pub values : Header → List ℕ → List ℕ → Values
values h raw body =
    record {
      kind = h.kind;
      own = own_numbers (row_of h.kind) h.fields;
      raw_address = pick h.raw_address (Some raw) None;
      cq_data = h.cq_data;
      connid = h.connid;
      body = body;
    }

abbrev pub bytes_at : List ℕ → Span → List ℕ
bytes_at bs s = part bs s.at s.size

-- the values of a packet that was read from bs
unfoldable pub values_in : Packet → List ℕ → Values
values_in p bs = values p.header (bytes_at bs p.raw_address) (bytes_at bs p.«data»)
