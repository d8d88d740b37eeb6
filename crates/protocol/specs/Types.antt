-- The table of packet types (01: "One constant table, keyed by type, gives mandatory header lengths").
use Rattle.std.specs.Prelude.{ℕ, ◌+◌, List, [], ◌∷◌, Bool, true, false, ◌||◌, eqb, Option, Some, None}
use Rattle.laws.specs.Choose.{pick}
use Rattle.protocol.specs.Layout.{credit_request, msg_id, msg_length, multiuse, recv_id, recv_length, seg_length, seg_offset, send_id, tag, word}
use Rattle.protocol.specs.declared.table.TypeRow.{TypeRow}
use Rattle.protocol.specs.declared.table.Shape.{Shape}
use Rattle.protocol.specs.declared.table.Shape.TheVariants.{Cts, CtsData, Eager, Medium, LongCts}

-- type, shape; bytes of the mandatory header, where the length stands in it, where all its fields stand, bytes of the connid header; tagged,
-- served, a request; flags it must have, flags it may have. No type has a counted array
abbrev pub row : ℕ → Shape → ℕ → ℕ → ℕ → ℕ → Bool → Bool → Bool → ℕ → ℕ → TypeRow
row k s h l p c t e q must may =
    record {
      kind = k;
      shape = s;
      header = h;
      length_at = l;
      places = p;
      connid = c;
      tagged = t;
      served = e;
      request = q;
      must = must;
      may = may;
      unit = 0;
      less = 0;
    }

abbrev pub cts_row : TypeRow
cts_row = row 3 Cts 24 16 (word 1 multiuse + word 2 send_id + word 3 recv_id + word 4 recv_length) 0 false false false 0x0 0x8000

-- The 8 bytes that 000 calls a MEDIUM packet's seg_length are the message's length (docs/DECISIONS.md)
abbrev pub rows : List TypeRow
rows =
    cts_row
    ∷ row 4 CtsData 24 8 (word 1 recv_id + word 2 seg_length + word 4 seg_offset) 8 false true false 0x0 0x8000
    ∷ row 64 Eager 8 0 (word 1 msg_id) 4 false true true 0x4 0x8003
    ∷ row 65 Eager 16 0 (word 1 msg_id + word 2 tag) 4 true true true 0xc 0x8003
    ∷ row 66 Medium 24 8 (word 1 msg_id + word 2 msg_length + word 4 seg_offset) 4 false true true 0x4 0x8003
    ∷ row 67 Medium 32 8 (word 1 msg_id + word 2 msg_length + word 4 seg_offset + word 6 tag) 4 true true true 0xc 0x8003
    ∷ row 68 LongCts 24 8 (word 1 msg_id + word 2 msg_length + word 4 send_id + word 5 credit_request) 4 false true true 0x4 0x8003
    ∷ row 69 LongCts 32 8 (word 1 msg_id + word 2 msg_length + word 4 send_id + word 5 credit_request + word 6 tag) 4 true true true 0xc 0x8003
    ∷ []

-- the first row of a table with this type
unfoldable pub row_in : List TypeRow → ℕ → Option TypeRow
row_in [] k = None
row_in (r ∷ rs) k = pick (eqb r.kind k) (Some r) (row_in rs k)

unfoldable pub row_of : ℕ → Option TypeRow
row_of k = row_in rows k

-- which rows a reader admits: every one, or those that the engine serves (01, refusal 9: "type not in the table; in the engine, CTS too")
abbrev pub every_row : TypeRow → Bool
every_row r = true

abbrev pub served_row : TypeRow → Bool
served_row r = r.served

abbrev pub reader_rows : Bool → TypeRow → Bool
reader_rows all r = all || r.served

-- what is found among the rows that are admitted
unfoldable pub admit : (TypeRow → Bool) → Option TypeRow → Option TypeRow
admit which None = None
admit which (Some r) = pick (which r) (Some r) None
