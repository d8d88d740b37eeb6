-- Reading a packet: the checks in 01's order (6, then 7 if under 4 bytes, 8, 9, 10, 7, 11), then the packet.
use Rattle.std.specs.Prelude.{ℕ, ◌-◌, List, Bool, ltb, eqb, length, get_or, Option, Some, None, Result, Ok, Err}
use Rattle.laws.specs.Choose.{pick}
use Rattle.wire.specs.LittleEndian.{le_at}
use Rattle.protocol.specs.declared.table.TypeRow.{TypeRow}
use Rattle.protocol.specs.declared.types.Header.{Header}
use Rattle.protocol.specs.declared.types.Packet.{Packet}
use Rattle.protocol.specs.declared.sections.Sections.{Sections}
use Rattle.protocol.specs.Types.{row_of, admit}
use Rattle.protocol.specs.Flags.{flags_fit}
use Rattle.protocol.specs.FieldNumbers.{fields_in}
use Rattle.protocol.specs.Layout.{layout}
use Rattle.protocol.specs.Lengths.{lengths_fit}
use Rattle.protocol.specs.Optional.{connid, cq_data, flagged, raw_address}
use Rattle.protocol.specs.Options.{cq_data_in, connid_in}
use Rattle.protocol.specs.Sections.{span, extent_of}
use Rattle.protocol.specs.Refusals.{above_limit, cut_short, bad_version, bad_type, bad_flags, bad_length}
use Rattle.protocol.specs.declared.refusals.Refusal.{Refusal}

-- the numbers of a packet of this type, with the flags f and the sections s
unfoldable pub header_in : TypeRow → ℕ → List ℕ → Sections → Header
header_in r f bs s =
    record {
      kind = r.kind;
      fields = fields_in (layout r) 4 bs;
      raw_address = flagged r f raw_address;
      cq_data = cq_data_in (flagged r f cq_data) bs s.cq_at;
      connid = connid_in (flagged r f connid) bs s.connid_at;
    }

unfoldable pub packet_in : TypeRow → ℕ → List ℕ → Sections → Packet
packet_in r f bs s =
    record {
      header = header_in r f bs s;
      shape = r.shape;
      tagged = r.tagged;
      raw_address = s.raw;
      «data» = span s.data_at (length bs - s.data_at);
    }

-- refusal 11
unfoldable pub read_lengths : TypeRow → Packet → Result Packet Refusal
read_lengths r p = pick (lengths_fit r.shape p.header.fields p.«data».size) (Ok p) (Err bad_length)

-- refusal 7
unfoldable pub read_sections : TypeRow → ℕ → List ℕ → Option Sections → Result Packet Refusal
read_sections r f bs None = Err cut_short
read_sections r f bs (Some s) = read_lengths r (packet_in r f bs s)

-- refusal 10
unfoldable pub read_flags : TypeRow → List ℕ → Result Packet Refusal
read_flags r bs = pick (flags_fit r (le_at 2 bs 2)) (read_sections r (le_at 2 bs 2) bs (extent_of r (le_at 2 bs 2) bs)) (Err bad_flags)

-- refusal 9
unfoldable pub read_typed : Option TypeRow → List ℕ → Result Packet Refusal
read_typed None bs = Err bad_type
read_typed (Some r) bs = read_flags r bs

-- refusals 6, 7 and 8, of the types whose rows are admitted
unfoldable pub read_of : (TypeRow → Bool) → ℕ → List ℕ → Result Packet Refusal
read_of which limit bs =
    pick (ltb limit (length bs)) (Err above_limit)
    (pick (ltb (length bs) 4) (Err cut_short)
    (pick (eqb (get_or bs 1 0) 4) (read_typed (admit which (row_of (get_or bs 0 0))) bs) (Err bad_version)))
