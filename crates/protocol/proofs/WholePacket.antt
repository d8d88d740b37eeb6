-- The packet of a row of the table that is read from bytes, and where its sections begin.
use Prim.Native.Nat.{ℕ, ◌+◌}
use mathlib.Core.List.{List}
use Rattle.protocol.specs.Reading.{packet_in}
use Rattle.protocol.specs.Optional.{flagged, raw_address}
use Rattle.protocol.specs.Sections.{raw_span}
use Rattle.protocol.specs.SectionsInTurn.{after_array, after_raw, connid_length, cq_data_length, sections_at}
use Rattle.protocol.specs.declared.table.TypeRow.{TypeRow}
use Rattle.protocol.specs.declared.types.Packet.{Packet}

-- where a packet's connid stands if it is not in multiuse, and where its data begin
abbrev pub connid_from : TypeRow → ℕ → List ℕ → ℕ
connid_from r f bs = after_raw r f bs + cq_data_length r f

abbrev pub data_from : TypeRow → ℕ → List ℕ → ℕ
data_from r f bs = connid_from r f bs + connid_length r f

-- the packet of type r that is read from bs
abbrev pub packet_of : TypeRow → ℕ → List ℕ → Packet
packet_of r f bs =
    packet_in r f bs (sections_at r f (raw_span (flagged r f raw_address) bs (after_array r bs)) (after_raw r f bs))
