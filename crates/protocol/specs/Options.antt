-- The optional headers (01: "After an RTM's mandatory header come, where flagged, raw address (size 4, then size bytes), CQ data 8,
-- connid 4, in that order"; "CTSDATA: .. with CONNID_HDR also connid 4, padding 4"; "a flagged multiuse is the connid").
use Rattle.std.specs.Prelude.{ℕ, List, [], ◌∷◌, ◌++◌, Bool, length, Option, Some, None, unwrap_or}
use Rattle.laws.specs.Choose.{pick}
use Rattle.wire.specs.LittleEndian.{le_bytes, le_at}
use Rattle.protocol.specs.declared.table.TypeRow.{TypeRow}
use Rattle.protocol.specs.declared.types.Header.{Header}
use Rattle.protocol.specs.Optional.{Section, array, cq_data, connid, raw_address}

-- as bytes

unfoldable pub raw_address_bytes : Bool → List ℕ → List ℕ
raw_address_bytes there raw = pick there (le_bytes 4 (length raw) ++ raw) []

unfoldable pub cq_data_bytes : Option ℕ → List ℕ
cq_data_bytes None = []
cq_data_bytes (Some d) = le_bytes 8 d

-- the connid, with zeros for its padding
unfoldable pub connid_bytes : TypeRow → Option ℕ → List ℕ
connid_bytes r None = []
connid_bytes r (Some c) = le_bytes r.connid c

-- the multiuse field: the connid, or zero
unfoldable pub connid_or_zero : Option ℕ → ℕ
connid_or_zero q = unwrap_or q 0

-- of a section
abbrev pub section_bytes : TypeRow → Header → List ℕ → List ℕ → Section → List ℕ
section_bytes r h arr raw array = arr
section_bytes r h arr raw raw_address = raw_address_bytes h.raw_address raw
section_bytes r h arr raw cq_data = cq_data_bytes h.cq_data
section_bytes r h arr raw connid = connid_bytes r h.connid

-- of some sections, one behind the other
abbrev pub sections_bytes : TypeRow → Header → List ℕ → List ℕ → List Section → List ℕ
sections_bytes r h arr raw [] = []
sections_bytes r h arr raw (s ∷ ss) = section_bytes r h arr raw s ++ sections_bytes r h arr raw ss

-- as read at a place, where they are there

unfoldable pub cq_data_in : Bool → List ℕ → ℕ → Option ℕ
cq_data_in there bs at = pick there (Some (le_at 8 bs at)) None

unfoldable pub connid_in : Bool → List ℕ → ℕ → Option ℕ
connid_in there bs at = pick there (Some (le_at 4 bs at)) None
