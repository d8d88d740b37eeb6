-- Where a packet's counted array, its optional headers and its data lie, and whether the packet ends before its headers do.
use Rattle.std.specs.Prelude.{ℕ, ◌+◌, List, [], ◌∷◌, Bool, ltb, eqb, length, Option, Some, None}
use Rattle.laws.specs.Choose.{pick}
use Rattle.wire.specs.LittleEndian.{le_at}
use Rattle.protocol.specs.declared.table.TypeRow.{TypeRow}
use Rattle.protocol.specs.declared.types.Span.{Span}
use Rattle.protocol.specs.declared.sections.Sections.{Sections}
use Rattle.protocol.specs.Arrays.{array_length, has_array}
use Rattle.protocol.specs.FieldNumbers.{count_in}
use Rattle.protocol.specs.Layout.{multiuse, place_of}
use Rattle.protocol.specs.Optional.{Section, array, connid, cq_data, flagged, ordinal, raw_address, sections_of}

-- the bytes that a section takes, where an array has a and a raw address n
abbrev pub size_of : TypeRow → ℕ → ℕ → Section → ℕ
size_of r a n array = a
size_of r a n raw_address = 4 + n
size_of r a n cq_data = 8
size_of r a n connid = r.connid

-- where the sections ss end that begin at `at`, those that are there; an array has as many bytes as its count tells, and a raw address begins with
-- its size
abbrev pub end_of : TypeRow → ℕ → List ℕ → ℕ → List Section → ℕ
end_of r f bs at [] = at
end_of r f bs at (s ∷ ss) = end_of r f bs (at + pick (flagged r f s) (size_of r (array_length r (count_in r bs)) (le_at 4 bs at) s) 0) ss

-- those of some sections that come before s
abbrev pub sections_before : Section → List Section → List Section
sections_before s [] = []
sections_before s (t ∷ ts) = pick (ltb (ordinal t) (ordinal s)) (t ∷ sections_before s ts) (sections_before s ts)

-- a section begins where those before it end, the first behind the mandatory header; so would one that the type has not
unfoldable pub begin_of : TypeRow → ℕ → List ℕ → Section → ℕ
begin_of r f bs s = end_of r f bs r.header (sections_before s (sections_of r))

-- the data begin where the last ends
unfoldable pub data_at : TypeRow → ℕ → List ℕ → ℕ
data_at r f bs = end_of r f bs r.header (sections_of r)

abbrev pub span : ℕ → ℕ → Span
span at size = record { at = at; size = size }

-- the array begins at `at`; no type of the table has one, and a packet that is read does not tell it
unfoldable pub array_span : TypeRow → List ℕ → ℕ → Span
array_span r bs at = pick (has_array r) (span at (array_length r (count_in r bs))) (span 0 0)

-- the raw address at `at` follows its size
unfoldable pub raw_span : Bool → List ℕ → ℕ → Span
raw_span there bs at = pick there (span (at + 4) (le_at 4 bs at)) (span 0 0)

-- the connid stands in multiuse where the type has it, and is a section where not
unfoldable pub connid_at : TypeRow → ℕ → ℕ
connid_at r at = pick (eqb (place_of r multiuse) 0) at (place_of r multiuse)

unfoldable pub sections_in : TypeRow → ℕ → List ℕ → Sections
sections_in r f bs =
    record {
      raw = raw_span (flagged r f raw_address) bs (begin_of r f bs raw_address);
      cq_at = begin_of r f bs cq_data;
      connid_at = connid_at r (begin_of r f bs connid);
      data_at = data_at r f bs;
    }

-- "packet ends inside a header" if it does
unfoldable pub extent_of : TypeRow → ℕ → List ℕ → Option Sections
extent_of r f bs = pick (ltb (length bs) (data_at r f bs)) None (Some (sections_in r f bs))
