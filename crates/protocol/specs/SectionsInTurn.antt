-- The sections of a packet one after the other, as reader and writer go along: each is found with what ends before it.
use Rattle.std.specs.Prelude.{ℕ, ◌+◌, List, ltb, length, Option, Some, None}
use Rattle.laws.specs.Choose.{pick}
use Rattle.wire.specs.LittleEndian.{le_at}
use Rattle.protocol.specs.declared.table.TypeRow.{TypeRow}
use Rattle.protocol.specs.declared.types.Span.{Span}
use Rattle.protocol.specs.declared.sections.Sections.{Sections}
use Rattle.protocol.specs.Arrays.{array_length, has_array}
use Rattle.protocol.specs.FieldNumbers.{count_in}
use Rattle.protocol.specs.Optional.{connid, cq_data, flagged, raw_address}
use Rattle.protocol.specs.Sections.{connid_at, raw_span}

-- the array follows the mandatory header
unfoldable pub after_array : TypeRow → List ℕ → ℕ
after_array r bs = r.header + pick (has_array r) (array_length r (count_in r bs)) 0

-- the bytes that the raw address takes, with its size, which follows the array
abbrev pub raw_length : TypeRow → ℕ → List ℕ → ℕ
raw_length r f bs = pick (flagged r f raw_address) (4 + le_at 4 bs (after_array r bs)) 0

unfoldable pub after_raw : TypeRow → ℕ → List ℕ → ℕ
after_raw r f bs = after_array r bs + raw_length r f bs

unfoldable pub cq_data_length : TypeRow → ℕ → ℕ
cq_data_length r f = pick (flagged r f cq_data) 8 0

unfoldable pub connid_length : TypeRow → ℕ → ℕ
connid_length r f = pick (flagged r f connid) r.connid 0

-- the sections of a packet whose raw address lies at `raw` and ends before `at`
abbrev pub sections_at : TypeRow → ℕ → Span → ℕ → Sections
sections_at r f raw at =
    record {
      raw = raw;
      cq_at = at;
      connid_at = connid_at r (at + cq_data_length r f);
      data_at = at + cq_data_length r f + connid_length r f;
    }

-- the same of a packet of n bytes
unfoldable pub sections_from : TypeRow → ℕ → Span → ℕ → ℕ → Option Sections
sections_from r f raw at n = pick (ltb n (at + cq_data_length r f + connid_length r f)) None (Some (sections_at r f raw at))

-- the same behind an array that ends before `at`
unfoldable pub sections_behind : TypeRow → ℕ → List ℕ → ℕ → Option Sections
sections_behind r f bs at =
    sections_from r f (raw_span (flagged r f raw_address) bs at) (at + pick (flagged r f raw_address) (4 + le_at 4 bs at) 0) (length bs)

-- the headers without the raw address
unfoldable pub head_length : TypeRow → ℕ → ℕ
head_length r f = r.header + cq_data_length r f + connid_length r f
