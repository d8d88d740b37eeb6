-- The rule of the table of packet types, and what the inner functions of reader and writer ask of their callers.
use Rattle.std.specs.Prelude.{ℕ, ◌+◌, ◌^◌, ◌≤◌, ◌<◌, ◌≡◌, true, ◌⊎◌, eqb}
use Rattle.std.specs.Int.Bits.{bit_and}
use Rattle.protocol.specs.declared.table.TypeRow.{TypeRow}
use Rattle.protocol.specs.declared.sections.Sections.{Sections}
use Rattle.protocol.specs.Optional.{cq_data, flag_sum, flagged, flags_taken, options}
use Rattle.protocol.specs.Optional as Optional
use Rattle.protocol.specs.Layout.{count, distinct, Field, layout, length_place, multiuse, place_in, place_of, recv_id, recv_length, seg_length, width, widths}

-- the widths at which a connid behind the other optional headers is written
abbrev pub NumberWidth : ℕ → Type 0
NumberWidth n = (n ≡ 0) ⊎ ((n ≡ 4) ⊎ (n ≡ 8))

-- a connid stands behind the other optional headers, in so many bytes, or in multiuse, and not in both
abbrev pub ConnidPlace : ℕ → ℕ → Type 0
ConnidPlace place connid = ((place ≡ 0) × (4 ≤ connid)) ⊎ ((place ≡ 0 → ⊥) × (connid ≡ 0))

-- what holds of every row of the table
pub record Sound (r : TypeRow) : Type 0 where
  -- the mandatory header is the base header and the fields behind it without a gap, each once and where the row says
  pub header : r.header ≡ 4 + widths (layout r)
  pub placed : (f : Field) → place_in (layout r) 4 f ≡ place_of r f
  pub once : distinct (layout r) ≡ true
  -- the length is one of its fields
  pub length_at : r.length_at ≡ length_place r
  -- a request names no message by the receiver's number, and no segment or grant
  pub request_has : r.request ≡ true → (place_of r recv_id ≡ 0) × (place_of r seg_length ≡ 0) × (place_of r recv_length ≡ 0)
  -- even a field that the type has not, at 0, would lie inside the header
  pub inside : (f : Field) → place_of r f + width f ≤ r.header
  -- a count is a field of the types that have an array, and of no other
  pub counted : eqb (place_of r count) 0 ≡ eqb r.unit 0
  -- sums of lengths do not overflow
  pub narrow : r.unit ≤ 24
  pub few : r.less ≤ 24
  pub short : r.header ≤ 64
  pub connid : NumberWidth r.connid
  pub connid_place : ConnidPlace (place_of r multiuse) r.connid
  -- the flags that it must have and those that it may have are apart, and the latter are those of its optional headers
  pub apart : bit_and r.must r.may ≡ 0
  pub may : r.may ≡ flags_taken r
  -- the flags of all optional headers can be added in 16 bits
  pub small : r.must + flag_sum options < 2 ^ 16

-- the sections s of a packet of n bytes lie inside it
pub record SectionsInside (r : TypeRow) (f : ℕ) (s : Sections) (n : ℕ) : Type 0 where
  pub header : r.header ≤ n
  pub cq : flagged r f cq_data ≡ true → s.cq_at + 8 ≤ n
  pub connid : flagged r f Optional.connid ≡ true → s.connid_at + 4 ≤ n
  pub body : s.data_at ≤ n
