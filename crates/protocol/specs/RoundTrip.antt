-- Reader and writer undo each other (01: "Reading a written packet gives the values written. Writing the values read gives the same
-- bytes, except that padding, and multiuse without its flag, become zero"). Proved in proofs/RoundTrips.antt, proofs/RowTrips.antt and
-- proofs/HeaderBack.antt.
use Rattle.std.specs.Prelude.{ℕ, ◌^◌, ◌<◌, ◌≤◌, eqb, length, get_or, take, drop, replicate, Bool, true, List, [], ◌∷◌, map, ◌≡◌, Some, None, Ok, unwrap_or}
use Rattle.laws.specs.Choose.{pick}
use Rattle.laws.specs.Parts.{store_at}
use Rattle.protocol.specs.ByType.{bit_of, column}
use Rattle.protocol.specs.Checks.{gives}
use Rattle.protocol.specs.Sentences.{flags_in, type_in}
use Rattle.protocol.specs.FieldNumbers.{number_in}
use Rattle.protocol.specs.Layout.{Field, own_fields, place_of, width}
use Rattle.protocol.specs.Options.{connid_or_zero}
use Rattle.protocol.specs.Reading.{read_flags, read_lengths, read_of}
use Rattle.protocol.specs.Rules.{Sound}
use Rattle.protocol.specs.Says.{read_says, written_says}
use Rattle.protocol.specs.Types.{every_row, row_of}
use Rattle.protocol.specs.Values.{bytes_at, values}
use Rattle.protocol.specs.Writing.{packet_bytes, write_as, write_of}
use Rattle.protocol.specs.declared.table.TypeRow.{TypeRow}
use Rattle.protocol.specs.declared.types.Header.{Header}
use Rattle.protocol.specs.declared.types.Packet.{Packet}
use Rattle.protocol.specs.Sections.{array_span}
use Rattle.protocol.specs.Limits.{packet_limit}

-- each number of a header fits its field, as the machine's types have it
pub record Numbers (h : Header) : Type 0 where
  pub fields : (f : Field) → number_in h.fields f < 256 ^ width f
  pub cq_data : unwrap_or h.cq_data 0 < 256 ^ 8
  pub connid : connid_or_zero h.connid < 256 ^ 4

-- "Reading a written packet gives the values written": for every value the writer takes, at every limit that allows the packet
abbrev pub ReadsWhatWasWritten : Type 0
ReadsWhatWasWritten =
    (h : Header) (raw body out : List ℕ) (limit n : ℕ)
    → Numbers h
    → n ≤ limit
    → written_says (write_of h raw body out).answer ≡ gives n
    → read_says (take n (write_of h raw body out).out) (read_of every_row limit (take n (write_of h raw body out).out)) ≡ gives (values h raw body)

-- a header has zero in each field that the type r has not
abbrev pub ZeroOutside : TypeRow → Header → Type 0
ZeroOutside r h = (f : Field) → place_of r f ≡ 0 → number_in h.fields f ≡ 0

-- a header with zeros outside its layout reads back as itself, with the bytes written, by every reader that admits its type
abbrev pub HeaderReadsBack : Type 0
HeaderReadsBack =
    (which : TypeRow → Bool) (r : TypeRow) (h : Header) (raw body out : List ℕ) (limit n : ℕ)
    → row_of h.kind ≡ Some r
    → which r ≡ true
    → Numbers h
    → ZeroOutside r h
    → n ≤ limit
    → written_says (write_of h raw body out).answer ≡ gives n
    → let bs = take n (write_of h raw body out).out in
    (p : Packet)
    × (read_of which limit bs ≡ Ok p)
    × (p.header ≡ h)
    × (h.raw_address ≡ true → bytes_at bs p.raw_address ≡ raw)
    × (bytes_at bs p.«data» ≡ body)

-- the bytes bs of a packet of type k with the flags f, with zero for those that no value is read from: with 0x8000 CTSDATA's padding, bytes 28 to
-- 31, without it a CTS's multiuse, bytes 4 to 7
abbrev pub blanked_as : ℕ → ℕ → List ℕ → List ℕ
blanked_as k f bs =
    pick (eqb (bit_of f 15) 1) (column bs ((4, store_at bs 28 (replicate 4 0)) ∷ []) k) (column bs ((3, store_at bs 4 (replicate 4 0)) ∷ []) k)

abbrev pub blanked : List ℕ → List ℕ
blanked bs = blanked_as (type_in bs) (flags_in bs) bs

-- "Writing the values read gives the same bytes, except that padding, and multiuse without its flag, become zero": for every header with these
-- values, of a packet that either reader takes
abbrev pub WritesWhatWasRead : Type 0
WritesWhatWasRead =
    (which : TypeRow → Bool) (limit : ℕ) (bs : List ℕ) (h : Header) (raw body out : List ℕ)
    → ((i : ℕ) → get_or bs i 0 < 256)
    → length bs ≤ packet_limit
    → length bs ≤ length out
    → read_says bs (read_of which limit bs) ≡ gives (values h raw body)
    → (written_says (write_of h raw body out).answer ≡ gives (length bs)) × ((write_of h raw body out).out ≡ store_at out 0 (blanked bs))

-- the length answered is the packet's; the packet stands at the buffer's start, and the bytes past it stay
abbrev pub LengthIsPackets : Type 0
LengthIsPackets =
    (h : Header) (raw body out : List ℕ) (n : ℕ) (r : TypeRow)
    → row_of h.kind ≡ Some r
    → written_says (write_of h raw body out).answer ≡ gives n
    → (n ≡ length (packet_bytes r h [] raw body))
    × (take n (write_of h raw body out).out ≡ packet_bytes r h [] raw body)
    × (drop n (write_of h raw body out).out ≡ drop n out)

-- ---- the same of every row that keeps the table's rule, with a counted array too

-- a packet of the row r that is read from bs tells what was written
pub record RowTells (r : TypeRow) (h : Header) (arr raw body bs : List ℕ) (p : Packet) : Type 0 where
  pub own : map (number_in p.header.fields) (own_fields r) ≡ map (number_in h.fields) (own_fields r)
  pub array : bytes_at bs (array_span r bs r.header) ≡ arr
  pub raw_address : pick p.header.raw_address (Some (bytes_at bs p.raw_address)) None ≡ pick h.raw_address (Some raw) None
  pub cq_data : p.header.cq_data ≡ h.cq_data
  pub connid : p.header.connid ≡ h.connid
  pub rest : bytes_at bs p.«data» ≡ body

-- a packet that is written as the row says is read as it says, up to the rule on lengths, and tells what was written
abbrev pub RowReadsWhatWasWritten : Type 0
RowReadsWhatWasWritten =
    (r : TypeRow) (h : Header) (arr raw body out : List ℕ) (n : ℕ)
    → Sound r
    → Numbers h
    → written_says (write_as r h arr raw body out).answer ≡ gives n
    → let bs = take n (write_as r h arr raw body out).out in
    (p : Packet) × (read_flags r bs ≡ read_lengths r p) × RowTells r h arr raw body bs p

-- the length answered is the packet's; the packet stands at the buffer's start, and the bytes past it stay
abbrev pub RowLengthIsPackets : Type 0
RowLengthIsPackets =
    (r : TypeRow) (h : Header) (arr raw body out : List ℕ) (n : ℕ)
    → written_says (write_as r h arr raw body out).answer ≡ gives n
    → (n ≡ length (packet_bytes r h arr raw body))
    × (take n (write_as r h arr raw body out).out ≡ packet_bytes r h arr raw body)
    × (drop n (write_as r h arr raw body out).out ≡ drop n out)
