-- The reader's tests in 01's own words, over numbers, bits and bytes. Proved in proofs/SentencesHold.antt, proofs/OrderHolds.antt and
-- proofs/BytesHold.antt.
use Rattle.std.specs.Prelude.{ℕ, ◌+◌, ◌-◌, ◌/◌, ◌%◌, ◌^◌, ◌<◌, eqb, length, get_or, drop, Bool, true, false, List, [], ◌∷◌, ◌↔◌, ◌≡◌, Some, None, Ok}
use Rattle.laws.specs.Choose.{pick}
use Rattle.laws.specs.Parts.{part}
pub use Rattle.protocol.specs.ByType.{Known, bit_of}
use Rattle.protocol.specs.ByType.{FlagRule, LengthRule, column, connid_header, fields_told, header_length, length_at, own_told, shape_told, tagged_told}
use Rattle.protocol.specs.Checks.{First, gives, refused}
use Rattle.protocol.specs.Reading.{read_of}
use Rattle.protocol.specs.Says.{read_says}
use Rattle.protocol.specs.Types.{admit, reader_rows, row_of}
use Rattle.protocol.specs.Values.{Values, bytes_at}
use Rattle.protocol.specs.declared.table.TypeRow.{TypeRow}
use Rattle.protocol.specs.declared.types.Packet.{Packet}
use Rattle.wire.specs.LittleEndian.{le_at}

-- ---- numbers

-- "Integers on the wire are little-endian": byte i of the n from `at` on is the number's i-th, the least first
unfoldable pub NumbersAreLittleEndian : Type 0
NumbersAreLittleEndian =
    (n : ℕ) (bs : List ℕ) (at : ℕ) → ((i : ℕ) → get_or bs i 0 < 256)
    → (le_at n bs at < 256 ^ n) × ((i : ℕ) → i < n → le_at n bs at / 256 ^ i % 256 ≡ get_or bs (at + i) 0)

-- ---- types

-- a row of the table is found for the types of 01's column "Type", and for no other
unfoldable pub TypesAreTheTables : Type 0
TypesAreTheTables = (all : Bool) (k : ℕ) → ((r : TypeRow) × (admit (reader_rows all) (row_of k) ≡ Some r)) ↔ Known all k

-- its row names the place of its length
unfoldable pub LengthsStandAsTold : Type 0
LengthsStandAsTold = (k : ℕ) (r : TypeRow) → row_of k ≡ Some r → r.length_at ≡ length_at k

-- ---- the order of the reader's refusals

pub data ReaderCheck : Type 0 where
  over_limit no_base wrong_version wrong_type wrong_flags header_cut wrong_lengths : ReaderCheck

-- "6, then 7 if under 4 bytes, 8, 9, 10, 7, 11"
abbrev pub reader_checks : List ReaderCheck
reader_checks = over_limit ∷ no_base ∷ wrong_version ∷ wrong_type ∷ wrong_flags ∷ header_cut ∷ wrong_lengths ∷ []

abbrev pub refused_as : ReaderCheck → ℕ
refused_as over_limit = 6
refused_as no_base = 7
refused_as wrong_version = 8
refused_as wrong_type = 9
refused_as wrong_flags = 10
refused_as header_cut = 7
refused_as wrong_lengths = 11

-- the bytes n of an optional header where its flag, bit i of f, is set
abbrev pub flagged : ℕ → ℕ → ℕ → ℕ
flagged f i n = pick (eqb (bit_of f i) 1) n 0

-- where raw address, CQ data and all headers of a packet of type k with the flags f end: "After an RTM's mandatory header come, where flagged,
-- raw address (size 4, then size bytes), CQ data 8, connid 4, in that order"; "CTSDATA .. with CONNID_HDR also connid 4, padding 4"
abbrev pub raw_end : ℕ → ℕ → List ℕ → ℕ
raw_end k f bs = header_length k + flagged f 0 (4 + le_at 4 bs (header_length k))

abbrev pub cq_end : ℕ → ℕ → List ℕ → ℕ
cq_end k f bs = raw_end k f bs + flagged f 1 8

abbrev pub headers_end : ℕ → ℕ → List ℕ → ℕ
headers_end k f bs = cq_end k f bs + flagged f 15 (connid_header k)

-- a packet's type and flags
abbrev pub type_in : List ℕ → ℕ
type_in bs = get_or bs 0 0

abbrev pub flags_in : List ℕ → ℕ
flags_in bs = le_at 2 bs 2

-- the bytes before its data
abbrev pub head_in : List ℕ → ℕ
head_in bs = headers_end (type_in bs) (flags_in bs) bs

-- the check fails: byte 0 is the type, byte 1 the version, bytes 2 and 3 the flags
abbrev pub ReadFails : Bool → ℕ → List ℕ → ReaderCheck → Type 0
ReadFails all limit bs over_limit = limit < length bs
ReadFails all limit bs no_base = length bs < 4
ReadFails all limit bs wrong_version = get_or bs 1 0 ≡ 4 → ⊥
ReadFails all limit bs wrong_type = Known all (type_in bs) → ⊥
ReadFails all limit bs wrong_flags = FlagRule (type_in bs) (flags_in bs) → ⊥
ReadFails all limit bs header_cut = length bs < head_in bs
ReadFails all limit bs wrong_lengths = LengthRule (type_in bs) (fields_told bs (type_in bs)) (length bs - head_in bs) → ⊥

-- the check at place i of the list
abbrev pub check_at : ℕ → ReaderCheck
check_at i = get_or reader_checks i wrong_lengths

-- "Given exactly when (no earlier check fails)": the check at place i fails, and none before it
abbrev pub FirstToFail : Bool → ℕ → List ℕ → ℕ → Type 0
FirstToFail all limit bs = First (ReadFails all limit bs) check_at

unfoldable pub RefusedByFirstToFail : Type 0
RefusedByFirstToFail =
    (all : Bool) (limit : ℕ) (bs : List ℕ) (n : ℕ)
    → (read_says bs (read_of (reader_rows all) limit bs) ≡ refused n) ↔ ((i : ℕ) × (i < 7) × (refused_as (check_at i) ≡ n) × FirstToFail all limit bs i)

unfoldable pub ReadIfNoneFails : Type 0
ReadIfNoneFails =
    (all : Bool) (limit : ℕ) (bs : List ℕ)
    → ((v : Values) × (read_says bs (read_of (reader_rows all) limit bs) ≡ gives v)) ↔ ((c : ReaderCheck) → ReadFails all limit bs c → ⊥)

-- ---- what a packet that is read tells, by its bytes

-- "CTS .. multiuse 4", "a flagged multiuse is the connid"; "CTSDATA .. with CONNID_HDR also connid 4" behind its 24 bytes; RTMs: behind CQ data
abbrev pub connid_place : ℕ → ℕ → List ℕ → ℕ
connid_place k f bs = column (cq_end k f bs) ((3, 4) ∷ (4, 24) ∷ []) k

pub record PacketTold (bs : List ℕ) (k f : ℕ) (p : Packet) : Type 0 where
  pub kind : p.header.kind ≡ k
  pub shape : p.shape ≡ shape_told k
  pub tagged : p.tagged ≡ tagged_told k
  pub fields : p.header.fields ≡ fields_told bs k
  -- "raw address (size 4, then size bytes)": so many bytes, all of them there
  pub raw_address : bit_of f 0 ≡ 1
      → (p.header.raw_address ≡ true)
      × (bytes_at bs p.raw_address ≡ part bs (header_length k + 4) (le_at 4 bs (header_length k)))
      × (length (bytes_at bs p.raw_address) ≡ le_at 4 bs (header_length k))
  pub no_raw_address : bit_of f 0 ≡ 0 → (p.header.raw_address ≡ false) × (bytes_at bs p.raw_address ≡ [])
  pub cq_data : bit_of f 1 ≡ 1 → p.header.cq_data ≡ Some (le_at 8 bs (raw_end k f bs))
  pub no_cq_data : bit_of f 1 ≡ 0 → p.header.cq_data ≡ None
  pub connid : bit_of f 15 ≡ 1 → p.header.connid ≡ Some (le_at 4 bs (connid_place k f bs))
  pub no_connid : bit_of f 15 ≡ 0 → p.header.connid ≡ None
  -- "the rest is data"
  pub rest : bytes_at bs p.«data» ≡ drop (headers_end k f bs) bs

unfoldable pub ReadTellsItsBytes : Type 0
ReadTellsItsBytes = (which : TypeRow → Bool) (limit : ℕ) (bs : List ℕ) (p : Packet) → read_of which limit bs ≡ Ok p → PacketTold bs (type_in bs) (flags_in bs) p

-- "A packet's values are its type, that type's own fields (padding and multiuse are none; a flagged multiuse is the connid), the optional headers
-- present and the data", each by its bytes
abbrev pub values_told : ℕ → ℕ → List ℕ → Values
values_told k f bs =
    record {
      kind = k;
      own = own_told bs k;
      raw_address = pick (eqb (bit_of f 0) 1) (Some (part bs (header_length k + 4) (le_at 4 bs (header_length k)))) None;
      cq_data = pick (eqb (bit_of f 1) 1) (Some (le_at 8 bs (raw_end k f bs))) None;
      connid = pick (eqb (bit_of f 15) 1) (Some (le_at 4 bs (connid_place k f bs))) None;
      body = drop (headers_end k f bs) bs;
    }

unfoldable pub ReadSaysItsBytes : Type 0
ReadSaysItsBytes =
    (which : TypeRow → Bool) (limit : ℕ) (bs : List ℕ) (v : Values) → read_says bs (read_of which limit bs) ≡ gives v → v ≡ values_told (type_in bs) (flags_in bs) bs
