-- 01's table of packet types by type number, written out apart from `Types.rows`: header lengths, where the fields stand, and what the
-- rules on flags and lengths ask of each type. The reader's and the writer's checks in words are over these.
use Rattle.std.specs.Prelude.{ℕ, ◌+◌, ◌/◌, ◌%◌, ◌^◌, ◌≤◌, eqb, Bool, true, false, List, [], ◌∷◌, ◌⊎◌, ◌↔◌, ◌≡◌}
use Rattle.laws.specs.Choose.{pick}
use Rattle.protocol.specs.declared.table.Shape.{Shape}
use Rattle.protocol.specs.declared.table.Shape.TheVariants.{Cts, CtsData, Eager, Medium, LongCts}
use Rattle.protocol.specs.declared.types.Fields.{Fields}
use Rattle.wire.specs.LittleEndian.{le_at}

-- bit k of a number
abbrev pub bit_of : ℕ → ℕ → ℕ
bit_of x k = x / 2 ^ k % 2

-- ---- types

-- "64/65 EAGER MSG/TAG RTM", "66/67 MEDIUM MSG/TAG RTM", "68/69 LONGCTS MSG/TAG RTM"
abbrev pub Rtm : ℕ → Type 0
Rtm k = (64 ≤ k) × (k ≤ 69)

-- of these the second of each pair
abbrev pub Tagged : ℕ → Type 0
Tagged k = (k ≡ 65) ⊎ ((k ≡ 67) ⊎ (k ≡ 69))

-- "CTS", "CTSDATA"
abbrev pub CtsOrData : ℕ → Type 0
CtsOrData k = (k ≡ 3) ⊎ (k ≡ 4)

-- the table's types (column "Type": 3, 4, 64 to 69); refusal 9: "type not in the table; in the engine, CTS too"
abbrev pub Known : Bool → ℕ → Type 0
Known all k = ((k ≡ 3) × (all ≡ true)) ⊎ ((k ≡ 4) ⊎ Rtm k)

-- ---- headers

-- what a column of the table has for type k; `other` for a type that is not in it
abbrev pub column : {A : Type 0} → A → List (ℕ × A) → ℕ → A
column other [] k = other
column other (e ∷ es) k = pick (eqb e.0 k) e.1 (column other es k)

-- column "Name": "CTS", "CTSDATA", "EAGER MSG/TAG RTM", "MEDIUM MSG/TAG RTM", "LONGCTS MSG/TAG RTM"
abbrev pub shape_told : ℕ → Shape
shape_told =
    column Cts ((3, Cts) ∷ (4, CtsData) ∷ (64, Eager) ∷ (65, Eager) ∷ (66, Medium) ∷ (67, Medium) ∷ (68, LongCts) ∷ (69, LongCts) ∷ [])

-- tagged are exactly 65, 67 and 69
abbrev pub tagged_told : ℕ → Bool
tagged_told = column false ((65, true) ∷ (67, true) ∷ (69, true) ∷ [])

-- column "Header"
abbrev pub header_length : ℕ → ℕ
header_length = column 0 ((3, 24) ∷ (4, 24) ∷ (64, 8) ∷ (65, 16) ∷ (66, 24) ∷ (67, 32) ∷ (68, 24) ∷ (69, 32) ∷ [])

-- the place of a type's length: 3: recv_length at 16; 4: seg_length at 8; 66 to 69: msg_length at 8; 64, 65: none, "its length is the message
-- length" of the data
abbrev pub length_at : ℕ → ℕ
length_at = column 0 ((3, 16) ∷ (4, 8) ∷ (66, 8) ∷ (67, 8) ∷ (68, 8) ∷ (69, 8) ∷ [])

-- the bytes that CONNID_HDR adds behind the other headers. CTS: none, "a flagged multiuse is the connid"; CTSDATA: "connid 4, padding 4"; RTMs:
-- "connid 4"
abbrev pub connid_header : ℕ → ℕ
connid_header = column 0 ((3, 0) ∷ (4, 8) ∷ (64, 4) ∷ (65, 4) ∷ (66, 4) ∷ (67, 4) ∷ (68, 4) ∷ (69, 4) ∷ [])

-- ---- fields

abbrev pub fields_of : (msg_id recv_id send_id msg_length seg_length recv_length seg_offset credit_request tag : ℕ) → Fields
fields_of msg_id recv_id send_id msg_length seg_length recv_length seg_offset credit_request tag =
    record {
      msg_id = msg_id;
      recv_id = recv_id;
      send_id = send_id;
      msg_length = msg_length;
      seg_length = seg_length;
      recv_length = recv_length;
      seg_offset = seg_offset;
      credit_request = credit_request;
      tag = tag;
    }

-- the numbers of the fields in the bytes bs of a packet of type k (column "Fields after type 1, version 1, flags 2"), in the order of
-- `fields_of`; 0 for a field that the type has not:
-- 3: "multiuse 4, send_id 4, recv_id 4, recv_length 8"; 4: "recv_id 4, seg_length 8, seg_offset 8"; 64, 65: "msg_id 4; tag 8 for 65"; 66, 67:
-- "msg_id 4, msg_length 8, seg_offset 8; tag 8 for 67"; 68, 69: "msg_id 4, msg_length 8, send_id 4, credit_request 4; tag 8 for 69"
abbrev pub fields_told : List ℕ → ℕ → Fields
fields_told bs =
    column (fields_of 0 0 0 0 0 0 0 0 0)
    ((3, fields_of 0 (le_at 4 bs 12) (le_at 4 bs 8) 0 0 (le_at 8 bs 16) 0 0 0)
    ∷ (4, fields_of 0 (le_at 4 bs 4) 0 0 (le_at 8 bs 8) 0 (le_at 8 bs 16) 0 0)
    ∷ (64, fields_of (le_at 4 bs 4) 0 0 0 0 0 0 0 0)
    ∷ (65, fields_of (le_at 4 bs 4) 0 0 0 0 0 0 0 (le_at 8 bs 8))
    ∷ (66, fields_of (le_at 4 bs 4) 0 0 (le_at 8 bs 8) 0 0 (le_at 8 bs 16) 0 0)
    ∷ (67, fields_of (le_at 4 bs 4) 0 0 (le_at 8 bs 8) 0 0 (le_at 8 bs 16) 0 (le_at 8 bs 24))
    ∷ (68, fields_of (le_at 4 bs 4) 0 (le_at 4 bs 16) (le_at 8 bs 8) 0 0 0 (le_at 4 bs 20) 0)
    ∷ (69, fields_of (le_at 4 bs 4) 0 (le_at 4 bs 16) (le_at 8 bs 8) 0 0 0 (le_at 4 bs 20) (le_at 8 bs 24))
    ∷ [])

-- the same of the type's own fields alone, in the table's order
abbrev pub own_told : List ℕ → ℕ → List ℕ
own_told bs =
    column []
    ((3, le_at 4 bs 8 ∷ le_at 4 bs 12 ∷ le_at 8 bs 16 ∷ [])
    ∷ (4, le_at 4 bs 4 ∷ le_at 8 bs 8 ∷ le_at 8 bs 16 ∷ [])
    ∷ (64, le_at 4 bs 4 ∷ [])
    ∷ (65, le_at 4 bs 4 ∷ le_at 8 bs 8 ∷ [])
    ∷ (66, le_at 4 bs 4 ∷ le_at 8 bs 8 ∷ le_at 8 bs 16 ∷ [])
    ∷ (67, le_at 4 bs 4 ∷ le_at 8 bs 8 ∷ le_at 8 bs 16 ∷ le_at 8 bs 24 ∷ [])
    ∷ (68, le_at 4 bs 4 ∷ le_at 8 bs 8 ∷ le_at 4 bs 16 ∷ le_at 4 bs 20 ∷ [])
    ∷ (69, le_at 4 bs 4 ∷ le_at 8 bs 8 ∷ le_at 4 bs 16 ∷ le_at 4 bs 20 ∷ le_at 8 bs 24 ∷ [])
    ∷ [])

-- ---- flags

-- "RTM types must have 0x4, must have 0x8 exactly if tagged, may have 0x1, 0x2, 0x8000, and no other": bits 0, 1 and 15 are free
abbrev pub RtmFlags : ℕ → ℕ → Type 0
RtmFlags k f = (bit_of f 2 ≡ 1) × ((bit_of f 3 ≡ 1) ↔ Tagged k) × ((i : ℕ) → 4 ≤ i → (i ≡ 15 → ⊥) → bit_of f i ≡ 0)

-- "Types 3 and 4 may have 0x8000 only": bit 15 is free
abbrev pub CtsFlags : ℕ → Type 0
CtsFlags f = (i : ℕ) → (i ≡ 15 → ⊥) → bit_of f i ≡ 0

abbrev pub FlagRule : ℕ → ℕ → Type 0
FlagRule k f = (CtsOrData k → CtsFlags f) × (Rtm k → RtmFlags k f)

-- ---- lengths

-- a packet of type k with the fields v and n bytes of data
pub record LengthRule (k : ℕ) (v : Fields) (n : ℕ) : Type 0 where
  -- "CTS has no data and recv_length at least 1"
  pub cts : k ≡ 3 → (n ≡ 0) × (1 ≤ v.recv_length)
  -- "CTSDATA data equals seg_length, at least 1"
  pub ctsdata : k ≡ 4 → (n ≡ v.seg_length) × (1 ≤ n)
  -- "medium data at least 1 byte, offset + data ≤ msg_length as whole numbers"
  pub medium : (k ≡ 66) ⊎ (k ≡ 67) → (1 ≤ n) × (v.seg_offset + n ≤ v.msg_length)
  -- LONGCTS data "at most msg_length"; request 3: "Accept 0 bytes when msg_length is at least 1; a msg_length of 0 stays refusal 11"; "Eager data
  -- may be empty"
  pub long : (k ≡ 68) ⊎ (k ≡ 69) → (1 ≤ v.msg_length) × (n ≤ v.msg_length)
