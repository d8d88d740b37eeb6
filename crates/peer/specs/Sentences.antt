-- The tests that engine and plain receiver share, in 01's own words, over numbers, bits and bytes.
-- Proved in proofs/Sentences/SentencesHold.antt, proofs/Sentences/OffsetsHold.antt and proofs/Sentences/FieldsHold.antt.
use Rattle.std.specs.Prelude.{◌≡◌, ℕ, ◌+◌, ◌%◌, ◌^◌, ◌<◌, ◌≤◌, Bool, true, false, ◌≢◌, ◌⊎◌, ◌↔◌, List, [], ◌∷◌, length, get_or, slice_index, slice_index_or, Some, None, Ok}
use mathlib.Core.List.{Memᴰ}
use Rattle.bitmap.specs.Offsets.{count_of, first_not, some_of}
use Rattle.protocol.specs.ByType.{tagged_told}
use Rattle.protocol.specs.Sentences.{bit_of}
use Rattle.protocol.specs.Reading.{read_of}
use Rattle.protocol.specs.declared.table.Shape.{Shape}
use Rattle.protocol.specs.declared.types.Packet.{Packet}
use Rattle.protocol.specs.Types.{served_row}
use Rattle.peer.specs.Coverage.{Segment, all_of, covers}
use Rattle.peer.specs.Incomings.{incoming_of, is_eager, is_long, is_medium, is_rtm}
use Rattle.peer.specs.Matching.{ahead, fits, same_message}
use Rattle.peer.specs.PacketBytes.{type_number, type_of, type_said}
use Rattle.peer.specs.Plain.{Entry, Role, first_posted, idle, open_in, receiving, slot_entry, waiting}
use Rattle.peer.specs.State.{overlap, slot_count}
use Rattle.peer.specs.declared.types.Inbound.{Inbound}
use Rattle.peer.specs.declared.types.Incoming.{Incoming}
use Rattle.peer.specs.declared.types.Message.{Message}
use Rattle.peer.specs.declared.types.Receive.{Receive}
use Rattle.wire.specs.LittleEndian.{le_at}

-- ---- slots (18, 20)

-- "eight free slots", "slot not below 8"
unfoldable pub SlotsAreEight : Type 0
SlotsAreEight = slot_count ≡ 8

-- ---- ranges (19, 2)

-- byte x of the area lies in the receive's range
abbrev pub HasByte : Receive → ℕ → Type 0
HasByte r x = (r.start ≤ x) × (x < r.start + r.capacity)

-- "post overlaps a used range of this peer", "two overlapping used ranges": some byte lies in both
unfoldable pub OverlapIsASharedByte : Type 0
OverlapIsASharedByte = (r s : Receive) → (overlap r s ≡ true) ↔ ((x : ℕ) × HasByte r x × HasByte s x)

-- "empty ranges overlap nothing"
unfoldable pub EmptyOverlapsNothing : Type 0
EmptyOverlapsNothing = (r s : Receive) → r.capacity ≡ 0 → (overlap r s ≡ false) × (overlap s r ≡ false)

-- ---- types

-- "64/65 EAGER MSG/TAG RTM"
unfoldable pub EagerIs64And65 : Type 0
EagerIs64And65 = (s : Shape) (t : Bool) → (is_eager s ≡ true) ↔ ((type_number s t ≡ 64) ⊎ (type_number s t ≡ 65))

-- "66/67 MEDIUM MSG/TAG RTM"
unfoldable pub MediumIs66And67 : Type 0
MediumIs66And67 = (s : Shape) (t : Bool) → (is_medium s ≡ true) ↔ ((type_number s t ≡ 66) ⊎ (type_number s t ≡ 67))

-- "68/69 LONGCTS MSG/TAG RTM"
unfoldable pub LongIs68And69 : Type 0
LongIs68And69 = (s : Shape) (t : Bool) → (is_long s ≡ true) ↔ ((type_number s t ≡ 68) ⊎ (type_number s t ≡ 69))

-- RTMs are those from 64 to 69
unfoldable pub RtmIs64To69 : Type 0
RtmIs64To69 = (s : Shape) (t : Bool) → (is_rtm s ≡ true) ↔ ((64 ≤ type_number s t) × (type_number s t ≤ 69))

-- ---- matching

-- "A receive fits an RTM of its kind": one without a tag
unfoldable pub PlainFitsPlain : Type 0
PlainFitsPlain = (h : Incoming) (r : Receive) → h.tagged ≡ false → (fits h r ≡ true) ↔ (r.tagged ≡ false)

-- "a tagged one if every tag bit outside ignore is equal"
unfoldable pub TaggedFitsOutsideIgnore : Type 0
TaggedFitsOutsideIgnore =
    (h : Incoming) (r : Receive) → h.tagged ≡ true
    → (fits h r ≡ true) ↔ ((r.tagged ≡ true) × ((k : ℕ) → bit_of r.ignore k ≡ 0 → bit_of h.tag k ≡ bit_of r.tag k))

-- "d = (id − next) mod 2^32": the one number below 2^32 that leads from next to id
unfoldable pub AheadIsTheDistance : Type 0
AheadIsTheDistance =
    (id next : ℕ) → id < 2 ^ 32 → next < 2 ^ 32
    → (ahead id next < 2 ^ 32)
    × ((next + ahead id next) % 2 ^ 32 ≡ id)
    × ((d : ℕ) → d < 2 ^ 32 → (next + d) % 2 ^ 32 ≡ id → d ≡ ahead id next)

-- 14: not "type, length or tag differs, or the type isn't medium"
unfoldable pub SameMessageIsAllEqual : Type 0
SameMessageIsAllEqual =
    (m : Message) (h : Incoming)
    → (same_message m h ≡ true)
    ↔ (((type_said h ≡ 66) ⊎ (type_said h ≡ 67)) × (type_said h ≡ type_of m) × (h.length ≡ m.length) × (h.tag ≡ m.tag))

-- 14: "type, length or tag differs, or the type isn't medium"
unfoldable pub OtherMessageDiffers : Type 0
OtherMessageDiffers =
    (m : Message) (h : Incoming)
    → (same_message m h ≡ false)
    ↔ ((type_said h ≢ type_of m) ⊎ ((h.length ≢ m.length) ⊎ ((h.tag ≢ m.tag) ⊎ ((type_said h ≢ 66) × (type_said h ≢ 67)))))

-- ---- the open message under an id

-- the role at place i receives a message with this id
abbrev pub OpenUnder : List Role → ℕ → ℕ → Inbound → Type 0
OpenUnder us id i o = (slice_index_or us i idle ≡ receiving o) × (o.message.id ≡ id)

-- "An RTM whose id is open belongs to that message": what is found is open under the id, at the lowest such place
unfoldable pub FoundIsTheLowestOpen : Type 0
FoundIsTheLowestOpen =
    (us : List Role) (id i : ℕ) (o : Inbound)
    → (open_in id 0 us ≡ Some (i, o)) ↔ (OpenUnder us id i o × ((j : ℕ) (m : Inbound) → j < i → OpenUnder us id j m → ⊥))

-- 15, 12, 13: "if not open"
unfoldable pub NothingFoundIsNoneOpen : Type 0
NothingFoundIsNoneOpen =
    (us : List Role) (id : ℕ) → (open_in id 0 us ≡ None) ↔ ((j : ℕ) (m : Inbound) → OpenUnder us id j m → ⊥)

-- 13: "no posted receive of this peer fits"
unfoldable pub UnfitIsNoneWaiting : Type 0
UnfitIsNoneWaiting =
    (h : Incoming) (es : List Entry)
    → (first_posted h 0 None es ≡ None) ↔ ((j : ℕ) (r : Receive) → (slot_entry es j).role ≡ waiting r → fits h r ≢ true)

-- ---- offsets

-- "it covers the bytes of its data from its offset on": some segment does
unfoldable pub CoversIsSomeSegment : Type 0
CoversIsSomeSegment =
    (gs : List Segment) (o : ℕ)
    → (covers gs o ≡ true) ↔ ((g : Segment) × Memᴰ g gs × (g.offset ≤ o) × (o < g.offset + length g.bytes))

-- 16: "segment shares a byte with one already accepted": some offset from `at` on, of n, has f
unfoldable pub SomeOfIsSomeOffset : Type 0
SomeOfIsSomeOffset =
    (f : ℕ → Bool) (at n : ℕ) → (some_of f at n ≡ true) ↔ ((o : ℕ) × (at ≤ o) × (o < at + n) × (f o ≡ true))

-- done where "accepted segments have covered every byte": each offset from `at` on, of n, has f
unfoldable pub AllOfIsEveryOffset : Type 0
AllOfIsEveryOffset = (f : ℕ → Bool) (at n : ℕ) → (all_of f at n ≡ true) ↔ ((o : ℕ) → at ≤ o → o < at + n → f o ≡ true)

-- "the first missing offset is the lowest not covered", "(the length if none)"
abbrev pub LowestNot : (ℕ → Bool) → ℕ → ℕ → Type 0
LowestNot f n k = (k ≤ n) × ((o : ℕ) → o < k → f o ≡ true) × (k < n → f k ≡ false)

unfoldable pub FirstNotIsTheLowest : Type 0
FirstNotIsTheLowest = (f : ℕ → Bool) (n k : ℕ) → (first_not f 0 n ≡ k) ↔ LowestNot f n k

-- each number of the list is above those behind it
abbrev pub Falling : List ℕ → Type 0
Falling [] = Unit {0}
Falling (x ∷ xs) = ((y : ℕ) → Memᴰ y xs → y < x) × Falling xs

-- "the received count is the number of the message's bytes so far covered": as many as a list that holds each of them once
unfoldable pub CountOfIsHowMany : Type 0
CountOfIsHowMany =
    (f : ℕ → Bool) (n : ℕ)
    → (os : List ℕ) × Falling os × ((o : ℕ) → Memᴰ o os ↔ ((o < n) × (f o ≡ true))) × (count_of f 0 n ≡ length os)

unfoldable pub CountIsFullIfEvery : Type 0
CountIsFullIfEvery = (f : ℕ → Bool) (n : ℕ) → (count_of f 0 n ≡ n) ↔ ((o : ℕ) → o < n → f o ≡ true)

-- ---- what a packet says, by the bytes where 01's table puts its fields ("Fields after type 1, version 1, flags 2")

pub record IncomingTold (bs : List ℕ) (h : Incoming) : Type 0 where
  pub kind : type_said h ≡ slice_index bs 0
  -- tagged are exactly 65, 67 and 69
  pub tagged : h.tagged ≡ tagged_told (slice_index bs 0)
  -- 4: "recv_id 4, seg_length 8, seg_offset 8"; "recv_id is the message's id"; "CTSDATA data equals seg_length"
  pub ctsdata : get_or bs 0 0 ≡ 4 → (h.id ≡ le_at 4 bs 4) × (h.size ≡ le_at 8 bs 8) × (h.offset ≡ le_at 8 bs 16)
  -- 64, 65: "msg_id 4"; "Eager data may be empty; its length is the message length"; "its offset .. (0 where the packet has none)"
  pub eager : (slice_index bs 0 ≡ 64) ⊎ (slice_index bs 0 ≡ 65) → (h.id ≡ le_at 4 bs 4) × (h.length ≡ h.size) × (h.offset ≡ 0)
  -- 66, 67: "msg_id 4, msg_length 8, seg_offset 8"
  pub medium : (slice_index bs 0 ≡ 66) ⊎ (slice_index bs 0 ≡ 67) → (h.id ≡ le_at 4 bs 4) × (h.length ≡ le_at 8 bs 8) × (h.offset ≡ le_at 8 bs 16)
  -- 68, 69: "msg_id 4, msg_length 8, send_id 4, credit_request 4"
  pub long : (slice_index bs 0 ≡ 68) ⊎ (slice_index bs 0 ≡ 69)
      → (h.id ≡ le_at 4 bs 4) × (h.length ≡ le_at 8 bs 8) × (h.offset ≡ 0) × (h.send_id ≡ le_at 4 bs 16) × (h.credit_request ≡ le_at 4 bs 20)
  -- "tag 8 for 65", "tag 8 for 67", "tag 8 for 69"
  pub eager_tag : get_or bs 0 0 ≡ 65 → h.tag ≡ le_at 8 bs 8
  pub tag : (slice_index bs 0 ≡ 67) ⊎ (slice_index bs 0 ≡ 69) → h.tag ≡ le_at 8 bs 24
  -- the other types have no tag
  pub no_tag : tagged_told (slice_index bs 0) ≡ false → h.tag ≡ 0

unfoldable pub ReadAsTheTableSays : Type 0
ReadAsTheTableSays = (limit : ℕ) (bs : List ℕ) (q : Packet) → read_of served_row limit bs ≡ Ok q → IncomingTold bs (incoming_of q)
