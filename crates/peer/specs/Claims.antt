-- What demand 2 says of a peer's calls, from its history alone. Each claim is about every call after every history.
use Rattle.std.specs.Prelude.{◌≡◌, ℕ, ◌+◌, ◌-◌, ◌/◌, ◌%◌, ◌^◌, ◌<◌, ◌≤◌, Bool, true, false, List, [], ◌∷◌, length, slice_index, slice_index_or, Ok}
use Rattle.laws.specs.Choose.{pick}
use Rattle.protocol.specs.declared.types.Packet.{Packet}
use Rattle.protocol.specs.Reading.{read_of}
use Rattle.protocol.specs.Types.{served_row}
use Rattle.peer.specs.declared.types.Answer.{Answer}
use Rattle.peer.specs.declared.types.Inbound.{Inbound}
use Rattle.peer.specs.declared.types.Receive.{Receive}
use Rattle.peer.specs.Answers.{on_accepted, on_done, on_granted, on_taken}
use Rattle.peer.specs.Calls.{Call, on_packet, packet}
use Rattle.peer.specs.Coverage.{Segment, covers, inside, all_of}
use Rattle.peer.specs.Expected.{enter, expected, expected_bytes, plain_step, target_of_call}
use Rattle.peer.specs.Incomings.{incoming_of, is_long}
use Rattle.peer.specs.Matching.{ahead, fits}
use Rattle.peer.specs.Plain.{Plain, Target, fresh_plain, receiving, slot_entry, waiting}
use Rattle.wire.specs.LittleEndian.{le_at}

-- the plain receiver after a history: a list of calls, each with the answer that 01 demands
unfoldable pub plain_after : ℕ → ℕ → Plain → List Call → Plain
plain_after area limit l [] = l
plain_after area limit l (c ∷ cs) = plain_after area limit (plain_step area limit l c).after cs

abbrev pub history : ℕ → ℕ → List Call → Plain
history area limit calls = plain_after area limit fresh_plain calls

-- ---- done exactly when covered

-- the message that a packet's segment is accepted into, with the segment: whether its accepted segments cover every byte
pub record Covered (t : Target) (o : Inbound) (complete : Bool) : Type 0 where
  pub role : t.entry.role ≡ receiving o
  pub covered : all_of (covers t.entry.segments) 0 o.message.length ≡ complete

-- the answer names that message
pub record Finished (t : Target) (slot id n : ℕ) : Type 0 where
  pub message : Inbound
  pub covered : Covered t message true
  pub slot_is : slot ≡ t.index
  pub id_is : id ≡ message.message.id
  pub length_is : n ≡ message.message.length

pub record Unfinished (t : Target) : Type 0 where
  pub message : Inbound
  pub covered : Covered t message false

abbrev pub DoneClaim : Target → Answer → Type 0
DoneClaim t a = on_taken (Unit {0}) (Unfinished t) (λ n. Unfinished t) (λ slot id n cq. Finished t slot id n) (λ slot id n. Unit {0}) a

-- "reported done exactly then ..: at its match if empty, otherwise at the packet with which accepted segments have covered every byte"
unfoldable pub DoneWhenCovered : Type 0
DoneWhenCovered =
    (area limit : ℕ) (calls : List Call) (c : Call)
    → DoneClaim (target_of_call limit (history area limit calls) c) (expected area limit (history area limit calls) c)

-- ---- message order, and the receive posted first

-- the packet q begins a message: its id is the next one, and of the receives that it fits the one in entry `t.index` was posted first
pub record InOrder (l : Plain) (q : Packet) (t : Target) : Type 0 where
  pub next : ahead (incoming_of q).id l.next ≡ 0
  pub receive : Receive
  pub waits : (slot_entry l.entries t.index).role ≡ waiting receive
  pub fit : fits (incoming_of q) receive ≡ true
  pub first : (j : ℕ) (r : Receive) → (slot_entry l.entries j).role ≡ waiting r → fits (incoming_of q) r ≡ true
      → (slot_entry l.entries t.index).serial ≤ (slot_entry l.entries j).serial
  -- the receive opened is the one that waited
  pub opens : (o : Inbound) → t.entry.role ≡ receiving o → o.receive ≡ receive

-- the answer takes the packet: it accepts its segment, or truncates its message
abbrev pub takes : Answer → Bool
takes a = on_taken false true (λ n. true) (λ slot id n cq. true) (λ slot id n. true) a

-- the answer comes with a CTS
abbrev pub is_grant : Answer → Bool
is_grant a = on_granted false (λ n. true) a

-- "messages are matched in message order to the oldest fitting receive"
unfoldable pub MatchedInOrder : Type 0
MatchedInOrder =
    (area limit : ℕ) (calls : List Call) (bs : List ℕ) (room : ℕ) (q : Packet)
    → read_of served_row limit bs ≡ Ok q
    → takes (expected area limit (history area limit calls) (packet bs room)) ≡ true
    → (target_of_call limit (history area limit calls) (packet bs room)).matched ≡ true
    → InOrder (history area limit calls) q (target_of_call limit (history area limit calls) (packet bs room))

-- ---- truncated

-- "Length above capacity: answer truncated (slot, id, length)"
pub record Truncates (l : Plain) (q : Packet) (t : Target) (slot id n : ℕ) : Type 0 where
  pub order : InOrder l q t
  pub slot_is : slot ≡ t.index
  pub id_is : id ≡ (incoming_of q).id
  pub length_is : n ≡ (incoming_of q).length
  pub above : order.receive.capacity < n

-- and only then: a message that is accepted into the oldest fitting receive is no longer than its capacity
pub record HasRoom (l : Plain) (q : Packet) (t : Target) : Type 0 where
  pub roomy : (m : t.matched ≡ true) (i : InOrder l q t) → (incoming_of q).length ≤ i.receive.capacity

abbrev pub TruncateClaim : Plain → Packet → Target → Answer → Type 0
TruncateClaim l q t a =
    on_taken (Unit {0}) (HasRoom l q t) (λ n. HasRoom l q t) (λ slot id n cq. HasRoom l q t) (λ slot id n. Truncates l q t slot id n) a

unfoldable pub TruncatedAboveCapacity : Type 0
TruncatedAboveCapacity =
    (area limit : ℕ) (calls : List Call) (bs : List ℕ) (room : ℕ) (q : Packet)
    → read_of served_row limit bs ≡ Ok q
    → TruncateClaim (history area limit calls) q (target_of_call limit (history area limit calls) (packet bs room))
    (expected area limit (history area limit calls) (packet bs room))

-- ---- once

abbrev pub is_done : Target → Answer → Bool
is_done t a = on_done false (λ slot id n cq. true) a

-- the packet is taken by a match now
abbrev pub is_match : Target → Answer → Bool
is_match t a = pick (takes a) t.matched false

-- the answers that 01 demands of a list of calls after the history l
unfoldable pub answers_of : ℕ → ℕ → Plain → List Call → List Answer
answers_of area limit l [] = []
answers_of area limit l (c ∷ cs) = (plain_step area limit l c).answer ∷ answers_of area limit (plain_step area limit l c).after cs

-- a number of each call of a list that its answer names, in order, by the history l before it
unfoldable pub numbers_of : (Target → Answer → Bool) → (Plain → Target → Call → ℕ) → ℕ → Plain → List Call → List Answer → List ℕ
numbers_of named number limit l [] answers = []
numbers_of named number limit l (c ∷ cs) [] = []
numbers_of named number limit l (c ∷ cs) (a ∷ answers) =
    pick (named (target_of_call limit l c) a)
    (number l (target_of_call limit l c) c ∷ numbers_of named number limit (enter limit l c a) cs answers)
    (numbers_of named number limit (enter limit l c a) cs answers)

-- a receive, by the number of posts before it
abbrev pub target_serial : Plain → Target → Call → ℕ
target_serial l t c = (slot_entry l.entries t.index).serial

-- the receives that the answers name
abbrev pub receives_of : (Target → Answer → Bool) → ℕ → Plain → List Call → List Answer → List ℕ
receives_of named limit l cs answers = numbers_of named target_serial limit l cs answers

-- no number stands at two places
abbrev pub Distinct : List ℕ → Type 0
Distinct ns = (i j : ℕ) → i < length ns → j < length ns → slice_index ns i ≡ slice_index ns j → i ≡ j

-- "and once": each match takes a receive of its own, and of each a done is answered at most once
unfoldable pub Once : Type 0
Once =
    (area limit : ℕ) (calls : List Call)
    → Distinct (receives_of is_match limit fresh_plain calls (answers_of area limit fresh_plain calls))
    × Distinct (receives_of is_done limit fresh_plain calls (answers_of area limit fresh_plain calls))

-- ---- the k-th message

-- the id of an RTM, in its bytes: "msg_id 4"
abbrev pub id_at : Plain → Target → Call → ℕ
id_at l t c = on_packet 0 (λ bs room. le_at 4 bs 4) c

-- the ids of the messages that are matched, truncated ones too, in the order of their matches
abbrev pub ids_of : ℕ → Plain → List Call → List Answer → List ℕ
ids_of limit l cs answers = numbers_of is_match id_at limit l cs answers

-- what is lent to be read are bytes
abbrev pub AreBytes : Call → Type 0
AreBytes c = on_packet (Unit {0}) (λ bs room. (i : ℕ) → slice_index bs i < 256) c

abbrev pub AllBytes : List Call → Type 0
AllBytes [] = Unit {0}
AllBytes (c ∷ cs) = AreBytes c × AllBytes cs

-- number k of the list is k mod 2^32
abbrev pub CountsUp : List ℕ → Type 0
CountsUp ns = (k : ℕ) → k < length ns → slice_index ns k ≡ k % 2 ^ 32

-- "in message order": the k-th message that a peer matches, from 0 on, has the id k mod 2^32
unfoldable pub MatchedByCount : Type 0
MatchedByCount =
    (area limit : ℕ) (calls : List Call) → AllBytes calls → CountsUp (ids_of limit fresh_plain calls (answers_of area limit fresh_plain calls))

-- ---- the bytes of a done message

abbrev pub segment_at : List Segment → ℕ → Segment
segment_at gs i = slice_index_or gs i (record { offset = 0; bytes = [] })

-- b is the byte at offset o of the one segment of gs that covers o
pub record ByteFrom (gs : List Segment) (o b : ℕ) : Type 0 where
  pub index : ℕ
  pub in_list : index < length gs
  pub covered : inside (segment_at gs index) o ≡ true
  pub byte : b ≡ slice_index (segment_at gs index).bytes (o - (segment_at gs index).offset)
  pub only : (k : ℕ) → k < length gs → inside (segment_at gs k) o ≡ true → k ≡ index

-- bs has n bytes, at each offset that of the one segment of gs that covers it
abbrev pub BytesAre : List Segment → ℕ → List ℕ → Type 0
BytesAre gs n bs = (length bs ≡ n) × ((o : ℕ) → o < n → ByteFrom gs o (slice_index bs o))

abbrev pub BytesClaim : Target → Answer → Type 0
BytesClaim t a =
    on_done (Unit {0}) (λ slot id n cq. BytesAre t.entry.segments n (expected_bytes t.entry.segments (Answer.Done slot id n cq))) a

-- a done message holds, at every offset, the byte of the one accepted segment that covers it
unfoldable pub BytesBySegments : Type 0
BytesBySegments =
    (area limit : ℕ) (calls : List Call) (c : Call)
    → BytesClaim (target_of_call limit (history area limit calls) c) (expected area limit (history area limit calls) c)

-- ---- what is written

-- the bytes that a call puts into the area from `at` on are the data of its own segment, in the segment's own range of its message's buffer
pub record SegmentIn (area : ℕ) (t : Target) (at : ℕ) (bytes : List ℕ) : Type 0 where
  pub message : Inbound
  pub segment : Segment
  pub earlier : List Segment
  pub role : t.entry.role ≡ receiving message
  pub latest : t.entry.segments ≡ segment ∷ earlier
  pub place : at ≡ message.receive.start + segment.offset
  pub content : bytes ≡ segment.bytes
  pub in_message : segment.offset + length segment.bytes ≤ message.message.length
  pub in_buffer : message.message.length ≤ message.receive.capacity
  pub in_area : message.receive.start + message.receive.capacity ≤ area

-- "Each accepted segment puts its own data into its own range of its own buffer and changes no other arena byte"
abbrev pub WriteClaim : ℕ → Target → Answer → ℕ → List ℕ → Type 0
WriteClaim area t a at bytes = on_accepted (bytes ≡ []) (SegmentIn area t at bytes) a

-- ---- grants

abbrev pub total : List ℕ → ℕ
total [] = 0
total (n ∷ ns) = n + total ns

-- x / d, rounded up
abbrev pub round_up : ℕ → ℕ → ℕ
round_up x d = (x + d - 1) / d

-- "When a long message is done, its RTM data plus the recv_length of every CTS written for it equals the length"
pub record GrantsAdd (t : Target) (n : ℕ) : Type 0 where
  pub adds : (o : Inbound) → t.entry.role ≡ receiving o → is_long o.message.shape ≡ true → t.entry.rtm + total t.entry.grants ≡ n

-- "CTS count is at most (length − RTM data)/(L − 32), rounded up", the CTS of this answer for n bytes included
pub record FewGrants (limit : ℕ) (t : Target) (n : ℕ) : Type 0 where
  pub few : (o : Inbound) → t.entry.role ≡ receiving o → length (n ∷ t.entry.grants) ≤ round_up (o.message.length - t.entry.rtm) (limit - 32)

abbrev pub GrantClaim : ℕ → Target → Answer → Type 0
GrantClaim limit t a =
    on_taken (Unit {0}) (Unit {0}) (λ n. FewGrants limit t n) (λ slot id n cq. GrantsAdd t n) (λ slot id n. Unit {0}) a

-- at every limit that a set-up takes
unfoldable pub GrantsBounded : Type 0
GrantsBounded =
    (area limit : ℕ) (calls : List Call) (c : Call)
    → 64 ≤ limit
    → GrantClaim limit (target_of_call limit (history area limit calls) c) (expected area limit (history area limit calls) c)
