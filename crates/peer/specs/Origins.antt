-- Where a message comes from, by the calls of a history: the post that its slot was posted with, and the packet that matched it, byte by byte.
-- Proved in proofs/History/OriginsHold.antt and proofs/History/OriginReplies.antt.
use Rattle.std.specs.Prelude.{◌≡◌, ℕ, ◌+◌, ◌<◌, ◌≤◌, false, ◌≢◌, ◌⊎◌, ◌↔◌, List, [], ◌∷◌, length, drop, set, replicate, slice_index, slice_index_or, slice_set, Option, Some, None}
use Rattle.laws.specs.Choose.{pick}
use Rattle.protocol.specs.CtsSentences.{ReadsAsCts}
use Rattle.protocol.specs.Sentences.{bit_of, flags_in, head_in, raw_end}
use Rattle.peer.specs.Answers.{on_accepted, on_granted, on_posted, on_taken}
use Rattle.peer.specs.Calls.{Call, cancel, packet, post, report}
use Rattle.peer.specs.Checks.{Differs}
use Rattle.peer.specs.Claims.{history, is_match}
use Rattle.peer.specs.Expected.{expected, expected_reply, plain_step, target_of_call}
use Rattle.peer.specs.PacketBytes.{id_in, length_in, offset_in, tag_in, type_in, type_of}
use Rattle.peer.specs.Plain.{Plain, Role, Target, fresh_plain, idle, receiving, slot_entry, waiting}
use Rattle.peer.specs.State.{slot_count}
use Rattle.peer.specs.declared.types.Answer.{Answer}
use Rattle.peer.specs.declared.types.Inbound.{Inbound}
use Rattle.peer.specs.declared.types.Message.{Message}
use Rattle.peer.specs.declared.types.Receive.{Receive}
use Rattle.wire.specs.LittleEndian.{le_at}

pub record Origin : Type 0 where
  -- what "this peer's latest post answered posted with that slot" asked for
  pub posted : Receive
  -- the bytes of the packet that matched it; none before the match
  pub rtm : List ℕ

abbrev pub no_origin : Origin
no_origin = record { posted = record { tagged = false; tag = 0; ignore = 0; start = 0; capacity = 0 }; rtm = [] }

abbrev pub no_origins : List Origin
no_origins = replicate slot_count no_origin

abbrev pub origin_at : List Origin → ℕ → Origin
origin_at gs i = slice_index_or gs i no_origin

-- ---- the origins, by slot, after one call more and its answer

abbrev pub note_post : List Origin → Receive → Answer → List Origin
note_post gs r a = on_posted gs (λ i. set gs i (record { posted = r; rtm = [] })) a

-- a packet that matches the receive of the entry t is its message's origin
abbrev pub note_origin : Target → List Origin → Call → Answer → List Origin
note_origin t gs (post r) a = note_post gs r a
note_origin t gs (packet bs room) a = pick (is_match t a) (slice_set gs t.index (record { posted = (origin_at gs t.index).posted; rtm = bs })) gs
note_origin t gs (cancel i) a = gs
note_origin t gs (report i) a = gs

-- after a list of calls, each with the answer that 01 demands, from the history l with the origins gs on
unfoldable pub origins_from : ℕ → ℕ → Plain → List Origin → List Call → List Origin
origins_from area limit l gs [] = gs
origins_from area limit l gs (c ∷ cs) =
    origins_from area limit (plain_step area limit l c).after (note_origin (target_of_call limit l c) gs c (expected area limit l c)) cs

abbrev pub origins_of : ℕ → ℕ → List Call → List Origin
origins_of area limit calls = origins_from area limit fresh_plain no_origins calls

-- ---- an open message is the matching packet's

-- the message m is the one that the packet bs begins: its type, id, length and tag, of a LONGCTS RTM send_id and credit_request, and the CQ data
-- are those that stand in these bytes where 01's table puts them
pub record BegunBy (bs : List ℕ) (m : Message) : Type 0 where
  pub kind : type_of m ≡ type_in bs
  pub id : m.id ≡ id_in bs
  pub size : m.length ≡ length_in bs
  pub tag : m.tag ≡ tag_in bs
  -- "68/69 LONGCTS MSG/TAG RTM .. msg_id 4, msg_length 8, send_id 4, credit_request 4"
  pub long : (type_in bs ≡ 68) ⊎ (type_in bs ≡ 69) → (m.send_id ≡ le_at 4 bs 16) × (m.credit_request ≡ le_at 4 bs 20)
  -- "CQ data from the matching packet if any": flag 0x2, behind the raw address
  pub cq_data : bit_of (flags_in bs) 1 ≡ 1 → m.cq_data ≡ Some (le_at 8 bs (raw_end (type_in bs) (flags_in bs) bs))
  pub no_cq_data : bit_of (flags_in bs) 1 ≡ 0 → m.cq_data ≡ None

-- a receive waits as it was posted; a message is open in the receive that was posted, and is the matching packet's
abbrev pub FromOrigin : Origin → Role → Type 0
FromOrigin g idle = Unit {0}
FromOrigin g (waiting r) = r ≡ g.posted
FromOrigin g (receiving o) = (o.receive ≡ g.posted) × BegunBy g.rtm o.message

-- in every slot, after every history
unfoldable pub OpenIsTheMatchingPackets : Type 0
OpenIsTheMatchingPackets =
    (area limit : ℕ) (calls : List Call) (j : ℕ)
    → FromOrigin (origin_at (origins_of area limit calls) j) (slot_entry (history area limit calls).entries j).role

-- 14: "type, length or tag differs, or the type isn't medium", held against the matching packet's bytes
abbrev pub DiffersFrom : List ℕ → List ℕ → Type 0
DiffersFrom rtm bs =
    (type_in bs ≢ type_in rtm) ⊎ ((length_in bs ≢ length_in rtm) ⊎ ((tag_in bs ≢ tag_in rtm) ⊎ ((type_in bs ≢ 66) × (type_in bs ≢ 67))))

-- a packet that differs from the open message of a slot, as refusal 14 has it, differs from the packet that matched it, and the other way round
unfoldable pub ComparedWithTheMatchingPacket : Type 0
ComparedWithTheMatchingPacket =
    (area limit : ℕ) (calls : List Call) (j : ℕ) (o : Inbound) (bs : List ℕ)
    → (slot_entry (history area limit calls).entries j).role ≡ receiving o
    → Differs bs o.message ↔ DiffersFrom (origin_at (origins_of area limit calls) j).rtm bs

-- ---- an answer names its message's origin

-- the message that the packet's segment is accepted into, in the receive that was posted
pub record Comes (g : Origin) (t : Target) : Type 0 where
  pub message : Inbound
  pub role : t.entry.role ≡ receiving message
  pub receive : message.receive ≡ g.posted
  pub begun : BegunBy g.rtm message.message

-- "done (slot, id, length, CQ data from the matching packet if any)"
pub record DoneFrom (g : Origin) (t : Target) (slot id n : ℕ) (cq : Option ℕ) : Type 0 where
  pub comes : Comes g t
  pub slot_is : slot ≡ t.index
  pub id_is : id ≡ comes.message.message.id
  pub length_is : n ≡ comes.message.message.length
  pub cq_is : cq ≡ comes.message.message.cq_data

abbrev pub OriginClaim : Origin → Target → Answer → Type 0
OriginClaim g t a = on_taken (Unit {0}) (Comes g t) (λ n. Comes g t) (λ slot id n cq. DoneFrom g t slot id n cq) (λ slot id n. Unit {0}) a

-- the origin of the entry that a call's packet goes to, the packet itself being it where it matches
abbrev pub origin_of_call : ℕ → Plain → List Origin → Call → Answer → Origin
origin_of_call limit l gs c a = origin_at (note_origin (target_of_call limit l c) gs c a) (target_of_call limit l c).index

unfoldable pub AcceptedFromOrigin : Type 0
AcceptedFromOrigin =
    (area limit : ℕ) (calls : List Call) (c : Call)
    → OriginClaim
    (origin_of_call limit (history area limit calls) (origins_of area limit calls) c (expected area limit (history area limit calls) c))
    (target_of_call limit (history area limit calls) c) (expected area limit (history area limit calls) c)

-- ---- what is written

-- "its own data into its own range of its own buffer": the packet's data, from the packet's offset on, in the receive that was posted
pub record OwnSegment (area : ℕ) (g : Origin) (c : Call) (at : ℕ) (bytes : List ℕ) : Type 0 where
  pub text : List ℕ
  pub room : ℕ
  pub call : c ≡ packet text room
  -- "the rest is data"
  pub content : bytes ≡ drop (head_in text) text
  pub place : at ≡ g.posted.start + offset_in text
  pub in_buffer : offset_in text + length bytes ≤ g.posted.capacity
  pub in_area : g.posted.start + g.posted.capacity ≤ area

abbrev pub OwnClaim : ℕ → Origin → Call → Answer → ℕ → List ℕ → Type 0
OwnClaim area g c a at bytes = on_accepted (bytes ≡ []) (OwnSegment area g c at bytes) a

-- ---- the reply

-- "a CTS in the first 24 reply bytes" for the message, by the matching packet's send_id and id, "and answers granted"; "no other answer
-- touches the reply buffer"
abbrev pub ReplyClaim : Origin → Answer → List ℕ → Type 0
ReplyClaim g a reply =
    on_granted (reply ≡ []) (λ n. ((i : ℕ) → slice_index g.rtm i < 256) → ReadsAsCts reply (le_at 4 g.rtm 16) (id_in g.rtm) n) a

-- at every limit that a set-up takes
unfoldable pub GrantIsACts : Type 0
GrantIsACts =
    (area limit : ℕ) (calls : List Call) (c : Call) → 64 ≤ limit
    → ReplyClaim (origin_of_call limit (history area limit calls) (origins_of area limit calls) c (expected area limit (history area limit calls) c))
    (expected area limit (history area limit calls) c)
    (expected_reply (target_of_call limit (history area limit calls) c) (expected area limit (history area limit calls) c))
