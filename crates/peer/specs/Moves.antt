-- What each answer of a peer's call leaves of its slots, next id, map and area, in 01's own words, over roles, bits and bytes: accepted segments,
-- the missing-byte report, and the statement of every answer. Proved in proofs/PeerSteps/MovesHold.antt and proofs/PeerSteps/SlotsRound.antt.
use Rattle.std.specs.Prelude.{◌≡◌, ℕ, ◌+◌, ◌-◌, ◌*◌, ◌^◌, ◌<◌, ◌≤◌, min, max, true, ◌⊎◌, ◌↔◌, List, [], length, drop, Option}
use mathlib.Core.List.{Memᴰ}
use Rattle.bitmap.specs.Map.{bit_at}
use Rattle.protocol.specs.CtsSentences.{ReadsAsCts}
use Rattle.protocol.specs.Sentences.{head_in}
use Rattle.peer.specs.Calls.{Call, cancel, packet, peer_step, post, report}
use Rattle.peer.specs.Checks.{Long}
use Rattle.peer.specs.Effects.{Effect}
use Rattle.peer.specs.Sentences.{Falling, HasByte}
use Rattle.peer.specs.Origins.{BegunBy}
use Rattle.peer.specs.PacketBytes.{RtmIn, id_in, offset_in, size_in, type_in}
use Rattle.peer.specs.Plain.{Role, idle, receiving, waiting}
use Rattle.peer.specs.SlotMoves.{Cancelling, Matching, NextMoves, NextStays, OnlySlot, Posting, Truncating, Unmoved, role_at}
use Rattle.peer.specs.State.{peer_fits, slot_count}
use Rattle.peer.specs.declared.types.Answer.{Answer}
use Rattle.peer.specs.declared.types.Inbound.{Inbound}
use Rattle.peer.specs.declared.types.Peer.{Peer}
use Rattle.peer.specs.declared.types.Receive.{Receive}

-- ---- the map's bits, before and after ("byte i is bit i")

-- byte x of the area lies in the segment that the packet bs has for the receive
abbrev pub InSegment : List ℕ → Receive → ℕ → Type 0
InSegment bs r x = (r.start + offset_in bs ≤ x) × (x < r.start + offset_in bs + size_in bs)

-- of the first n bytes of the message all are in; some is missing
abbrev pub AllIn : List ℕ → Inbound → ℕ → Type 0
AllIn now o n = (x : ℕ) → x < n → bit_at now (o.receive.start + x) ≡ 1

abbrev pub SomeMissing : List ℕ → Inbound → ℕ → Type 0
SomeMissing now o n = (x : ℕ) × (x < n) × (bit_at now (o.receive.start + x) ≡ 0)

-- "A match whose length fits clears the map bits of the receive's whole range, then stores the segment"
pub record MatchBits (bs : List ℕ) (r : Receive) (ws now : List ℕ) : Type 0 where
  pub stored : (x : ℕ) → InSegment bs r x → bit_at now x ≡ 1
  pub clear : (x : ℕ) → HasByte r x → (InSegment bs r x → ⊥) → bit_at now x ≡ 0
  pub others : (x : ℕ) → (HasByte r x → ⊥) → bit_at now x ≡ bit_at ws x

-- one segment more
pub record MoreBits (bs : List ℕ) (r : Receive) (ws now : List ℕ) : Type 0 where
  pub stored : (x : ℕ) → InSegment bs r x → bit_at now x ≡ 1
  pub others : (x : ℕ) → (InSegment bs r x → ⊥) → bit_at now x ≡ bit_at ws x

-- ---- the message that a segment goes to

-- the packet bs begins the message o in slot i, of which it was posted: "0 matches the oldest fitting receive and moves next on by one mod 2^32"
pub record Beginning (p : Peer) (ws bs : List ℕ) (i : ℕ) (o : Inbound) (next : ℕ) (now : List ℕ) : Type 0 where
  pub matched : Matching p bs i o.receive
  pub message : BegunBy bs o.message
  -- "The granted end is the RTM's data plus all grants"
  pub granted : o.message.granted ≡ size_in bs
  pub fitting : o.message.length ≤ o.receive.capacity
  -- 02, request 3: "a msg_length of 0 stays refusal 11", so that a long message is never empty
  pub some : Long o.message → 1 ≤ o.message.length
  pub moves : NextMoves p next
  pub bits : MatchBits bs o.receive ws now

-- the message o is open in slot i, and the packet bs goes on with it
pub record GoingOn (p : Peer) (ws bs : List ℕ) (i : ℕ) (o : Inbound) (next : ℕ) (now : List ℕ) : Type 0 where
  pub receives : role_at p i ≡ receiving o
  pub id : o.message.id ≡ id_in bs
  -- 14: "or the type isn't medium"
  pub again : RtmIn bs → (type_in bs ≡ 66) ⊎ (type_in bs ≡ 67)
  pub stays : NextStays p next
  pub bits : MoreBits bs o.receive ws now

-- the segment of a packet is accepted into the message o of slot i
pub record Taking (p : Peer) (ws : List ℕ) (c : Call) (i : ℕ) (o : Inbound) (f : Effect) : Type 0 where
  pub text : List ℕ
  pub room : ℕ
  pub call : c ≡ packet text room
  pub how : Beginning p ws text i o f.peer.next f.words ⊎ GoingOn p ws text i o f.peer.next f.words
  pub only : OnlySlot i p f.peer
  pub words : length f.words ≡ length ws
  -- "its own data into its own range of its own buffer": "the rest is data"
  pub place : f.at ≡ o.receive.start + offset_in text
  pub content : f.bytes ≡ drop (head_in text) text

-- ---- stored, granted, done

-- open from now on, or as it was; a long message waits for granted bytes
pub record Storing (p : Peer) (ws : List ℕ) (c : Call) (i : ℕ) (o : Inbound) (f : Effect) : Type 0 where
  pub taking : Taking p ws c i o f
  pub now : role_at f.peer i ≡ receiving o
  pub missing : SomeMissing f.words o o.message.length
  pub waits : Long o.message → SomeMissing f.words o o.message.granted
  pub reply : f.reply ≡ []

-- "The granted end is the RTM's data plus all grants": n more, and all else as it was
pub record GrantedOn (n : ℕ) (o q : Inbound) : Type 0 where
  pub receive : q.receive ≡ o.receive
  pub shape : q.message.shape ≡ o.message.shape
  pub tagged : q.message.tagged ≡ o.message.tagged
  pub id : q.message.id ≡ o.message.id
  pub tag : q.message.tag ≡ o.message.tag
  pub size : q.message.length ≡ o.message.length
  pub granted : q.message.granted ≡ o.message.granted + n
  pub send_id : q.message.send_id ≡ o.message.send_id
  pub request : q.message.credit_request ≡ o.message.credit_request
  pub cq_data : q.message.cq_data ≡ o.message.cq_data

-- "A long message not done by its RTM, or whose granted bytes are all in while length remains .. answers granted"
pub record Granting (limit : ℕ) (p : Peer) (ws : List ℕ) (c : Call) (i : ℕ) (o : Inbound) (n : ℕ) (f : Effect) : Type 0 where
  pub taking : Taking p ws c i o f
  pub message : Inbound
  pub now : role_at f.peer i ≡ receiving message
  pub more : GrantedOn n o message
  -- "recv_length = min(length left ungranted, min(max(credit_request, 1), 16) × (L − 32))"
  pub amount : n ≡ min (o.message.length - o.message.granted) (min (max o.message.credit_request 1) 16 * (limit - 32))
  pub long : Long o.message
  pub all_in : AllIn f.words o o.message.granted
  pub remains : SomeMissing f.words o o.message.length
  -- "a CTS in the first 24 reply bytes": the message's send_id, "recv_id is the message's id", and the length answered, for all numbers that its
  -- fields hold and every limit that a set-up takes
  pub reply : o.message.send_id < 2 ^ 32 → o.message.id < 2 ^ 32 → o.message.length < 2 ^ 64 → 64 ≤ limit
      → ReadsAsCts f.reply o.message.send_id o.message.id n

-- "Done frees the slot and leaves the bits": the bits are those that the segment's acceptance leaves
pub record Finishing (p : Peer) (ws : List ℕ) (c : Call) (i : ℕ) (o : Inbound) (id n : ℕ) (cq : Option ℕ) (f : Effect) : Type 0 where
  pub taking : Taking p ws c i o f
  pub now : role_at f.peer i ≡ idle
  pub id_is : id ≡ o.message.id
  pub length_is : n ≡ o.message.length
  pub cq_is : cq ≡ o.message.cq_data
  pub whole : AllIn f.words o n
  pub reply : f.reply ≡ []

-- ---- the report

-- "The missing-byte report of an open slot gives the received count, the set bits in the message's range, and the first missing offset, ..
-- (the length if none)"
pub record Reporting (p : Peer) (ws : List ℕ) (i k first : ℕ) (f : Effect) : Type 0 where
  pub message : Inbound
  pub receives : role_at p i ≡ receiving message
  pub unmoved : Unmoved p ws f
  -- as many as a list that holds each offset of a set bit once
  pub offsets : List ℕ
  pub once : Falling offsets
  pub each : (x : ℕ) → Memᴰ x offsets ↔ ((x < message.message.length) × (bit_at ws (message.receive.start + x) ≡ 1))
  pub count : k ≡ length offsets
  pub in_length : first ≤ message.message.length
  pub before : AllIn ws message first
  pub lowest : first < message.message.length → bit_at ws (message.receive.start + first) ≡ 0

-- ---- by the answer

abbrev pub Moved : ℕ → Peer → List ℕ → Call → Effect → Answer → Type 0
Moved limit p ws c f (Answer.Refused k) = Unmoved p ws f
Moved limit p ws c f (Answer.Posted i) = (r : Receive) × (c ≡ post r) × Posting p ws r i f
Moved limit p ws c f (Answer.Cancelled i) = (c ≡ cancel i) × Cancelling p ws i f
Moved limit p ws c f Answer.Stored = (i : ℕ) × (o : Inbound) × Storing p ws c i o f
Moved limit p ws c f (Answer.Granted n) = (i : ℕ) × (o : Inbound) × Granting limit p ws c i o n f
Moved limit p ws c f (Answer.Done i id n cq) = (o : Inbound) × Finishing p ws c i o id n cq f
Moved limit p ws c f (Answer.Truncated i id n) = Truncating p ws c i id n f
Moved limit p ws c f (Answer.Missing k first) = (i : ℕ) × (c ≡ report i) × Reporting p ws i k first f

-- every call of every peer that can be (the others are refused 2), also one that no run reaches, on words that cover its area
unfoldable pub MovesAreAsSaid : Type 0
MovesAreAsSaid =
    (area limit : ℕ) (p : Peer) (ws : List ℕ) (c : Call) → peer_fits area p ≡ true → length p.slots ≡ slot_count → area ≤ 64 * length ws
    → Moved limit p ws c (peer_step area limit p ws c) (peer_step area limit p ws c).answer

-- ---- the slots go round

-- "A slot goes from free to posted, to open, back to free": what a slot was used for, and what it is used for after one call more. A message
-- that is open stays as it is but for its granted end; a receive that is truncated, cancelled or done at its match goes back to free at once
pub data Goes : Role → Role → Type 0 where
  stays : (u : Role) → Goes u u
  to_posted : (r : Receive) → Goes idle (waiting r)
  to_open : (o : Inbound) → Goes (waiting o.receive) (receiving o)
  granted : (n : ℕ) (o q : Inbound) → GrantedOn n o q → Goes (receiving o) (receiving q)
  to_free : (u : Role) → Goes u idle

unfoldable pub SlotsGoRound : Type 0
SlotsGoRound =
    (area limit : ℕ) (p : Peer) (ws : List ℕ) (c : Call) → peer_fits area p ≡ true → length p.slots ≡ slot_count → area ≤ 64 * length ws
    → (j : ℕ) → Goes (role_at p j) (role_at (peer_step area limit p ws c).peer j)
