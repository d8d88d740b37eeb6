-- What a post, a cancel, a truncation and a refusal leave of a peer's slots, next id, map and area, in 01's own words, over roles.
-- specs/Moves.antt has the other answers, and the statement.
use Rattle.std.specs.Prelude.{◌≡◌, ℕ, ◌+◌, ◌%◌, ◌^◌, ◌<◌, ◌≤◌, List, [], length, ◌≢◌}
use Rattle.peer.specs.Calls.{Call, packet}
use Rattle.peer.specs.Checks.{FitsIn}
use Rattle.peer.specs.Effects.{Effect}
use Rattle.peer.specs.PacketBytes.{RtmIn, id_in, length_in}
use Rattle.peer.specs.Plain.{Role, idle, receiving, waiting}
use Rattle.peer.specs.State.{phase_at, slot_count}
use Rattle.peer.specs.View.{role_of}
use Rattle.peer.specs.declared.types.Inbound.{Inbound}
use Rattle.peer.specs.declared.types.Peer.{Peer}
use Rattle.peer.specs.declared.types.Phase.{Phase}
use Rattle.peer.specs.declared.types.Receive.{Receive}

-- ---- slots, next id, and what is lent

-- what slot i of the peer is used for
abbrev pub role_at : Peer → ℕ → Role
role_at p i = role_of (phase_at p.slots i)

-- of the eight slots slot i alone changes what it is used for
pub record OnlySlot (i : ℕ) (p q : Peer) : Type 0 where
  pub in_slots : i < slot_count
  pub slots : length q.slots ≡ slot_count
  pub others : (j : ℕ) → (j ≢ i) → role_at q j ≡ role_at p j

-- no arena byte, map bit or reply byte changes
pub record Untouched (ws : List ℕ) (f : Effect) : Type 0 where
  pub words : f.words ≡ ws
  pub bytes : f.bytes ≡ []
  pub reply : f.reply ≡ []

-- next, after the call n, stays as it was
abbrev pub NextStays : Peer → ℕ → Type 0
NextStays p n = n ≡ p.next

-- "moves next on by one mod 2^32"
abbrev pub NextMoves : Peer → ℕ → Type 0
NextMoves p n = n ≡ (p.next + 1) % 2 ^ 32

-- ---- refused

-- nothing changes
pub record Unmoved (p : Peer) (ws : List ℕ) (f : Effect) : Type 0 where
  pub peer : f.peer ≡ p
  pub lent : Untouched ws f

-- ---- posted

-- "A post takes the lowest free slot: kind, tag, ignore mask, start, capacity": free to posted
pub record Posting (p : Peer) (ws : List ℕ) (r : Receive) (i : ℕ) (f : Effect) : Type 0 where
  pub free : role_at p i ≡ idle
  pub lowest : (j : ℕ) → j < i → role_at p j ≢ idle
  pub now : role_at f.peer i ≡ waiting r
  pub only : OnlySlot i p f.peer
  pub next : NextStays p f.peer.next
  pub lent : Untouched ws f

-- ---- cancelled

-- "Cancel frees a posted or open slot"
pub record Cancelling (p : Peer) (ws : List ℕ) (i : ℕ) (f : Effect) : Type 0 where
  pub used : role_at p i ≡ idle → ⊥
  pub now : role_at f.peer i ≡ idle
  pub only : OnlySlot i p f.peer
  pub next : NextStays p f.peer.next
  pub lent : Untouched ws f

-- ---- a match

-- "matches the oldest fitting receive": an RTM whose id is not open, and the receive of slot i. "Oldest means posted first": the lower age
pub record Matching (p : Peer) (bs : List ℕ) (i : ℕ) (r : Receive) : Type 0 where
  pub rtm : RtmIn bs
  pub unopened : (j : ℕ) (o : Inbound) → role_at p j ≡ receiving o → o.message.id ≢ id_in bs
  pub age : ℕ
  pub waits : phase_at p.slots i ≡ Phase.Posted r age
  pub fit : FitsIn bs r
  pub oldest : (j : ℕ) (s : Receive) (b : ℕ) → phase_at p.slots j ≡ Phase.Posted s b → FitsIn bs s → age ≤ b

-- ---- truncated

-- "Length above capacity: answer truncated (slot, id, length), slot freed, no arena byte or map bit changed"
pub record Truncating (p : Peer) (ws : List ℕ) (c : Call) (i id n : ℕ) (f : Effect) : Type 0 where
  pub text : List ℕ
  pub room : ℕ
  pub call : c ≡ packet text room
  pub receive : Receive
  pub matched : Matching p text i receive
  pub id_is : id ≡ id_in text
  pub length_is : n ≡ length_in text
  pub above : receive.capacity < n
  pub now : role_at f.peer i ≡ idle
  pub only : OnlySlot i p f.peer
  pub next : NextMoves p f.peer.next
  pub lent : Untouched ws f
