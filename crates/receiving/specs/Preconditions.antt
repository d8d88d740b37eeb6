-- What the parts of a peer's calls ask of their callers, which the engine's checks and the packet reader have shown.
use Rattle.std.specs.Prelude.{◌≡◌, ℕ, ◌+◌, ◌*◌, ◌<◌, ◌≤◌, true}
use Rattle.peer.specs.declared.types.Inbound.{Inbound}
use Rattle.peer.specs.declared.types.Incoming.{Incoming}
use Rattle.peer.specs.declared.types.Message.{Message}
use Rattle.peer.specs.declared.types.Peer.{Peer}
use Rattle.peer.specs.declared.types.Receive.{Receive}
use Rattle.peer.specs.Formed.{Formed}
use Rattle.peer.specs.State.{area_limit, peer_fits}
use Rattle.protocol.specs.Limits.{packet_limit}

-- a peer that can be, with a map word for each 64 bytes of its area
pub record Mapped (area words : ℕ) (p : Peer) : Type 0 where
  pub whole : 64 * words ≡ area
  pub small : area ≤ area_limit
  pub fits : peer_fits area p ≡ true

-- the longest packet is within the set-up's limits
pub record Limited (limit : ℕ) : Type 0 where
  pub low : 64 ≤ limit
  pub high : limit ≤ packet_limit

-- a grant is due: length remains
pub record MayGrant (limit : ℕ) (m : Message) : Type 0 where
  pub limited : Limited limit
  pub remains : m.granted < m.length

-- a segment lies where the map has bits
pub record Placed (words : ℕ) (o : Inbound) (h : Incoming) : Type 0 where
  pub in_map : o.receive.start + h.offset + h.size ≤ 64 * words
  pub small : 64 * words ≤ area_limit

-- an open message lies where the map has bits
pub record Mapping (words : ℕ) (o : Inbound) : Type 0 where
  pub in_map : o.receive.start + o.message.length ≤ 64 * words
  pub small : 64 * words ≤ area_limit

-- a packet that was read, for a peer that can be
pub record MayJudge (words : ℕ) (p : Peer) (h : Incoming) : Type 0 where
  pub mapped : Mapped (64 * words) words p
  pub form : Formed h h.size

-- an open message in an area with its map, and room for a reply
pub record MayAccept (limit : ℕ) (o : Inbound) (area words reply : ℕ) : Type 0 where
  pub limited : Limited limit
  pub in_area : o.receive.start + o.receive.capacity ≤ area
  pub in_range : o.message.length ≤ o.receive.capacity
  pub in_length : o.message.granted ≤ o.message.length
  pub whole : 64 * words ≡ area
  pub small : area ≤ area_limit
  pub room : 24 ≤ reply

-- the same, with n bytes to be stored at an offset in the message
pub record MayStore (limit : ℕ) (o : Inbound) (offset n area words reply : ℕ) : Type 0 where
  pub accepting : MayAccept limit o area words reply
  pub in_message : offset + n ≤ o.message.length

-- a message begins in a receive, with n bytes of data
pub record MayBegin (limit : ℕ) (r : Receive) (h : Incoming) (n area words reply : ℕ) : Type 0 where
  pub limited : Limited limit
  pub in_area : r.start + r.capacity ≤ area
  pub in_range : h.length ≤ r.capacity
  pub in_length : h.offset + h.size ≤ h.length
  pub size : h.size ≡ n
  pub whole : 64 * words ≡ area
  pub small : area ≤ area_limit
  pub room : 24 ≤ reply

-- a packet with n bytes of data is to be judged, and the verdict carried out
pub record MayCarry (limit : ℕ) (p : Peer) (h : Incoming) (n area words reply : ℕ) : Type 0 where
  pub limited : Limited limit
  pub mapped : Mapped area words p
  pub form : Formed h n
  pub room : 24 ≤ reply
