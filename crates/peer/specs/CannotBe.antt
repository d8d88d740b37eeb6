-- Refusal 2 of one peer in 01's own words, clause by clause: "within one peer below n a used range (of a posted or open slot) outside its
-- area, two overlapping used ranges, two open messages with one id, two posted receives of one age, open length above capacity, granted
-- end above length". Proved in proofs/Slots/CannotBeLaws.antt.
use Rattle.std.specs.Prelude.{◌≡◌, ℕ, ◌+◌, ◌<◌, true, false, ◌≢◌, ◌↔◌}
use Rattle.peer.specs.Sentences.{HasByte}
use Rattle.peer.specs.State.{peer_fits, phase_at}
use Rattle.peer.specs.View.{UsesRange, role_of}
use Rattle.peer.specs.declared.types.Inbound.{Inbound}
use Rattle.peer.specs.declared.types.Peer.{Peer}
use Rattle.peer.specs.declared.types.Phase.{Phase}
use Rattle.peer.specs.declared.types.Receive.{Receive}

pub data Clause : Type 0 where
  range_outside ranges_overlap one_id one_age length_above granted_above : Clause

-- slot i of the peer uses the range of r
abbrev pub Uses : Peer → ℕ → Receive → Type 0
Uses p i r = UsesRange (role_of (phase_at p.slots i)) r

abbrev pub IsOpen : Peer → ℕ → Inbound → Type 0
IsOpen p i o = phase_at p.slots i ≡ Phase.Open o

abbrev pub Breaks : ℕ → Peer → Clause → Type 0
-- "a used range (of a posted or open slot) outside its area"
Breaks area p range_outside = (i : ℕ) × (r : Receive) × Uses p i r × (area < r.start + r.capacity)
-- "two overlapping used ranges": some byte lies in both
Breaks area p ranges_overlap =
    (i : ℕ) × (j : ℕ) × (i ≢ j) × (r : Receive) × (s : Receive) × Uses p i r × Uses p j s × ((x : ℕ) × HasByte r x × HasByte s x)
-- "two open messages with one id"
Breaks area p one_id =
    (i : ℕ) × (j : ℕ) × (i ≢ j) × (o : Inbound) × (q : Inbound) × IsOpen p i o × IsOpen p j q × (o.message.id ≡ q.message.id)
-- "two posted receives of one age"
Breaks area p one_age =
    (i : ℕ)
    × (j : ℕ)
    × (i ≢ j)
    × (a : ℕ)
    × (r : Receive)
    × (s : Receive)
    × (phase_at p.slots i ≡ Phase.Posted r a)
    × (phase_at p.slots j ≡ Phase.Posted s a)
-- "open length above capacity"
Breaks area p length_above = (i : ℕ) × (o : Inbound) × IsOpen p i o × (o.receive.capacity < o.message.length)
-- "granted end above length"
Breaks area p granted_above = (i : ℕ) × (o : Inbound) × IsOpen p i o × (o.message.length < o.message.granted)

-- refused 2 exactly if a clause is broken
unfoldable pub CannotBeIfAClauseIsBroken : Type 0
CannotBeIfAClauseIsBroken = (area : ℕ) (p : Peer) → (peer_fits area p ≡ false) ↔ ((c : Clause) × Breaks area p c)

-- and it can be exactly if none is
unfoldable pub CanBeIfNoClauseIsBroken : Type 0
CanBeIfNoClauseIsBroken = (area : ℕ) (p : Peer) → (peer_fits area p ≡ true) ↔ ((c : Clause) → Breaks area p c → ⊥)
