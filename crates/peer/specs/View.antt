-- What refusals are judged by, seen alike in a peer's state and in its history: the next id, what each slot is used for, and which bytes
-- of each open message were accepted.
use Rattle.std.specs.Prelude.{◌≡◌, ℕ, ◌+◌, Bool, false, List, map, ◌==◌}
use Rattle.bitmap.specs.Map.{bit_at}
use Rattle.peer.specs.Coverage.{covers}
use Rattle.peer.specs.Plain.{Plain, Role, idle, receiving, slot_entry, waiting}
use Rattle.peer.specs.State.{phase_at}
use Rattle.peer.specs.declared.types.Inbound.{Inbound}
use Rattle.peer.specs.declared.types.Peer.{Peer}
use Rattle.peer.specs.declared.types.Phase.{Phase}
use Rattle.peer.specs.declared.types.Receive.{Receive}
use Rattle.peer.specs.declared.types.Slot.{Slot}

-- `role i`: what slot i is used for (idle where there is no slot i); `taken i x`: the byte at offset x of the message that is open in slot i
-- was accepted
pub record View : Type 0 where
  pub next : ℕ
  pub role : ℕ → Role
  pub taken : ℕ → ℕ → Bool

-- ---- of a state

abbrev pub role_of : Phase → Role
role_of Phase.Free = idle
role_of (Phase.Posted r a) = waiting r
role_of (Phase.Open o) = receiving o

abbrev pub roles_of : List Slot → List Role
roles_of ss = map (λ (s : Slot). role_of s.phase) ss

-- "one bit for each arena byte": the bit of the receive's start + x is set
abbrev pub marked_in : List ℕ → Phase → ℕ → Bool
marked_in ws Phase.Free x = false
marked_in ws (Phase.Posted r a) x = false
marked_in ws (Phase.Open o) x = bit_at ws (o.receive.start + x) == 1

abbrev pub view_of : Peer → List ℕ → View
view_of p ws =
    record {
      next = p.next;
      role = λ i. role_of (phase_at p.slots i);
      taken = λ i x. marked_in ws (phase_at p.slots i) x;
    }

-- ---- of a history

-- "it covers the bytes of its data from its offset on"
abbrev pub view_in : Plain → View
view_in l =
    record {
      next = l.next;
      role = λ i. (slot_entry l.entries i).role;
      taken = λ i x. covers (slot_entry l.entries i).segments x;
    }

-- ---- what a slot is used for

-- the slot's used range, "of a posted or open slot", is that of r
abbrev pub UsesRange : Role → Receive → Type 0
UsesRange idle r = ⊥
UsesRange (waiting s) r = s ≡ r
UsesRange (receiving o) r = o.receive ≡ r

-- slot i receives a message with this id
abbrev pub OpenIn : View → ℕ → ℕ → Inbound → Type 0
OpenIn v id i o = (v.role i ≡ receiving o) × (o.message.id ≡ id)

-- no two slots receive messages with one id
abbrev pub OneEach : View → Type 0
OneEach v = (id j k : ℕ) (o m : Inbound) → OpenIn v id j o → OpenIn v id k m → j ≡ k
