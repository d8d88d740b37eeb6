-- Which message a packet belongs to, and which receive it fits (01, "Matching").
use Rattle.std.specs.Prelude.{ℕ, suc, ◌+◌, ◌-◌, ◌%◌, Bool, true, false, not, ◌&&◌, List, [], ◌∷◌, ◌==◌, bit_or, nat_lt, Option, Some, None}
use Rattle.std.specs.List.{position_from}
use Rattle.laws.specs.Choose.{pick}
use Rattle.peer.specs.declared.types.Receive.{Receive}
use Rattle.peer.specs.declared.types.Inbound.{Inbound}
use Rattle.peer.specs.declared.types.Incoming.{Incoming}
use Rattle.peer.specs.declared.types.Message.{Message}
use Rattle.peer.specs.declared.types.Phase.{Phase}
use Rattle.peer.specs.declared.types.Slot.{Slot}
use Rattle.peer.specs.Incomings.{is_medium}
use Rattle.peer.specs.State.{is_free}

-- ---- the open message under an id

unfoldable pub open_here : ℕ → ℕ → Phase → Option (ℕ × Inbound)
open_here id i Phase.Free = None
open_here id i (Phase.Posted r a) = None
open_here id i (Phase.Open o) = pick (o.message.id == id) (Some (i, o)) None

abbrev pub or_else : Option (ℕ × Inbound) → Option (ℕ × Inbound) → Option (ℕ × Inbound)
or_else (Some (i, o)) f = Some (i, o)
or_else None f = f

-- among slots that are numbered from i on
unfoldable pub find_open : ℕ → ℕ → List Slot → Option (ℕ × Inbound)
find_open id i [] = None
find_open id i (s ∷ ss) = or_else (open_here id i s.phase) (find_open id (suc i) ss)

-- ---- the oldest receive that a packet fits

-- "every tag bit outside ignore is equal"
unfoldable pub same_outside : ℕ → ℕ → ℕ → Bool
same_outside ignore a b = bit_or a ignore == bit_or b ignore

-- "A receive fits an RTM of its kind; a tagged one if every tag bit outside ignore is equal."
unfoldable pub fits : Incoming → Receive → Bool
fits h r = pick h.tagged (r.tagged && same_outside r.ignore h.tag r.tag) (not r.tagged)

-- the older of the best so far and a receive in slot i
unfoldable pub older : Option (ℕ × Receive × ℕ) → ℕ → Receive → ℕ → Option (ℕ × Receive × ℕ)
older None i r a = Some (i, r, a)
older (Some (j, q, b)) i r a = pick (nat_lt a b) (Some (i, r, a)) (Some (j, q, b))

unfoldable pub older_here : Incoming → Option (ℕ × Receive × ℕ) → ℕ → Phase → Option (ℕ × Receive × ℕ)
older_here h best i Phase.Free = best
older_here h best i (Phase.Posted r a) = pick (fits h r) (older best i r a) best
older_here h best i (Phase.Open o) = best

-- "Oldest means posted first": among slots that are numbered from i on, with the best so far
unfoldable pub oldest : Incoming → ℕ → Option (ℕ × Receive × ℕ) → List Slot → Option (ℕ × Receive × ℕ)
oldest h i best [] = best
oldest h i best (s ∷ ss) = oldest h (suc i) (older_here h best i s.phase) ss

-- ---- the lowest free slot

-- among slots that are numbered from i on
abbrev pub vacancy : ℕ → List Slot → Option ℕ
vacancy i ss = position_from (λ (s : Slot). is_free s.phase) i ss

-- ---- numbers

-- "d = (id − next) mod 2^32"
unfoldable pub ahead : ℕ → ℕ → ℕ
ahead id next = (id + 4294967296 - next) % 4294967296

abbrev pub both_or_neither : Bool → Bool → Bool
both_or_neither true t = t
both_or_neither false t = not t

-- the types are medium and the same: both are tagged, or neither is
unfoldable pub same_medium : Message → Incoming → Bool
same_medium m h = is_medium h.shape && (is_medium m.shape && both_or_neither h.tagged m.tagged)

-- not "type, length or tag differs, or the type isn't medium"
unfoldable pub same_message : Message → Incoming → Bool
same_message m h = same_medium m h && (h.length == m.length && h.tag == m.tag)
