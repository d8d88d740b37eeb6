-- Slots and their phases, and which states can be.
use Rattle.std.specs.Prelude.{ℕ, ◌+◌, min, max, Bool, true, false, not, ◌&&◌, ◌||◌, List, [], ◌∷◌, replicate, ◌==◌, nat_le, nat_lt, slice_index_or}
use Rattle.std.specs.List.{list_all}
use Rattle.peer.specs.declared.types.Receive.{Receive}
use Rattle.peer.specs.declared.types.Phase.{Phase}
use Rattle.peer.specs.declared.types.Slot.{Slot}
use Rattle.peer.specs.declared.types.Peer.{Peer}

-- "eight free slots"
abbrev pub slot_count : ℕ
slot_count = 8

-- "area A, a multiple of 64 from 64 to 8,192"
abbrev pub area_limit : ℕ
area_limit = 8192

abbrev pub slot_with : Phase → Slot
slot_with f = record { phase = f }

abbrev pub free_slot : Slot
free_slot = slot_with Phase.Free

-- "A peer starts with next id 0 and eight free slots, by one fresh value"
unfoldable pub fresh_peer : Peer
fresh_peer = record { next = 0; slots = replicate slot_count free_slot }

abbrev pub phase_at : List Slot → ℕ → Phase
phase_at ss i = (slice_index_or ss i free_slot).phase

abbrev pub is_free : Phase → Bool
is_free Phase.Free = true
is_free (Phase.Posted r a) = false
is_free (Phase.Open o) = false

-- ---- ranges

-- two ranges share a byte; an empty range shares none ("empty ranges overlap nothing")
unfoldable pub overlap : Receive → Receive → Bool
overlap r s = nat_lt (max r.start s.start) (min (r.start + r.capacity) (s.start + s.capacity))

-- a used range, "of a posted or open slot", that the range of r overlaps
unfoldable pub overlaps_use : Receive → Phase → Bool
overlaps_use r Phase.Free = false
overlaps_use r (Phase.Posted s a) = overlap r s
overlaps_use r (Phase.Open o) = overlap r o.receive

-- ---- refusal 2, of one peer

-- a slot by itself: no "used range outside its area", no "open length above capacity", no "granted end above length"
unfoldable pub phase_fits : ℕ → Phase → Bool
phase_fits area Phase.Free = true
phase_fits area (Phase.Posted r a) = nat_le (r.start + r.capacity) area
phase_fits area (Phase.Open o) =
    nat_le (o.receive.start + o.receive.capacity) area
    && (nat_le o.message.length o.receive.capacity && nat_le o.message.granted o.message.length)

-- two slots that cannot stand together: "two overlapping used ranges, two open messages with one id, two posted receives of one age"
unfoldable pub clash : Phase → Phase → Bool
clash Phase.Free g = false
clash (Phase.Posted r a) Phase.Free = false
clash (Phase.Posted r a) (Phase.Posted s b) = overlap r s || a == b
clash (Phase.Posted r a) (Phase.Open q) = overlap r q.receive
clash (Phase.Open o) Phase.Free = false
clash (Phase.Open o) (Phase.Posted s b) = overlap o.receive s
clash (Phase.Open o) (Phase.Open q) = overlap o.receive q.receive || o.message.id == q.message.id

abbrev pub all_fit : ℕ → List Slot → Bool
all_fit area ss = list_all (λ (s : Slot). phase_fits area s.phase) ss

abbrev pub none_clash : Phase → List Slot → Bool
none_clash f ss = list_all (λ (s : Slot). not (clash f s.phase)) ss

unfoldable pub pairs_apart : List Slot → Bool
pairs_apart [] = true
pairs_apart (s ∷ ss) = none_clash s.phase ss && pairs_apart ss

unfoldable pub peer_fits : ℕ → Peer → Bool
peer_fits area p = all_fit area p.slots && pairs_apart p.slots
