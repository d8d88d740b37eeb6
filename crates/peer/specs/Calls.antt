-- One peer's step: a call on the peer and its own map words (01's table of refusals: the order of each call's checks from 5 on).
use Rattle.std.specs.Prelude.{ℕ, ◌+◌, Bool, true, false, List, [], ◌∷◌, length, set, nat_le, nat_lt, Option, Some, None, Result, Ok, Err}
use Rattle.std.specs.List.{list_any}
use Rattle.laws.specs.Choose.{pick}
use Rattle.bitmap.specs.Map.{count_set, first_clear}
use Rattle.protocol.specs.Refusals.{bad_length, bad_slot, no_slot, overlaps, short_reply}
use Rattle.protocol.specs.Reading.{read_of}
use Rattle.protocol.specs.Values.{bytes_at}
use Rattle.protocol.specs.Types.{served_row}
use Rattle.peer.specs.declared.types.Receive.{Receive}
use Rattle.peer.specs.declared.types.Inbound.{Inbound}
use Rattle.peer.specs.declared.types.Phase.{Phase}
use Rattle.peer.specs.declared.types.Slot.{Slot}
use Rattle.peer.specs.declared.types.Peer.{Peer}
use Rattle.peer.specs.declared.types.Answer.{Answer}
use Rattle.peer.specs.Effects.{Effect, quiet, refuse, with_phase, carry}
use Rattle.peer.specs.Incomings.{incoming_of}
use Rattle.peer.specs.Judging.{judge}
use Rattle.peer.specs.Matching.{vacancy}
use Rattle.peer.specs.State.{slot_count, slot_with, phase_at, overlaps_use}
use Rattle.protocol.specs.declared.types.Packet.{Packet}
use Rattle.protocol.specs.declared.refusals.Refusal.{Refusal}

-- ---- a call

-- without the peer's number and without what a run hands on: of a packet its bytes, and of its reply buffer what `Reply` is
pub data CallWith (Reply : Type 0) : Type 0 where
  post : Receive → CallWith Reply
  packet : List ℕ → Reply → CallWith Reply
  cancel : ℕ → CallWith Reply
  report : ℕ → CallWith Reply

-- with the reply buffer as it is lent
abbrev pub LentCall : Type 0
LentCall = CallWith (List ℕ)

-- with its length, by which a step goes
abbrev pub Call : Type 0
Call = CallWith ℕ

-- "their kind, numbers, bytes lent to be read and lengths of buffers lent to be written"
abbrev pub call_of : LentCall → Call
call_of (post r) = post r
call_of (packet bs buffer) = packet bs (length buffer)
call_of (cancel i) = cancel i
call_of (report i) = report i

-- what is made of a post, and of a packet: `other` at each call else
abbrev pub on_post {ℓ} : {A : Type ℓ} {Reply : Type 0} → A → (Receive → A) → CallWith Reply → A
on_post other posting (post r) = posting r
on_post other posting (packet bs reply) = other
on_post other posting (cancel i) = other
on_post other posting (report i) = other

abbrev pub on_packet {ℓ} : {A : Type ℓ} {Reply : Type 0} → A → (List ℕ → Reply → A) → CallWith Reply → A
on_packet other arriving (post r) = other
on_packet other arriving (packet bs reply) = arriving bs reply
on_packet other arriving (cancel i) = other
on_packet other arriving (report i) = other

-- ---- post

abbrev pub overlaps_some : Receive → List Slot → Bool
overlaps_some r ss = list_any (λ (s : Slot). overlaps_use r s.phase) ss

abbrev pub is_posted : Phase → Bool
is_posted Phase.Free = false
is_posted (Phase.Posted r a) = true
is_posted (Phase.Open o) = false

-- how many posted receives there are
abbrev pub one_posted : Phase → ℕ
one_posted Phase.Free = 0
one_posted (Phase.Posted r a) = 1
one_posted (Phase.Open o) = 0

unfoldable pub count_posted : List Slot → ℕ
count_posted [] = 0
count_posted (s ∷ ss) = one_posted s.phase + count_posted ss

-- a posted receive that is older than age a
abbrev pub is_older : ℕ → Phase → Bool
is_older a Phase.Free = false
is_older a (Phase.Posted r b) = nat_lt b a
is_older a (Phase.Open o) = false

-- how many posted receives are older than age a
abbrev pub one_older : ℕ → Phase → ℕ
one_older a Phase.Free = 0
one_older a (Phase.Posted r b) = pick (nat_lt b a) 1 0
one_older a (Phase.Open o) = 0

unfoldable pub count_older : ℕ → List Slot → ℕ
count_older a [] = 0
count_older a (s ∷ ss) = one_older a s.phase + count_older a ss

-- "the order never runs out, however many posts came before": each age becomes the number of posted receives that are older, among `all`
abbrev pub renumbered_phase : List Slot → Phase → Phase
renumbered_phase all Phase.Free = Phase.Free
renumbered_phase all (Phase.Posted r a) = Phase.Posted r (count_older a all)
renumbered_phase all (Phase.Open o) = Phase.Open o

unfoldable pub renumbered : List Slot → List Slot → List Slot
renumbered all [] = []
renumbered all (s ∷ ss) = slot_with (renumbered_phase all s.phase) ∷ renumbered all ss

-- "A post takes the lowest free slot": the receive is the youngest there
unfoldable pub placed : Peer → Receive → ℕ → Peer
placed p r i =
    record { next = p.next; slots = set (renumbered p.slots p.slots) i (slot_with (Phase.Posted r (count_posted p.slots))) }

unfoldable pub placed_in : Peer → List ℕ → Receive → Option ℕ → Effect
placed_in p ws r None = refuse p ws no_slot
placed_in p ws r (Some i) = quiet (placed p r i) ws (Answer.Posted i)

-- "Post: .. 11, 19, 18"
unfoldable pub post_effect : ℕ → Peer → List ℕ → Receive → Effect
post_effect area p ws r =
    pick (nat_lt area (r.start + r.capacity)) (refuse p ws bad_length)
    (pick (overlaps_some r p.slots) (refuse p ws overlaps)
    (placed_in p ws r (vacancy 0 p.slots)))

-- ---- packet

-- a packet that was read is judged, and the verdict carried out
unfoldable pub read_effect : ℕ → Peer → List ℕ → List ℕ → Result Packet Refusal → Effect
read_effect limit p ws bs (Err k) = refuse p ws k
read_effect limit p ws bs (Ok q) = carry limit p ws (incoming_of q) (bytes_at bs q.«data») (judge p ws (incoming_of q))

-- "Packet order: .. 5, 6, then 7 if under 4 bytes, 8, 9, 10, 7, 11; then" the judgement's
unfoldable pub packet_effect : ℕ → Peer → List ℕ → List ℕ → ℕ → Effect
packet_effect limit p ws bs room =
    pick (nat_lt room 24) (refuse p ws short_reply) (read_effect limit p ws bs (read_of served_row limit bs))

-- ---- cancel and report

-- "Cancel frees a posted or open slot"
unfoldable pub cancel_slot : Peer → List ℕ → ℕ → Phase → Effect
cancel_slot p ws i Phase.Free = refuse p ws bad_slot
cancel_slot p ws i (Phase.Posted r a) = quiet (with_phase p i Phase.Free) ws (Answer.Cancelled i)
cancel_slot p ws i (Phase.Open o) = quiet (with_phase p i Phase.Free) ws (Answer.Cancelled i)

unfoldable pub cancel_effect : Peer → List ℕ → ℕ → Effect
cancel_effect p ws i = pick (nat_le slot_count i) (refuse p ws bad_slot) (cancel_slot p ws i (phase_at p.slots i))

-- "the received count, the set bits in the message's range, and the first missing offset"
abbrev pub missing_in : List ℕ → Inbound → Answer
missing_in ws o =
    Answer.Missing (count_set ws o.receive.start o.message.length) (first_clear ws o.receive.start o.message.length)

unfoldable pub report_slot : Peer → List ℕ → Phase → Effect
report_slot p ws Phase.Free = refuse p ws bad_slot
report_slot p ws (Phase.Posted r a) = refuse p ws bad_slot
report_slot p ws (Phase.Open o) = quiet p ws (missing_in ws o)

unfoldable pub report_effect : Peer → List ℕ → ℕ → Effect
report_effect p ws i = pick (nat_le slot_count i) (refuse p ws bad_slot) (report_slot p ws (phase_at p.slots i))

-- ---- the step

unfoldable pub peer_step : ℕ → ℕ → Peer → List ℕ → Call → Effect
peer_step area limit p ws (post r) = post_effect area p ws r
peer_step area limit p ws (packet bs room) = packet_effect limit p ws bs room
peer_step area limit p ws (cancel i) = cancel_effect p ws i
peer_step area limit p ws (report i) = report_effect p ws i
