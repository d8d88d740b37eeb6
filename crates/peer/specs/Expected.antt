-- What 01 demands of a call after a history: every refusal from 5 on, in its order, every other answer with its numbers, and what comes with it.
use Rattle.std.specs.Prelude.{ℕ, suc, ◌+◌, Bool, false, ◌&&◌, ◌||◌, List, [], ◌∷◌, nat_le, nat_lt, Option, Some, None, Result, Ok, Err}
use Rattle.laws.specs.Choose.{pick}
use Rattle.bitmap.specs.Offsets.{some_of, count_of, first_not}
use Rattle.protocol.specs.Cts.{cts_bytes}
use Rattle.protocol.specs.Refusals.{bad_length, bad_slot, beyond_grant, differs, early, late, no_receive, no_slot, overlaps, repeated, short_reply}
use Rattle.protocol.specs.declared.table.Shape.TheVariants.{Eager}
use Rattle.protocol.specs.declared.refusals.Refusal.{Refusal}
use Rattle.protocol.specs.Reading.{read_of}
use Rattle.protocol.specs.Values.{bytes_at}
use Rattle.protocol.specs.Types.{served_row}
use Rattle.peer.specs.declared.types.Receive.{Receive}
use Rattle.peer.specs.declared.types.Message.{Message}
use Rattle.peer.specs.declared.types.Inbound.{Inbound}
use Rattle.peer.specs.declared.types.Incoming.{Incoming}
use Rattle.peer.specs.declared.types.Answer.{Answer}
use Rattle.peer.specs.Answers.{on_done, on_granted}
use Rattle.peer.specs.Calls.{Call, cancel, on_packet, packet, post, report}
use Rattle.peer.specs.Coverage.{Segment, covers, all_of, bytes_from}
use Rattle.peer.specs.Effects.{opened, grant_of}
use Rattle.peer.specs.Incomings.{incoming_of, is_rtm, is_long}
use Rattle.peer.specs.Matching.{ahead, same_message}
use Rattle.peer.specs.Plain.{Plain, Role, Target, begun_at, enter_at, first_posted, idle, more_at, nowhere, open_in, receiving, roles, segment_of, slot_entry, waiting}
use Rattle.peer.specs.State.{slot_count, overlap}
use Rattle.protocol.specs.declared.types.Packet.{Packet}

-- ---- post: "11, 19, 18"

-- 19: "post overlaps a used range of this peer"
unfoldable pub any_overlap : Receive → List Role → Bool
any_overlap r [] = false
any_overlap r (idle ∷ us) = any_overlap r us
any_overlap r (waiting s ∷ us) = overlap r s || any_overlap r us
any_overlap r (receiving o ∷ us) = overlap r o.receive || any_overlap r us

-- "A post takes the lowest free slot"
unfoldable pub lowest_idle : ℕ → List Role → Option ℕ
lowest_idle i [] = None
lowest_idle i (idle ∷ us) = Some i
lowest_idle i (waiting r ∷ us) = lowest_idle (suc i) us
lowest_idle i (receiving o ∷ us) = lowest_idle (suc i) us

-- 18: "no free slot"
abbrev pub expect_place : Option ℕ → Answer
expect_place None = Answer.Refused no_slot
expect_place (Some i) = Answer.Posted i

unfoldable pub expect_post : ℕ → Plain → Receive → Answer
expect_post area l r =
    pick (nat_lt area (r.start + r.capacity)) (Answer.Refused bad_length)
    (pick (any_overlap r (roles l.entries)) (Answer.Refused overlaps)
    (expect_place (lowest_idle 0 (roles l.entries))))

-- ---- packet

-- a segment of the message o in slot i is accepted, which with it has the segments gs: done where "accepted segments have covered every
-- byte"; granted more if it is a long one "not done by its RTM, or whose granted bytes are all in while length remains"; else stored
unfoldable pub expect_taken : ℕ → ℕ → Inbound → List Segment → Answer
expect_taken limit i o gs =
    pick (all_of (covers gs) 0 o.message.length) (Answer.Done i o.message.id o.message.length o.message.cq_data)
    (pick (is_long o.message.shape && (all_of (covers gs) 0 o.message.granted && nat_lt o.message.granted o.message.length))
    (Answer.Granted (grant_of limit o.message))
    Answer.Stored)

-- what a packet comes to: the entry that its segment goes to, with the segment, and the answer
pub record Ruling : Type 0 where
  pub target : Target
  pub answer : Answer

-- refused: its segment goes nowhere
abbrev pub refusing : Refusal → Ruling
refusing k = record { target = nowhere; answer = Answer.Refused k }

-- accepted into the message o, whose entry is then that of t
abbrev pub accepting : ℕ → Inbound → Target → Ruling
accepting limit o t = record { target = t; answer = expect_taken limit t.index o t.entry.segments }

-- 16: "segment shares a byte with one already accepted"
unfoldable pub expect_more : ℕ → Plain → Incoming → List ℕ → ℕ → Inbound → Ruling
expect_more limit l h bytes i o =
    pick (some_of (covers (slot_entry l.entries i).segments) h.offset h.size) (refusing repeated)
    (accepting limit o (more_at l i (segment_of h bytes)))

-- "RTMs: if open, 14, 16"
unfoldable pub expect_again : ℕ → Plain → Incoming → List ℕ → ℕ → Inbound → Ruling
expect_again limit l h bytes i o = pick (same_message o.message h) (expect_more limit l h bytes i o) (refusing differs)

-- "CTSDATA: 15, 17, 16"
unfoldable pub expect_data : ℕ → Plain → Incoming → List ℕ → ℕ → Inbound → Ruling
expect_data limit l h bytes i o =
    pick (is_long o.message.shape)
    (pick (nat_lt o.message.granted (h.offset + h.size)) (refusing beyond_grant) (expect_more limit l h bytes i o))
    (refusing late)

-- "matches the oldest fitting receive"; "Length above capacity: answer truncated (slot, id, length)"
unfoldable pub expect_fit : ℕ → Incoming → List ℕ → Option (ℕ × Receive × ℕ) → Ruling
expect_fit limit h bytes None = refusing no_receive
expect_fit limit h bytes (Some (i, r, serial)) =
    let t : Target = begun_at h i r serial (segment_of h bytes) in
    pick (nat_lt r.capacity h.length) (record { target = t; answer = Answer.Truncated i h.id h.length })
    (accepting limit (opened r h) t)

-- "if not open, 15, 12, 13": "0 matches ..; 1 to 2^31−1 is early; above that, late"
unfoldable pub expect_new : ℕ → Plain → Incoming → List ℕ → Ruling
expect_new limit l h bytes =
    pick (nat_lt 2147483647 (ahead h.id l.next)) (refusing late)
    (pick (nat_lt 0 (ahead h.id l.next)) (refusing early)
    (expect_fit limit h bytes (first_posted h 0 None l.entries)))

unfoldable pub expect_found : ℕ → Plain → Incoming → List ℕ → Option (ℕ × Inbound) → Ruling
expect_found limit l h bytes (Some (i, o)) = pick (is_rtm h.shape) (expect_again limit l h bytes i o) (expect_data limit l h bytes i o)
expect_found limit l h bytes None = pick (is_rtm h.shape) (expect_new limit l h bytes) (refusing late)

-- the reader's refusals come first
unfoldable pub expect_read : ℕ → Plain → List ℕ → Result Packet Refusal → Ruling
expect_read limit l bs (Err k) = refusing k
expect_read limit l bs (Ok q) =
    expect_found limit l (incoming_of q) (bytes_at bs q.«data») (open_in (incoming_of q).id 0 (roles l.entries))

-- 5 before all: "reply buffer below 24 bytes"
unfoldable pub expect_packet : ℕ → Plain → List ℕ → ℕ → Ruling
expect_packet limit l bs room = pick (nat_lt room 24) (refusing short_reply) (expect_read limit l bs (read_of served_row limit bs))

-- ---- cancel and report: "20"

abbrev pub expect_cancel : ℕ → Role → Answer
expect_cancel i idle = Answer.Refused bad_slot
expect_cancel i (waiting r) = Answer.Cancelled i
expect_cancel i (receiving o) = Answer.Cancelled i

-- "the received count is the number of the message's bytes so far covered, and the first missing offset is the lowest not covered"
abbrev pub expect_report : List Segment → Role → Answer
expect_report gs idle = Answer.Refused bad_slot
expect_report gs (waiting r) = Answer.Refused bad_slot
expect_report gs (receiving o) = Answer.Missing (count_of (covers gs) 0 o.message.length) (first_not (covers gs) 0 o.message.length)

-- ---- the answer

unfoldable pub expected : ℕ → ℕ → Plain → Call → Answer
expected area limit l (post r) = expect_post area l r
expected area limit l (packet bs room) = (expect_packet limit l bs room).answer
expected area limit l (cancel i) = pick (nat_le slot_count i) (Answer.Refused bad_slot) (expect_cancel i (slot_entry l.entries i).role)
expected area limit l (report i) =
    pick (nat_le slot_count i) (Answer.Refused bad_slot) (expect_report (slot_entry l.entries i).segments (slot_entry l.entries i).role)

-- ---- what else a call yields

-- the entry that a packet's segment goes to, with the segment
unfoldable pub target_of_call : ℕ → Plain → Call → Target
target_of_call limit l c = on_packet nowhere (λ bs room. (expect_packet limit l bs room).target) c

-- the history goes on with a call and its answer
unfoldable pub enter : ℕ → Plain → Call → Answer → Plain
enter limit l c a = enter_at l c (target_of_call limit l c) a

-- where there is no message: no reply and no answer comes of it
abbrev pub no_message : Message
no_message =
    record {
      shape = Eager;
      tagged = false;
      id = 0;
      tag = 0;
      length = 0;
      granted = 0;
      send_id = 0;
      credit_request = 0;
      cq_data = None;
    }

abbrev pub message_of : Role → Message
message_of idle = no_message
message_of (waiting r) = no_message
message_of (receiving o) = o.message

-- the message that a packet's segment goes to
abbrev pub target_message : Target → Message
target_message t = message_of t.entry.role

-- "a CTS in the first 24 reply bytes" for the message, if the answer is granted; "no other answer touches the reply buffer"
abbrev pub expected_reply : Target → Answer → List ℕ
expected_reply t a = on_granted [] (λ n. cts_bytes (target_message t).send_id (target_message t).id n) a

-- the bytes of a message that is answered done, by its accepted segments
abbrev pub expected_bytes : List Segment → Answer → List ℕ
expected_bytes gs a = on_done [] (λ i id n cq. bytes_from gs 0 n) a

-- ---- one step

pub record PlainStep : Type 0 where
  pub answer : Answer
  pub after : Plain
  pub reply : List ℕ
  pub bytes : List ℕ

-- what 01 demands of a call after the history l
abbrev pub plain_step : ℕ → ℕ → Plain → Call → PlainStep
plain_step area limit l c =
    let a : Answer = expected area limit l c in
    let t : Target = target_of_call limit l c in
    record { answer = a; after = enter limit l c a; reply = expected_reply t a; bytes = expected_bytes t.entry.segments a }
