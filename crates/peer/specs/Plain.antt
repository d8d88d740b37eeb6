-- The plain receiver: what the history of one peer, its calls and the answers they got, says of its receives and messages.
-- No map, no ages, no arena.
use Rattle.std.specs.Prelude.{ℕ, suc, ◌+◌, ◌%◌, Bool, true, false, List, [], ◌∷◌, map, replicate, ◌==◌, slice_index_or, slice_set, Option, Some, None}
use Rattle.laws.specs.Choose.{pick}
use Rattle.peer.specs.declared.types.Receive.{Receive}
use Rattle.peer.specs.declared.types.Inbound.{Inbound}
use Rattle.peer.specs.declared.types.Incoming.{Incoming}
use Rattle.peer.specs.declared.types.Answer.{Answer}
use Rattle.peer.specs.Answers.{on_cancelled, on_posted, on_taken}
use Rattle.peer.specs.Calls.{Call, cancel, packet, post, report}
use Rattle.peer.specs.Coverage.{Segment}
use Rattle.peer.specs.Effects.{opened, extended}
use Rattle.peer.specs.Matching.{fits, older}
use Rattle.peer.specs.State.{slot_count}

-- what a slot number stands for
pub data Role : Type 0 where
  idle : Role
  waiting : Receive → Role
  receiving : Inbound → Role

-- the granted end of an open message moves on
abbrev pub extended_role : ℕ → Role → Role
extended_role n idle = idle
extended_role n (waiting r) = waiting r
extended_role n (receiving o) = receiving (extended n o)

-- the role of a slot; the number of posts before its receive's; of an open message its accepted segments, the latest first, the length of
-- its RTM's data, and the recv_length of every CTS written for it
pub record Entry : Type 0 where
  pub role : Role
  pub serial : ℕ
  pub segments : List Segment
  pub rtm : ℕ
  pub grants : List ℕ

pub record Plain : Type 0 where
  pub next : ℕ
  pub posts : ℕ
  pub entries : List Entry

abbrev pub no_entry : Entry
no_entry = record { role = idle; serial = 0; segments = []; rtm = 0; grants = [] }

abbrev pub fresh_plain : Plain
fresh_plain = record { next = 0; posts = 0; entries = replicate slot_count no_entry }

abbrev pub slot_entry : List Entry → ℕ → Entry
slot_entry es i = slice_index_or es i no_entry

abbrev pub roles : List Entry → List Role
roles es = map (λ (e : Entry). e.role) es

-- ---- the message that a packet belongs to

-- "An RTM whose id is open belongs to that message": the open message with this id, in roles that are numbered from i on
unfoldable pub open_in : ℕ → ℕ → List Role → Option (ℕ × Inbound)
open_in id i [] = None
open_in id i (idle ∷ us) = open_in id (suc i) us
open_in id i (waiting r ∷ us) = open_in id (suc i) us
open_in id i (receiving o ∷ us) = pick (o.message.id == id) (Some (i, o)) (open_in id (suc i) us)

-- "Oldest means posted first": of the receives that the packet fits the one with the fewest posts before it
unfoldable pub first_here : Incoming → Option (ℕ × Receive × ℕ) → ℕ → Role → ℕ → Option (ℕ × Receive × ℕ)
first_here h best i idle serial = best
first_here h best i (waiting r) serial = pick (fits h r) (older best i r serial) best
first_here h best i (receiving o) serial = best

unfoldable pub first_posted : Incoming → ℕ → Option (ℕ × Receive × ℕ) → List Entry → Option (ℕ × Receive × ℕ)
first_posted h i best [] = best
first_posted h i best (e ∷ es) = first_posted h (suc i) (first_here h best i e.role e.serial) es

-- the entry that a packet's segment goes to, as it is with the segment; whether the packet is matched to it now, or was before
pub record Target : Type 0 where
  pub index : ℕ
  pub entry : Entry
  pub matched : Bool

abbrev pub segment_of : Incoming → List ℕ → Segment
segment_of h bytes = record { offset = h.offset; bytes = bytes }

-- one segment more of an open message
abbrev pub grown : Entry → Segment → Entry
grown e g = record { role = e.role; serial = e.serial; segments = g ∷ e.segments; rtm = e.rtm; grants = e.grants }

-- a receive matched with its first segment
abbrev pub begun_entry : Receive → ℕ → Incoming → Segment → Entry
begun_entry r serial h g = record { role = receiving (opened r h); serial = serial; segments = g ∷ []; rtm = h.size; grants = [] }

abbrev pub nowhere : Target
nowhere = record { index = 0; entry = no_entry; matched = false }

-- one segment more of the message in entry i
abbrev pub more_at : Plain → ℕ → Segment → Target
more_at l i g = record { index = i; entry = grown (slot_entry l.entries i) g; matched = false }

-- the first segment of the message that begins in the receive of entry i
abbrev pub begun_at : Incoming → ℕ → Receive → ℕ → Segment → Target
begun_at h i r serial g = record { index = i; entry = begun_entry r serial h g; matched = true }

-- ---- the history goes on

abbrev pub put : Plain → ℕ → Entry → Plain
put l i e = record { next = l.next; posts = l.posts; entries = slice_set l.entries i e }

-- one receive more
abbrev pub posted : Plain → ℕ → Receive → Plain
posted l i r =
    record {
      next = l.next;
      posts = l.posts + 1;
      entries = slice_set l.entries i (record { role = waiting r; serial = l.posts; segments = []; rtm = 0; grants = [] });
    }

-- "moves next on by one mod 2^32" at a match
abbrev pub next_after : Plain → Target → ℕ
next_after l t = pick t.matched ((l.next + 1) % 4294967296) l.next

abbrev pub settle : Plain → Target → Entry → Plain
settle l t e = record { next = next_after l t; posts = l.posts; entries = slice_set l.entries t.index e }

-- a CTS for n bytes more
abbrev pub granted_entry : ℕ → Entry → Entry
granted_entry n e =
    record { role = extended_role n e.role; serial = e.serial; segments = e.segments; rtm = e.rtm; grants = n ∷ e.grants }

-- a call with its answer is entered; t is where the segment of its packet goes
abbrev pub enter_at : Plain → Call → Target → Answer → Plain
enter_at l (post r) t a = on_posted l (λ i. posted l i r) a
enter_at l (packet bs room) t a =
    on_taken l (settle l t t.entry) (λ n. settle l t (granted_entry n t.entry)) (λ i id n cq. settle l t no_entry)
    (λ i id n. settle l t no_entry) a
enter_at l (cancel i) t a = on_cancelled l (λ j. put l j no_entry) a
enter_at l (report i) t a = l
