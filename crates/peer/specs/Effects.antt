-- What a call leaves: the peer, its map words, the answer, the reply packet, and which bytes are put where into its area. No area byte is read.
use Rattle.std.specs.Prelude.{ℕ, ◌+◌, ◌-◌, ◌*◌, ◌%◌, min, max, List, [], length, ◌==◌, nat_le, slice_set}
use Rattle.laws.specs.Choose.{pick}
use Rattle.bitmap.specs.Map.{marked, cleared, first_clear}
use Rattle.protocol.specs.declared.refusals.Refusal.{Refusal}
use Rattle.protocol.specs.Cts.{cts_bytes}
use Rattle.peer.specs.declared.types.Receive.{Receive}
use Rattle.peer.specs.declared.types.Message.{Message}
use Rattle.peer.specs.declared.types.Inbound.{Inbound}
use Rattle.peer.specs.declared.types.Incoming.{Incoming}
use Rattle.peer.specs.declared.types.Phase.{Phase}
use Rattle.peer.specs.declared.types.Peer.{Peer}
use Rattle.peer.specs.declared.types.Progress.{Progress}
use Rattle.peer.specs.declared.types.Verdict.{Verdict}
use Rattle.peer.specs.declared.types.Answer.{Answer}
use Rattle.peer.specs.Incomings.{is_long}
use Rattle.peer.specs.State.{slot_with}

pub record Effect : Type 0 where
  pub peer : Peer
  pub words : List ℕ
  pub answer : Answer
  pub reply : List ℕ
  pub at : ℕ
  pub bytes : List ℕ

-- nothing but the peer changes
abbrev pub quiet : Peer → List ℕ → Answer → Effect
quiet p ws a = record { peer = p; words = ws; answer = a; reply = []; at = 0; bytes = [] }

abbrev pub refuse : Peer → List ℕ → Refusal → Effect
refuse p ws k = quiet p ws (Answer.Refused k)

-- ---- the peer, changed

abbrev pub with_phase : Peer → ℕ → Phase → Peer
with_phase p i f = record { next = p.next; slots = slice_set p.slots i (slot_with f) }

-- "moves next on by one mod 2^32"
abbrev pub advance : Peer → Peer
advance p = record { next = (p.next + 1) % 4294967296; slots = p.slots }

-- the message that a packet begins in a receive; CTSDATA may not reach beyond "the RTM's data plus all grants"
abbrev pub opened : Receive → Incoming → Inbound
opened r h =
    record {
      receive = r;
      message = record {
        shape = h.shape;
        tagged = h.tagged;
        id = h.id;
        tag = h.tag;
        length = h.length;
        granted = h.size;
        send_id = h.send_id;
        credit_request = h.credit_request;
        cq_data = h.cq_data;
      };
    }

-- ---- a segment is in; the words have its bits

-- done where the first missing byte is the length; more is due where it is the granted end of a long message or beyond
unfoldable pub progress_of : List ℕ → Inbound → Progress
progress_of ws o =
    pick (first_clear ws o.receive.start o.message.length == o.message.length) Progress.Whole
    (pick (is_long o.message.shape)
    (pick (nat_le o.message.granted (first_clear ws o.receive.start o.message.length)) Progress.Due Progress.Partial)
    Progress.Partial)

-- "recv_length = min(length left ungranted, min(max(credit_request, 1), 16) × (L − 32))"
unfoldable pub grant_of : ℕ → Message → ℕ
grant_of limit m = min (m.length - m.granted) (min (max m.credit_request 1) 16 * (limit - 32))

-- the granted end moves on
abbrev pub extended : ℕ → Inbound → Inbound
extended n o =
    record {
      receive = o.receive;
      message = record {
        shape = o.message.shape;
        tagged = o.message.tagged;
        id = o.message.id;
        tag = o.message.tag;
        length = o.message.length;
        granted = o.message.granted + n;
        send_id = o.message.send_id;
        credit_request = o.message.credit_request;
        cq_data = o.message.cq_data;
      };
    }

-- what a segment makes of its message: the phase of its slot, the answer and the reply packet
pub record Settled : Type 0 where
  pub phase : Phase
  pub answer : Answer
  pub reply : List ℕ

-- "Done frees the slot and leaves the bits"
abbrev pub finished : ℕ → Inbound → Settled
finished i o =
    record { phase = Phase.Free; answer = Answer.Done i o.message.id o.message.length o.message.cq_data; reply = [] }

-- "gets a CTS in the first 24 reply bytes .. and answers granted"; "recv_id is the message's id"
abbrev pub granting : ℕ → Inbound → Settled
granting limit o =
    record {
      phase = Phase.Open (extended (grant_of limit o.message) o);
      answer = Answer.Granted (grant_of limit o.message);
      reply = cts_bytes o.message.send_id o.message.id (grant_of limit o.message);
    }

abbrev pub holding : Inbound → Settled
holding o = record { phase = Phase.Open o; answer = Answer.Stored; reply = [] }

-- of the message in slot i
unfoldable pub settled_as : ℕ → ℕ → Inbound → Progress → Settled
settled_as limit i o Progress.Whole = finished i o
settled_as limit i o Progress.Due = granting limit o
settled_as limit i o Progress.Partial = holding o

-- ---- a verdict is carried out

-- what an accepted segment leaves
pub record SegmentEffect : Type 0 where
  pub settled : Settled
  pub words : List ℕ
  pub at : ℕ
  pub bytes : List ℕ

-- the segment's bytes go to its own range of its own buffer, and its bits are set
unfoldable pub accept : ℕ → List ℕ → ℕ → Inbound → ℕ → List ℕ → SegmentEffect
accept limit ws i o offset bytes =
    let now : List ℕ = marked ws (o.receive.start + offset) (length bytes) in
    record { settled = settled_as limit i o (progress_of now o); words = now; at = o.receive.start + offset; bytes = bytes }

-- "A match whose length fits clears the map bits of the receive's whole range, then stores the segment."
unfoldable pub begun : ℕ → List ℕ → ℕ → Receive → Incoming → List ℕ → SegmentEffect
begun limit ws i r h bytes = accept limit (cleared ws r.start r.capacity) i (opened r h) h.offset bytes

-- the peer is put together: slot i is used as the segment leaves it
abbrev pub in_slot : Peer → ℕ → SegmentEffect → Effect
in_slot p i s =
    record {
      peer = with_phase p i s.settled.phase;
      words = s.words;
      answer = s.settled.answer;
      reply = s.settled.reply;
      at = s.at;
      bytes = s.bytes;
    }

-- "answer truncated (slot, id, length), slot freed, no arena byte or map bit changed"
unfoldable pub truncated_at : Peer → List ℕ → ℕ → Incoming → Effect
truncated_at p ws i h = quiet (with_phase (advance p) i Phase.Free) ws (Answer.Truncated i h.id h.length)

unfoldable pub carry : ℕ → Peer → List ℕ → Incoming → List ℕ → Verdict → Effect
carry limit p ws h bytes (Verdict.Refuse k) = refuse p ws k
carry limit p ws h bytes (Verdict.Truncate i) = truncated_at p ws i h
carry limit p ws h bytes (Verdict.Begin i r) = in_slot (advance p) i (begun limit ws i r h bytes)
carry limit p ws h bytes (Verdict.More i o) = in_slot p i (accept limit ws i o h.offset bytes)
