-- What is to be done with a packet: all its tests after the reader's, in 01's order. The arena is not read.
use Rattle.std.specs.Prelude.{ℕ, ◌+◌, List, nat_le, nat_lt, Option, Some, None}
use Rattle.laws.specs.Choose.{pick}
use Rattle.bitmap.specs.Map.{touched}
use Rattle.protocol.specs.Refusals.{beyond_grant, differs, early, late, no_receive, repeated}
use Rattle.peer.specs.declared.types.Inbound.{Inbound}
use Rattle.peer.specs.declared.types.Receive.{Receive}
use Rattle.peer.specs.declared.types.Incoming.{Incoming}
use Rattle.peer.specs.declared.types.Peer.{Peer}
use Rattle.peer.specs.declared.types.Verdict.{Verdict}
use Rattle.peer.specs.Incomings.{is_rtm, is_long}
use Rattle.peer.specs.Matching.{find_open, oldest, ahead, same_message}

-- refusal 16: a byte of the segment is marked already
unfoldable pub judge_more : List ℕ → ℕ → Inbound → Incoming → Verdict
judge_more ws i o h = pick (touched ws (o.receive.start + h.offset) h.size) (Verdict.Refuse repeated) (Verdict.More i o)

-- "RTMs: if open, 14, 16"
unfoldable pub judge_again : List ℕ → ℕ → Inbound → Incoming → Verdict
judge_again ws i o h = pick (same_message o.message h) (judge_more ws i o h) (Verdict.Refuse differs)

-- "CTSDATA: 15, 17, 16"
unfoldable pub judge_data : List ℕ → ℕ → Inbound → Incoming → Verdict
judge_data ws i o h =
    pick (is_long o.message.shape)
    (pick (nat_le (h.offset + h.size) o.message.granted) (judge_more ws i o h) (Verdict.Refuse beyond_grant))
    (Verdict.Refuse late)

-- refusal 13, or the match: "Length above capacity: answer truncated"
unfoldable pub judge_fit : Incoming → Option (ℕ × Receive × ℕ) → Verdict
judge_fit h None = Verdict.Refuse no_receive
judge_fit h (Some (i, r, a)) = pick (nat_lt r.capacity h.length) (Verdict.Truncate i) (Verdict.Begin i r)

-- "if not open, 15, 12, 13": "0 matches the oldest fitting receive ..; 1 to 2^31−1 is early; above that, late"
unfoldable pub judge_new : Peer → Incoming → Verdict
judge_new p h =
    pick (nat_le 2147483648 (ahead h.id p.next)) (Verdict.Refuse late)
    (pick (nat_le 1 (ahead h.id p.next)) (Verdict.Refuse early)
    (judge_fit h (oldest h 0 None p.slots)))

-- "An RTM whose id is open belongs to that message"
unfoldable pub judge_found : Peer → List ℕ → Incoming → Option (ℕ × Inbound) → Verdict
judge_found p ws h (Some (i, o)) = pick (is_rtm h.shape) (judge_again ws i o h) (judge_data ws i o h)
judge_found p ws h None = pick (is_rtm h.shape) (judge_new p h) (Verdict.Refuse late)

unfoldable pub judge : Peer → List ℕ → Incoming → Verdict
judge p ws h = judge_found p ws h (find_open h.id 0 p.slots)
