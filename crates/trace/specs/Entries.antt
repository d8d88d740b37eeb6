-- The entries of a trace (01, "Replay": "The trace is n, A, L, then entries: 1 post (peer, kind 0 plain or 1 tagged, tag, ignore, start,
-- capacity); 2 packet (peer, byte count, bytes); 3 cancel (peer, slot)").
use Rattle.std.specs.Prelude.{ℕ, ◌+◌, List, Option, None, Some, length, leb, eqb}
use Rattle.laws.specs.Choose.{pick}
use Rattle.protocol.specs.declared.types.Span.{Span}
use Rattle.peer.specs.declared.types.Call.{Call}
use Rattle.peer.specs.declared.types.LocalCall.{LocalCall}
use Rattle.peer.specs.declared.types.Receive.{Receive}
use Rattle.peer.specs.declared.types.Request.{Request}
use Rattle.trace.specs.declared.types.SetUp.{SetUp}
use Rattle.trace.specs.Numbers.{number_at}

-- a number is read, and the rest with it and the place behind it; a malformed one makes the whole bad
abbrev pub on_number : {A : Type 0} → Option (ℕ × ℕ) → A → (ℕ → ℕ → A) → A
on_number None bad f = bad
on_number (Some (v, next)) bad f = f v next

-- two numbers
unfoldable pub pair_at : List ℕ → ℕ → Option (ℕ × ℕ × ℕ)
pair_at s at = on_number (number_at s at) None (λ a next. on_number (number_at s next) None (λ b end. Some (a, b, end)))

abbrev pub on_pair : {A : Type 0} → Option (ℕ × ℕ × ℕ) → A → (ℕ → ℕ → ℕ → A) → A
on_pair None bad f = bad
on_pair (Some (a, b, next)) bad f = f a b next

-- a set-up by its numbers, with the place behind it
abbrev pub set_up_is : ℕ → ℕ → ℕ → ℕ → Option (SetUp × ℕ)
set_up_is n area limit next = Some (record { n = n; area = area; limit = limit }, next)

-- "n, A, L"
unfoldable pub set_up_at : List ℕ → ℕ → Option (SetUp × ℕ)
set_up_at s at = on_pair (pair_at s at) None (λ n area next. on_number (number_at s next) None (λ limit end. set_up_is n area limit end))

-- "tag, ignore, start, capacity" of a receive of a kind, 0 or 1
unfoldable pub receive_at : List ℕ → ℕ → ℕ → Option (Receive × ℕ)
receive_at s at kind =
    on_pair (pair_at s at) None (λ tag ignore next.
    on_pair (pair_at s next) None (λ start capacity end.
    Some (record { tagged = eqb kind 1; tag = tag; ignore = ignore; start = start; capacity = capacity }, end)))

-- an entry is a call of a peer, with the place behind it
abbrev pub entry_of : ℕ → Call → ℕ → Option (Request × ℕ)
entry_of peer call next = Some (record { peer = peer; call = call }, next)

abbrev pub post_of : ℕ → Option (Receive × ℕ) → Option (Request × ℕ)
post_of peer None = None
post_of peer (Some (receive, next)) = entry_of peer (Call.Local (LocalCall.Post receive)) next

-- "1 post (peer, kind 0 plain or 1 tagged, ..)"
unfoldable pub post_at : List ℕ → ℕ → Option (Request × ℕ)
post_at s at = on_pair (pair_at s at) None (λ peer kind next. pick (leb kind 1) (post_of peer (receive_at s next kind)) None)

-- a trace has no reply buffer: whoever makes the call lends one
abbrev pub no_buffer : Span
no_buffer = record { at = 0; size = 0 }

-- "2 packet (peer, byte count, bytes)": where its bytes stand, and how many
unfoldable pub packet_at : List ℕ → ℕ → Option (Request × ℕ)
packet_at s at =
    on_pair (pair_at s at) None (λ peer count next.
    pick (leb (next + count) (length s)) (entry_of peer (Call.Packet (record { at = next; size = count }) no_buffer) (next + count)) None)

-- "3 cancel (peer, slot)"
unfoldable pub cancel_at : List ℕ → ℕ → Option (Request × ℕ)
cancel_at s at = on_pair (pair_at s at) None (λ peer slot next. entry_of peer (Call.Local (LocalCall.Cancel slot)) next)

-- the entry at a place and the place behind it, or bad: "a first number not 1 to 3, a kind not 0 or 1, a malformed number, bytes that
-- end early"
unfoldable pub entry_at : List ℕ → ℕ → Option (Request × ℕ)
entry_at s at =
    on_number (number_at s at) None (λ first next.
    pick (eqb first 1) (post_at s next) (pick (eqb first 2) (packet_at s next) (pick (eqb first 3) (cancel_at s next) None)))
