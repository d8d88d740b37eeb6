-- What a call lends, and how a call of the code, which tells where its packet and its reply buffer lie, is read as one that has them.
use Rattle.std.specs.Prelude.{ℕ, ◌+◌, ◌≤◌, List, []}
use Rattle.laws.specs.Parts.{part}
use Rattle.protocol.specs.declared.types.Span.{Span}
use Rattle.peer.specs.Calls.{CallWith, LentCall, on_packet, post, packet, cancel, report}
use Rattle.peer.specs.declared.types.Call.{Call}
use Rattle.peer.specs.declared.types.LocalCall.{LocalCall}

abbrev pub buffer_of : LentCall → List ℕ
buffer_of c = on_packet [] (λ bs buffer. buffer) c

-- ---- a call of the code

-- it writes nothing of what is lent, and there is no packet and no reply buffer
abbrev pub local_call_of : {Reply : Type 0} → LocalCall → CallWith Reply
local_call_of (LocalCall.Post receive) = post receive
local_call_of (LocalCall.Cancel slot) = cancel slot
local_call_of (LocalCall.Report slot) = report slot

-- its packet lies in `bytes`, and its reply buffer in `replies`
abbrev pub lent_call_of : List ℕ → List ℕ → Call → LentCall
lent_call_of bytes replies (Call.Local c) = local_call_of c
lent_call_of bytes replies (Call.Packet sent reply) = packet (part bytes sent.at sent.size) (part replies reply.at reply.size)

-- what is made of a packet's place and its reply buffer's: `other` at each call else
abbrev pub on_packet_at {ℓ} : {A : Type ℓ} → A → (Span → Span → A) → Call → A
on_packet_at other arriving (Call.Local c) = other
on_packet_at other arriving (Call.Packet sent reply) = arriving sent reply

-- where its reply buffer begins
abbrev pub reply_place : Call → ℕ
reply_place c = on_packet_at 0 (λ sent reply. reply.at) c

-- packet and reply buffer end within so many bytes and so many reply bytes
abbrev pub LiesWithin : ℕ → ℕ → Call → Type 0
LiesWithin bytes replies c =
    on_packet_at (Unit {0}) (λ sent reply. (sent.at + sent.size ≤ bytes) × (reply.at + reply.size ≤ replies)) c
