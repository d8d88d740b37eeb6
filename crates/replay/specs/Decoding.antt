-- The calls that a trace records (01, "Replay": "Replay takes at most a given number of entries").
use Rattle.std.specs.Prelude.{ℕ, zero, suc, List, [], ◌∷◌, Option, None, Some, length, leb}
use Rattle.laws.specs.Choose.{pick}
use Rattle.peer.specs.LentCalls.{on_packet_at}
use Rattle.peer.specs.declared.types.Call.{Call}
use Rattle.peer.specs.declared.types.Request.{Request}
use Rattle.trace.specs.Entries.{entry_at}
use Rattle.replay.specs.declared.types.Ending.{Ending}

-- the whole reply buffer, of so many bytes, is lent to each packet
abbrev pub with_buffer : ℕ → Call → Call
with_buffer room c = on_packet_at c (λ sent reply. Call.Packet sent (record { at = 0; size = room })) c

-- an entry as a request
abbrev pub lent_buffer : ℕ → Request → Request
lent_buffer room q = record { peer = q.peer; call = with_buffer room q.call }

-- calls, and why no more follow
pub record Decoded : Type 0 where
  pub calls : List Request
  pub ending : Ending

abbrev pub no_more : Ending → Decoded
no_more e = record { calls = []; ending = e }

abbrev pub with_first : Request → Decoded → Decoded
with_first q d = record { calls = q ∷ d.calls; ending = d.ending }

abbrev pub on_found_entry : {A : Type 0} → Option (Request × ℕ) → A → (Request → ℕ → A) → A
on_found_entry None bad f = bad
on_found_entry (Some (q, next)) bad f = f q next

-- whether the trace of n bytes is at its end, or bytes remain
abbrev pub ending_at : ℕ → ℕ → Ending
ending_at at n = pick (leb n at) Ending.End Ending.Stopped

-- at most k entries from `at` on: "`end E` .., `stopped 4096` if bytes remain, or `bad trace at B`, B where the bad entry starts"
unfoldable pub decode : ℕ → List ℕ → List ℕ → ℕ → Decoded
decode zero s buffer at = no_more (ending_at at (length s))
decode (suc k) s buffer at =
    pick (leb (length s) at) (no_more Ending.End)
    (on_found_entry (entry_at s at) (no_more (Ending.Bad at)) (λ q next. with_first (lent_buffer (length buffer) q) (decode k s buffer next)))
