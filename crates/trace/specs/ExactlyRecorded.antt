-- A set-up and an entry are read exactly where they are recorded, and everything else is bad (01, "Replay": "Bad: a first number not 1 to
-- 3, a kind not 0 or 1, a malformed number, bytes that end early").
use Rattle.std.specs.Prelude.{ℕ, ◌+◌, ◌≤◌, ◌<◌, List, ◌≡◌, None, Some, length, get_or}
use Rattle.laws.specs.Parts.{part}
use Rattle.peer.specs.declared.types.Call.{Call}
use Rattle.peer.specs.declared.types.LocalCall.{LocalCall}
use Rattle.peer.specs.declared.types.Request.{Request}
use Rattle.trace.specs.Entries.{set_up_at, set_up_is, entry_at, no_buffer}
use Rattle.trace.specs.Recorded.{set_up_bytes, post_entry, packet_entry, cancel_entry}
use Rattle.trace.specs.ShortestForm.{IsWord}

-- ---- where they stand

-- these bytes stand in s from `at` up to `next`
pub record Stands (s : List ℕ) (at : ℕ) (bytes : List ℕ) (next : ℕ) : Type 0 where
  pub place : next ≡ at + length bytes
  pub inside : next ≤ length s
  pub there : part s at (length bytes) ≡ bytes

abbrev pub SetUpStands : List ℕ → ℕ → ℕ → ℕ → ℕ → ℕ → Type 0
SetUpStands s at n area limit next = IsWord n × IsWord area × IsWord limit × Stands s at (set_up_bytes n area limit) next

-- a packet's bytes end where it does, and no reply buffer is recorded with it; a report is not recorded
abbrev pub CallStands : List ℕ → ℕ → ℕ → Call → ℕ → Type 0
CallStands s at peer (Call.Local (LocalCall.Post r)) next =
    IsWord peer × IsWord r.tag × IsWord r.ignore × IsWord r.start × IsWord r.capacity × Stands s at (post_entry peer r) next
CallStands s at peer (Call.Packet sent reply) next =
    IsWord peer × IsWord sent.size × (sent.at + sent.size ≡ next) × (reply ≡ no_buffer)
    × Stands s at (packet_entry peer (part s sent.at sent.size)) next
CallStands s at peer (Call.Local (LocalCall.Cancel slot)) next = IsWord peer × IsWord slot × Stands s at (cancel_entry peer slot) next
CallStands s at peer (Call.Local (LocalCall.Report slot)) next = ⊥

abbrev pub EntryStands : List ℕ → ℕ → Request → ℕ → Type 0
EntryStands s at q next = CallStands s at q.peer q.call next

-- ---- what is read was recorded

abbrev pub SetUpOnlyAsRecorded : Type 0
SetUpOnlyAsRecorded =
    (s : List ℕ) (at n area limit next : ℕ) → ((i : ℕ) → get_or s i 0 < 256)
    → set_up_at s at ≡ set_up_is n area limit next → SetUpStands s at n area limit next

abbrev pub EntryOnlyAsRecorded : Type 0
EntryOnlyAsRecorded =
    (s : List ℕ) (at : ℕ) (q : Request) (next : ℕ) → ((i : ℕ) → get_or s i 0 < 256)
    → entry_at s at ≡ Some (q, next) → EntryStands s at q next

-- ---- what was recorded is read

abbrev pub SetUpReadBack : Type 0
SetUpReadBack = (s : List ℕ) (at n area limit next : ℕ) → SetUpStands s at n area limit next → set_up_at s at ≡ set_up_is n area limit next

abbrev pub EntryReadBack : Type 0
EntryReadBack = (s : List ℕ) (at : ℕ) (q : Request) (next : ℕ) → EntryStands s at q next → entry_at s at ≡ Some (q, next)

-- so no entry stands where one is bad
abbrev pub BadIfNothingRecorded : Type 0
BadIfNothingRecorded = (s : List ℕ) (at : ℕ) → entry_at s at ≡ None → (q : Request) (next : ℕ) → EntryStands s at q next → ⊥
