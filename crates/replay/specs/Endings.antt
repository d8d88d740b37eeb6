-- How a replay ends (01, "Replay": "last `end E` (E taken, refused entries too), `stopped 4096` if bytes remain, or `bad trace at B`, B where
-- the bad entry starts (0 for the first three numbers)"): by the entries that stand in the trace, not by how they are read.
use Rattle.std.specs.Prelude.{ℕ, ◌+◌, ◌*◌, ◌/◌, ◌≤◌, ◌<◌, List, [], ◌∷◌, map, ◌≡◌, length, get_or, Ok, Err}
use Rattle.laws.specs.Parts.{part}
use Rattle.peer.specs.declared.types.Request.{Request}
use Rattle.engine.specs.SetUp.{Ready}
use Rattle.engine.specs.SetUp.{set_up}
use Rattle.trace.specs.ExactlyRecorded.{SetUpStands, EntryStands}
use Rattle.replay.specs.declared.types.Ending.{Ending}
use Rattle.replay.specs.declared.types.Replayed.{Replayed}
use Rattle.replay.specs.Decoding.{decode, lent_buffer}
use Rattle.replay.specs.Replaying.{lent_of, replay_of}

-- ---- entries

-- they stand in s one behind the other, from `at` up to `place`
abbrev pub EntriesStand : List ℕ → ℕ → List Request → ℕ → Type 0
EntriesStand s at [] place = at ≡ place
EntriesStand s at (e ∷ es) place = (next : ℕ) × EntryStands s at e next × EntriesStand s next es place

-- what an ending says, where n entries were taken of at most k, and `place` is behind them
abbrev pub EndsAs : List ℕ → ℕ → ℕ → ℕ → Ending → Type 0
EndsAs s k n place Ending.End = place ≡ length s
EndsAs s k n place Ending.Stopped = (n ≡ k) × (place < length s)
EndsAs s k n place (Ending.Bad b) =
    (b ≡ place) × (place < length s) × (n < k) × ((e : Request) (next : ℕ) → EntryStands s place e next → ⊥)
EndsAs s k n place (Ending.NotSetUp r) = ⊥
EndsAs s k n place Ending.NoRoom = ⊥

-- these entries are taken of s from `at` on, "at most a given number"
pub record Taken (s : List ℕ) (k at : ℕ) (entries : List Request) (ending : Ending) : Type 0 where
  pub place : ℕ
  pub stand : EntriesStand s at entries place
  pub few : length entries ≤ k
  pub ends : EndsAs s k (length entries) place ending

-- the calls are those of the entries, in order, each packet with the whole reply buffer
abbrev pub DecodesWhatStands : Type 0
DecodesWhatStands =
    (k : ℕ) (s buffer : List ℕ) (at : ℕ) → ((i : ℕ) → get_or s i 0 < 256) → at ≤ length s
    → (entries : List Request) × ((decode k s buffer at).calls ≡ map (lent_buffer (length buffer)) entries)
    × Taken s k at entries (decode k s buffer at).ending

-- ---- the whole

-- what set-up answers, lent as much of arena and map as its numbers ask for
abbrev pub set_up_answer : ℕ → ℕ → ℕ → List ℕ → List ℕ → Ready
set_up_answer n area limit arena words =
    (set_up n area limit (length (part arena 0 (lent_of n area (length arena)))) (part words 0 (lent_of n (area / 64) (length words)))
    ).started.answer

-- "`setup ok` or `setup 1` (then stops)"
abbrev pub EndsAfter : List ℕ → ℕ → ℕ → Ready → Replayed → Type 0
EndsAfter s budget next (Err k) r = (r.taken ≡ 0) × (r.ending ≡ Ending.NotSetUp k)
EndsAfter s budget next (Ok tt) r = (entries : List Request) × (r.taken ≡ length entries) × Taken s budget next entries r.ending

abbrev pub ReplayEndsAsSaid : Type 0
ReplayEndsAsSaid =
    (s : List ℕ) (budget : ℕ) (arena words reply text : List ℕ)
    → ((i : ℕ) → get_or s i 0 < 256) → 64 + 80 * budget ≤ length text
    → let r = (replay_of s budget arena words reply text).replayed in
    (((n area limit next : ℕ) → SetUpStands s 0 n area limit next → ⊥) → (r.taken ≡ 0) × (r.ending ≡ Ending.Bad 0))
    × ((n area limit next : ℕ) → SetUpStands s 0 n area limit next → EndsAfter s budget next (set_up_answer n area limit arena words) r)

-- "Replay takes at most a given number of entries"; that number where bytes remain
abbrev pub TakesAtMost : ℕ → Replayed → Type 0
TakesAtMost budget r = (r.taken ≤ budget) × (r.ending ≡ Ending.Stopped → r.taken ≡ budget)

abbrev pub ReplayTakesAtMost : Type 0
ReplayTakesAtMost =
    (s : List ℕ) (budget : ℕ) (arena words reply text : List ℕ) → ((i : ℕ) → get_or s i 0 < 256)
    → TakesAtMost budget (replay_of s budget arena words reply text).replayed
