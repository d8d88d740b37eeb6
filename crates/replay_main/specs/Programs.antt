-- The program's replay (01, "Replay": "takes at most 4,096 entries"), with arena and map for the largest set-up. No trace is refused for
-- want of room in its text.
use Rattle.std.specs.Prelude.{ℕ, List, replicate}
use Rattle.trace.specs.Entries.{set_up_at}
use Rattle.replay.specs.Replaying.{ReplayLeaves, started}

-- the most entries that are taken
abbrev pub most_entries : ℕ
most_entries = 4096

-- the bytes of the text's buffer: 64, and 80 for each of 4,096 entries
abbrev pub text_length : ℕ
text_length = 327744

unfoldable pub program_of : List ℕ → List ℕ → ReplayLeaves
program_of trace text = started trace most_entries (replicate 65536 0) (replicate 1024 0) (replicate 24 0) text (set_up_at trace 0)
