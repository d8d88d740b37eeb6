-- What the program takes of a trace (01, "Replay": "takes at most 4,096 entries", "`stopped 4096` if bytes remain").
use Rattle.std.specs.Prelude.{ℕ, ◌≤◌, ◌<◌, List, ◌≡◌, length, get_or}
use Rattle.replay.specs.declared.types.Ending.{Ending}
use Rattle.replay_main.specs.Programs.{program_of, text_length}

abbrev pub ProgramTakes4096 : Type 0
ProgramTakes4096 =
    (trace text : List ℕ) → ((i : ℕ) → get_or trace i 0 < 256) → length text ≡ text_length
    → let r = (program_of trace text).replayed in (r.taken ≤ 4096) × (r.ending ≡ Ending.Stopped → r.taken ≡ 4096)
