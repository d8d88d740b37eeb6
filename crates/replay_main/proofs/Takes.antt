-- The program takes at most 4,096 entries, `ProgramTakes4096` of specs/Takes.antt: by what holds of every replay.
use lib.ListN.{replicate}
use native.Mathlib.Omega.{arith}
use Rattle.replay.proofs.Endings.{replay_takes_at_most}
use Rattle.replay_main.specs.Programs.{most_entries}
use Rattle.replay_main.specs.Takes.{ProgramTakes4096}
use Rattle.replay_main.proofs.ProgramLaws.{not_refused}

pub program_takes_4096 : ProgramTakes4096
program_takes_4096 trace text bytes n =
    let t = replay_takes_at_most trace most_entries (replicate 65536 0) (replicate 1024 0) (replicate 24 0) text bytes in
    let t = rw (not_refused trace text n) at t in
    (omega (arith, t.0), t.1)
