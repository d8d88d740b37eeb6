-- The text has room for the lines of 4,096 entries, so the program's replay is not refused.
use Prim.Native.Nat.{ℕ}
use lib.ListN.{length, replicate}
use mathlib.Core.Bool.{true}
use mathlib.Core.List.{List}
use mathlib.Core.Path.{◌≡◌}
use Rattle.laws.proofs.Choosing.{pick_true}
use Rattle.replay.specs.Replaying.{has_room, replay_of}
use Rattle.replay_main.specs.Programs.{most_entries, program_of, text_length}

room : (text : List ℕ) → length text ≡ text_length → has_room most_entries (length text) ≡ true
unfolding has_room
room text e = rw e

pub not_refused : (trace text : List ℕ) → length text ≡ text_length
    → replay_of trace most_entries (replicate 65536 0) (replicate 1024 0) (replicate 24 0) text ≡ program_of trace text
unfolding replay_of program_of
not_refused trace text e = pick_true _ _ (room text e)
