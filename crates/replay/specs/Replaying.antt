-- A replay (01, "Replay"): the run of the calls that a trace records, and the text about it.
use Rattle.std.specs.Prelude.{ℕ, ◌+◌, ◌*◌, ◌/◌, List, ◌++◌, Bool, ◌&&◌, length, leb, Ok, Err, Option, None, Some}
use Rattle.laws.specs.Choose.{pick}
use Rattle.laws.specs.Parts.{part, store_at}
use Rattle.engine.specs.SetUp.{Ready}
use Rattle.engine.specs.SetUp.{peer_count, set_up}
use Rattle.engine.specs.Steps.{World}
use Rattle.trace.specs.declared.types.SetUp.{SetUp}
use Rattle.trace.specs.Entries.{set_up_at}
use Rattle.guarantees.specs.Outputs.{RunLeaves, output_of, replies_after, requests_of, run_leaves}
use Rattle.guarantees.specs.Runs.{world_after}
use Rattle.guarantees.specs.Receiving.{fresh_world, receiving}
use Rattle.replay.specs.declared.types.Ending.{Ending}
use Rattle.replay.specs.declared.types.Replayed.{Replayed}
use Rattle.replay.specs.Lines.{set_up_line, answer_line, ending_line}
use Rattle.replay.specs.Decoding.{Decoded, decode}
use Rattle.peer.specs.State.{area_limit}

-- ---- the calls of a run

-- what a replay answers, and leaves of what it is lent
pub record ReplayLeaves : Type 0 where
  pub replayed : Replayed
  pub arena : List ℕ
  pub map : List ℕ
  pub reply : List ℕ
  pub text : List ℕ

abbrev pub replay_leaves : Ending → RunLeaves → ReplayLeaves
replay_leaves e l =
    record {
      replayed = record { taken = l.taken; written = l.place; ending = e };
      arena = l.world.arena;
      map = l.world.map;
      reply = l.replies;
      text = l.output;
    }

-- the calls of the trace s, with their lines from `at` on
abbrev pub ran : List ℕ → List ℕ → World → List ℕ → ℕ → Decoded → ReplayLeaves
ran s reply w text at d = replay_leaves d.ending (run_leaves s reply answer_line w text at d.calls)

-- ---- the whole

-- the text of a run of calls: "`setup ok` .., then .., last .."
abbrev pub report : List ℕ → List ℕ → World → Decoded → List ℕ
report s reply w d = set_up_line ++ (output_of s reply answer_line w d.calls ++ ending_line (length d.calls) d.ending)

-- a run from w
unfoldable pub reported : List ℕ → List ℕ → World → List ℕ → Decoded → ReplayLeaves
reported s reply w text d =
    record {
      replayed = record { taken = length d.calls; written = length (report s reply w d); ending = d.ending };
      arena = (world_after receiving w (requests_of s reply d.calls)).arena;
      map = (world_after receiving w (requests_of s reply d.calls)).map;
      reply = replies_after s reply w reply d.calls;
      text = store_at text 0 (report s reply w d);
    }

-- only a last line is written, and nothing else is changed
abbrev pub told : List ℕ → List ℕ → List ℕ → List ℕ → Ending → ReplayLeaves
told arena map reply text e =
    record {
      replayed = record { taken = 0; written = length (ending_line 0 e); ending = e };
      arena = arena;
      map = map;
      reply = reply;
      text = store_at text 0 (ending_line 0 e);
    }

-- "`setup ok` or `setup 1` (then stops)"
abbrev pub on_ready : Ready → ReplayLeaves → (Ending → ReplayLeaves) → ReplayLeaves
on_ready (Ok tt) run stop = run
on_ready (Err k) run stop = stop (Ending.NotSetUp k)

-- the set-up, and the run of what the trace s records from `next` on
unfoldable pub replay_from : ℕ → ℕ → ℕ → List ℕ → ℕ → ℕ → List ℕ → List ℕ → List ℕ → List ℕ → ReplayLeaves
replay_from n area limit s next budget arena map reply text =
    on_ready (set_up n area limit (length arena) map).started.answer
    (reported s reply (fresh_world n area limit arena map) text (decode budget s reply next))
    (told arena map reply text)

-- n times `each` elements are lent on of those that are there, or none where they are too few
unfoldable pub lent_of : ℕ → ℕ → ℕ → ℕ
lent_of n each there = pick (leb n peer_count && (leb each area_limit && leb (n * each) there)) (n * each) 0

-- the first elements of arena and map as they are left
abbrev pub in_whole : List ℕ → List ℕ → ReplayLeaves → ReplayLeaves
in_whole arena map l =
    record {
      replayed = l.replayed;
      arena = store_at arena 0 l.arena;
      map = store_at map 0 l.map;
      reply = l.reply;
      text = l.text;
    }

-- the first three numbers say how much of arena and map is lent on; "`bad trace at B`, .. (0 for the first three numbers)"
unfoldable pub started : List ℕ → ℕ → List ℕ → List ℕ → List ℕ → List ℕ → Option (SetUp × ℕ) → ReplayLeaves
started s budget arena map reply text None = told arena map reply text (Ending.Bad 0)
started s budget arena map reply text (Some (u, next)) =
    in_whole arena map
    (replay_from u.n u.area u.limit s next budget
    (part arena 0 (lent_of u.n u.area (length arena))) (part map 0 (lent_of u.n (u.area / 64) (length map))) reply text)

-- the room that a text takes at most: its first and its last line, and a line for each entry
unfoldable pub has_room : ℕ → ℕ → Bool
has_room budget text = leb (64 + 80 * budget) text

-- with too little room for the text nothing is done
unfoldable pub replay_of : List ℕ → ℕ → List ℕ → List ℕ → List ℕ → List ℕ → ReplayLeaves
replay_of s budget arena map reply text =
    pick (has_room budget (length text)) (started s budget arena map reply text (set_up_at s 0)) (told arena map reply text Ending.NoRoom)
