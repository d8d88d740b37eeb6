-- The runs of the engine's calls: its world, and what a peer sees of a receiving call.
use Rattle.std.specs.Prelude.{ℕ, ◌+◌, ◌*◌, List, [], length, get_or, take, replicate}
use Rattle.laws.specs.Parts.{part, store_at}
use Rattle.peer.specs.declared.types.Answer.{Answer}
use Rattle.peer.specs.declared.types.Request as code
use Rattle.peer.specs.Answers.{on_done, on_granted}
use Rattle.peer.specs.Calls.{Call, LentCall, call_of}
use Rattle.peer.specs.LentCalls.{buffer_of, lent_call_of}
use Rattle.peer.specs.Says.{Saying, said}
use Rattle.peer.specs.Starts.{note_start}
use Rattle.peer.specs.State.{slot_count}
use Rattle.engine.specs.Leaves.{world}
use Rattle.engine.specs.SetUp.{set_up}
use Rattle.engine.specs.Steps.{World, Turn, call_turn}
use Rattle.guarantees.specs.Runs.{Calling, RequestWith}

abbrev pub LentRequest : Type 0
LentRequest = RequestWith LentCall

-- a request of the code, whose packet lies in `bytes` and whose reply buffer in `replies`
abbrev pub request_of : List ℕ → List ℕ → code.Request → LentRequest
request_of bytes replies q = record { peer = q.peer; call = lent_call_of bytes replies q.call }

-- ---- the world

-- "The first call gets the fresh state, the cleared map and the arena": what the set-up returned and left
unfoldable pub fresh_world : ℕ → ℕ → ℕ → List ℕ → List ℕ → World
fresh_world n area limit arena map =
    world (set_up n area limit (length arena) map).started.engine arena (set_up n area limit (length arena) map).map

unfoldable pub turn_of : World → LentRequest → Turn
turn_of w q = call_turn w q.peer (call_of q.call)

-- the reply buffer as the call leaves it
abbrev pub buffer_after : World → LentRequest → List ℕ
buffer_after w q = store_at (buffer_of q.call) 0 (turn_of w q).reply

-- ---- what a peer sees

-- what one call yields: the answer, and the numbers that it says in 01's words; "the first 24 reply bytes if granted, else none"; and of a
-- done message its bytes
pub record Seen : Type 0 where
  pub answer : Answer
  pub says : Saying
  pub reply : List ℕ
  pub bytes : List ℕ

abbrev pub reply_seen : List ℕ → Answer → List ℕ
reply_seen buffer a = on_granted [] (λ n. take 24 buffer) a

-- "the arena from p×A + start on, for the message's length", where the peer's area begins at base
abbrev pub bytes_seen : List ℕ → ℕ → List ℕ → Answer → List ℕ
bytes_seen arena base starts a = on_done [] (λ i id n cq. part arena (base + get_or starts i 0) n) a

-- with the starts of the peer's receives so far
abbrev pub seen_at : World → List ℕ → LentRequest → Seen
seen_at w starts q =
    record {
      answer = (turn_of w q).answer;
      says = said (turn_of w q).answer;
      reply = reply_seen (buffer_after w q) (turn_of w q).answer;
      bytes = bytes_seen (turn_of w q).world.arena (q.peer * w.engine.area) starts (turn_of w q).answer;
    }

abbrev pub no_starts : List ℕ
no_starts = replicate slot_count 0

-- a call as a request of its peer
abbrev pub asked : ℕ → LentCall → LentRequest
asked p c = record { peer = p; call = c }

abbrev pub receiving : Calling
receiving =
    record {
      World = World;
      Lent = LentCall;
      Compared = Call;
      compared = call_of;
      after = λ w p c. (turn_of w (asked p c)).world;
      Noted = List ℕ;
      noting = λ w p starts c. note_start starts (call_of c) (turn_of w (asked p c)).answer;
      Sight = Seen;
      sight = λ w p starts c. seen_at w starts (asked p c);
    }
