-- A run whose requests lie in lent bytes and whose answers are put into a lent output, one behind the other. A replay is one, with a line for
-- each answer, and so is a run of packed calls, with eight words for each.
use Rattle.std.specs.Prelude.{ℕ, ◌+◌, List, [], ◌∷◌, ◌++◌, length}
use Rattle.laws.specs.Parts.{store_at}
use Rattle.peer.specs.declared.types.Answer.{Answer}
use Rattle.peer.specs.declared.types.Request as code
use Rattle.peer.specs.LentCalls.{reply_place}
use Rattle.engine.specs.Steps.{World}
use Rattle.guarantees.specs.Runs.{world_after}
use Rattle.guarantees.specs.Receiving.{LentRequest, receiving, request_of, turn_of}

module _ (bytes replies : List ℕ) where
  abbrev pub requests_of : List code.Request → List LentRequest
  requests_of [] = []
  requests_of (q ∷ qs) = request_of bytes replies q ∷ requests_of qs

  -- each reply packet is put at the start of its call's reply buffer
  unfoldable pub replies_after : World → List ℕ → List code.Request → List ℕ
  replies_after w now [] = now
  replies_after w now (q ∷ qs) =
      replies_after (turn_of w (request_of bytes replies q)).world
      (store_at now (reply_place q.call) (turn_of w (request_of bytes replies q)).reply) qs

  -- the answers, each in its form
  unfoldable pub output_of : (Answer → List ℕ) → World → List code.Request → List ℕ
  output_of form w [] = []
  output_of form w (q ∷ qs) =
      form (turn_of w (request_of bytes replies q)).answer ++ output_of form (turn_of w (request_of bytes replies q)).world qs

-- what a run leaves: the world, the number of its calls, the replies, the output, and the place in it behind the last answer
pub record RunLeaves : Type 0 where
  pub world : World
  pub taken : ℕ
  pub replies : List ℕ
  pub output : List ℕ
  pub place : ℕ

-- from w, with the answers put into the output from `at` on
abbrev pub run_leaves : List ℕ → List ℕ → (Answer → List ℕ) → World → List ℕ → ℕ → List code.Request → RunLeaves
run_leaves bytes replies form w output at qs =
    record {
      world = world_after receiving w (requests_of bytes replies qs);
      taken = length qs;
      replies = replies_after bytes replies w replies qs;
      output = store_at output at (output_of bytes replies form w qs);
      place = at + length (output_of bytes replies form w qs);
    }
