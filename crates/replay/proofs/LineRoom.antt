-- The room that lines take: of an answer, of the last line, and of a run's calls.
use Prim.Native.Nat.{ℕ, ◌+◌, ◌*◌, ◌≤◌}
use lib.ListN.{length}
use mathlib.Core.List.{List, [], ◌∷◌}
use native.Mathlib.Omega.{arith}
use Rattle.text.specs.Lines.{bytes_of}
use Rattle.text.proofs.LineLaws.{length_line}
use Rattle.peer.specs.declared.types.Answer.{Answer}
use Rattle.peer.specs.declared.types.Request.{Request}
use Rattle.engine.specs.Steps.{World}
use Rattle.guarantees.specs.Outputs.{output_of}
use Rattle.guarantees.proofs.RunInvariant.{output_room}
use Rattle.replay.specs.Lines.{answer_line, ending_line}
use Rattle.replay.specs.declared.types.Ending.{Ending}
use Rattle.protocol.specs.Refusals.{number}

-- the line of an answer, and the last line, have room in 80 and in 55 bytes
pub answer_room : (a : Answer) → length (answer_line a) ≤ 80
unfolding answer_line
answer_room (Answer.Refused k) = let n = length_line (bytes_of "refused") (number k ∷ []) in omega arith
answer_room (Answer.Posted slot) = let n = length_line (bytes_of "posted") (slot ∷ []) in omega arith
answer_room (Answer.Cancelled slot) = let n = length_line (bytes_of "cancelled") (slot ∷ []) in omega arith
answer_room Answer.Stored = let n = length_line (bytes_of "stored") [] in omega arith
answer_room (Answer.Granted m) = let n = length_line (bytes_of "granted") (m ∷ []) in omega arith
answer_room (Answer.Done slot id length cq) = let n = length_line (bytes_of "done") (slot ∷ id ∷ length ∷ []) in omega arith
answer_room (Answer.Truncated slot id length) = let n = length_line (bytes_of "truncated") (slot ∷ id ∷ length ∷ []) in omega arith
answer_room (Answer.Missing received first) = let n = length_line (bytes_of "missing") (received ∷ first ∷ []) in omega arith

pub ending_room : (taken : ℕ) (e : Ending) → length (ending_line taken e) ≤ 55
unfolding ending_line
ending_room taken Ending.End = let n = length_line (bytes_of "end") (taken ∷ []) in omega arith
ending_room taken Ending.Stopped = let n = length_line (bytes_of "stopped") (taken ∷ []) in omega arith
ending_room taken (Ending.Bad at) = let n = length_line (bytes_of "bad trace at") (at ∷ []) in omega arith
ending_room taken (Ending.NotSetUp k) = let n = length_line (bytes_of "setup") (number k ∷ []) in omega arith
ending_room taken Ending.NoRoom = omega arith

-- a text of the last line alone
pub tell_room : (e : Ending) (budget text : ℕ) → 64 + 80 * budget ≤ text → length (ending_line 0 e) ≤ text
tell_room e budget text h = let n = ending_room 0 e in omega arith

pub lines_room : (s reply : List ℕ) (w : World) (qs : List Request) → length (output_of s reply answer_line w qs) ≤ 80 * length qs
lines_room s reply = output_room s reply answer_line 80 answer_room
