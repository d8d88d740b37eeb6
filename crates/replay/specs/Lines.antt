-- The lines of a replay (01, "Replay": "writes `setup ok` or `setup 1` (then stops), then `posted S`, .. or `refused K`; last `end E` ..").
use Rattle.std.specs.Prelude.{ℕ, List, [], ◌∷◌}
use Rattle.text.specs.Lines.{bytes_of, line}
use Rattle.peer.specs.declared.types.Answer.{Answer}
use Rattle.replay.specs.declared.types.Ending.{Ending}
use Rattle.protocol.specs.Refusals.{number}

abbrev pub set_up_line : List ℕ
set_up_line = line (bytes_of "setup ok") []

-- "then `posted S`, `cancelled S`, `stored`, `granted G`, `done S M N`, `truncated S M N` or `refused K`". A trace asks for no
-- missing-byte report, so the last line is never written.
unfoldable pub answer_line : Answer → List ℕ
answer_line (Answer.Refused k) = line (bytes_of "refused") (number k ∷ [])
answer_line (Answer.Posted slot) = line (bytes_of "posted") (slot ∷ [])
answer_line (Answer.Cancelled slot) = line (bytes_of "cancelled") (slot ∷ [])
answer_line Answer.Stored = line (bytes_of "stored") []
answer_line (Answer.Granted n) = line (bytes_of "granted") (n ∷ [])
answer_line (Answer.Done slot id length cq) = line (bytes_of "done") (slot ∷ id ∷ length ∷ [])
answer_line (Answer.Truncated slot id length) = line (bytes_of "truncated") (slot ∷ id ∷ length ∷ [])
answer_line (Answer.Missing received first) = line (bytes_of "missing") (received ∷ first ∷ [])

-- "last `end E` (E taken, refused entries too), `stopped 4096` if bytes remain, or `bad trace at B`"; "`setup 1` (then stops)"
unfoldable pub ending_line : ℕ → Ending → List ℕ
ending_line taken Ending.End = line (bytes_of "end") (taken ∷ [])
ending_line taken Ending.Stopped = line (bytes_of "stopped") (taken ∷ [])
ending_line taken (Ending.Bad at) = line (bytes_of "bad trace at") (at ∷ [])
ending_line taken (Ending.NotSetUp k) = line (bytes_of "setup") (number k ∷ [])
ending_line taken Ending.NoRoom = []
