-- Where the receives of a peer start, from its calls and their answers (01: "start being that of this peer's latest post answered posted
-- with that slot").
use Rattle.std.specs.Prelude.{ℕ, List, slice_set}
use Rattle.peer.specs.declared.types.Answer.{Answer}
use Rattle.peer.specs.Answers.{on_posted}
use Rattle.peer.specs.Calls.{Call, on_post}

-- the starts, by slot, after one call more and its answer
abbrev pub note_start : List ℕ → Call → Answer → List ℕ
note_start starts c a = on_post starts (λ r. on_posted starts (λ i. slice_set starts i r.start) a) c
