-- What an answer of a call says, by 01's word and numbers ("For an answer that is an enum, a definition gives this paper's number and values for
-- each of its cases").
use Rattle.std.specs.Prelude.{ℕ, List, [], ◌∷◌, Option, Some, None}
use Rattle.peer.specs.declared.types.Answer.{Answer}
use Rattle.protocol.specs.Refusals.{number}

-- 01's answers, with their numbers in its order
pub data Word : Type 0 where
  refused posted cancelled stored granted done truncated missing : Word

pub record Saying : Type 0 where
  pub word : Word
  pub numbers : List ℕ

abbrev pub say : Word → List ℕ → Saying
say w ns = record { word = w; numbers = ns }

-- "CQ data from the matching packet if any"
abbrev pub cq_numbers : Option ℕ → List ℕ
cq_numbers None = []
cq_numbers (Some d) = d ∷ []

abbrev pub said : Answer → Saying
said (Answer.Refused k) = say refused (number k ∷ [])
said (Answer.Posted slot) = say posted (slot ∷ [])
said (Answer.Cancelled slot) = say cancelled (slot ∷ [])
said Answer.Stored = say stored []
said (Answer.Granted n) = say granted (n ∷ [])
said (Answer.Done slot id length cq) = say done (slot ∷ id ∷ length ∷ cq_numbers cq)
said (Answer.Truncated slot id length) = say truncated (slot ∷ id ∷ length ∷ [])
said (Answer.Missing received first) = say missing (received ∷ first ∷ [])
