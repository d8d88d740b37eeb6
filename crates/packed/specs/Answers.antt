-- An answer as eight words: its number, then what it says in 01's order, then zeros.
use Rattle.std.specs.Prelude.{ℕ, List, [], ◌∷◌, Option}
use Rattle.peer.specs.declared.types.Answer.{Answer}
use Rattle.words.specs.Presence.{option_bit, option_value}
use Rattle.protocol.specs.Refusals.{number}

abbrev pub done_words : ℕ → ℕ → ℕ → Option ℕ → List ℕ
done_words slot id length cq = 5 ∷ slot ∷ id ∷ length ∷ option_bit cq ∷ option_value cq ∷ 0 ∷ 0 ∷ []

unfoldable pub answer_words : Answer → List ℕ
answer_words (Answer.Refused k) = 0 ∷ number k ∷ 0 ∷ 0 ∷ 0 ∷ 0 ∷ 0 ∷ 0 ∷ []
answer_words (Answer.Posted slot) = 1 ∷ slot ∷ 0 ∷ 0 ∷ 0 ∷ 0 ∷ 0 ∷ 0 ∷ []
answer_words (Answer.Cancelled slot) = 2 ∷ slot ∷ 0 ∷ 0 ∷ 0 ∷ 0 ∷ 0 ∷ 0 ∷ []
answer_words Answer.Stored = 3 ∷ 0 ∷ 0 ∷ 0 ∷ 0 ∷ 0 ∷ 0 ∷ 0 ∷ []
answer_words (Answer.Granted n) = 4 ∷ n ∷ 0 ∷ 0 ∷ 0 ∷ 0 ∷ 0 ∷ 0 ∷ []
answer_words (Answer.Done slot id length cq) = done_words slot id length cq
answer_words (Answer.Truncated slot id length) = 6 ∷ slot ∷ id ∷ length ∷ 0 ∷ 0 ∷ 0 ∷ 0 ∷ []
answer_words (Answer.Missing received first) = 7 ∷ received ∷ first ∷ 0 ∷ 0 ∷ 0 ∷ 0 ∷ 0 ∷ []
