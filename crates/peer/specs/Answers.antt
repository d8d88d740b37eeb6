-- What is made of an answer: one table for a post's answer, one for a cancel's and one for a packet's. A definition by answers is made of
-- these, so that an answer more is a line in each of them.
use Rattle.std.specs.Prelude.{ℕ, Option}
use Rattle.peer.specs.declared.types.Answer.{Answer}

-- ---- the tables: `other` at each answer that is not named

abbrev pub on_posted {ℓ} : {A : Type ℓ} → A → (ℕ → A) → Answer → A
on_posted other posted (Answer.Refused k) = other
on_posted other posted (Answer.Posted slot) = posted slot
on_posted other posted (Answer.Cancelled slot) = other
on_posted other posted Answer.Stored = other
on_posted other posted (Answer.Granted n) = other
on_posted other posted (Answer.Done slot id length cq) = other
on_posted other posted (Answer.Truncated slot id length) = other
on_posted other posted (Answer.Missing received first) = other

abbrev pub on_cancelled {ℓ} : {A : Type ℓ} → A → (ℕ → A) → Answer → A
on_cancelled other cancelled (Answer.Refused k) = other
on_cancelled other cancelled (Answer.Posted slot) = other
on_cancelled other cancelled (Answer.Cancelled slot) = cancelled slot
on_cancelled other cancelled Answer.Stored = other
on_cancelled other cancelled (Answer.Granted n) = other
on_cancelled other cancelled (Answer.Done slot id length cq) = other
on_cancelled other cancelled (Answer.Truncated slot id length) = other
on_cancelled other cancelled (Answer.Missing received first) = other

-- the answers that take a packet
abbrev pub on_taken {ℓ} : {A : Type ℓ} → A → A → (ℕ → A) → (ℕ → ℕ → ℕ → Option ℕ → A) → (ℕ → ℕ → ℕ → A) → Answer → A
on_taken other stored granted done truncated (Answer.Refused k) = other
on_taken other stored granted done truncated (Answer.Posted slot) = other
on_taken other stored granted done truncated (Answer.Cancelled slot) = other
on_taken other stored granted done truncated Answer.Stored = stored
on_taken other stored granted done truncated (Answer.Granted n) = granted n
on_taken other stored granted done truncated (Answer.Done slot id length cq) = done slot id length cq
on_taken other stored granted done truncated (Answer.Truncated slot id length) = truncated slot id length
on_taken other stored granted done truncated (Answer.Missing received first) = other

-- ---- some of them

abbrev pub on_granted {ℓ} : {A : Type ℓ} → A → (ℕ → A) → Answer → A
on_granted other granted a = on_taken other other granted (λ slot id n cq. other) (λ slot id n. other) a

abbrev pub on_done {ℓ} : {A : Type ℓ} → A → (ℕ → ℕ → ℕ → Option ℕ → A) → Answer → A
on_done other done a = on_taken other other (λ n. other) done (λ slot id n. other) a

-- the packet's segment is accepted
abbrev pub on_accepted {ℓ} : {A : Type ℓ} → A → A → Answer → A
on_accepted other accepted a = on_taken other accepted (λ n. accepted) (λ slot id n cq. accepted) (λ slot id n. other) a
