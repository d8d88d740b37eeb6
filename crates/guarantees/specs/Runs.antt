-- Runs, and what one peer sees of one (01, "The two runs of demand 3"), over any calls that peers make: specs/Receiving.antt has the engine's.
use Rattle.std.specs.Prelude.{ℕ, List, [], ◌∷◌, ◌≡◌, eqb}
use Rattle.laws.specs.Choose.{pick}

-- what a run is made of
pub record Calling : Type 1 where
  -- what is handed from call to call
  pub World : Type 0
  -- a call with what it lends, and as two runs are compared: its "kind, numbers, bytes lent to be read and lengths of buffers lent to be written"
  pub Lent : Type 0
  pub Compared : Type 0
  pub compared : Lent → Compared
  -- what a call of a peer leaves
  pub after : World → ℕ → Lent → World
  -- what the peer keeps in mind of its earlier calls, by which it reads what this one left
  pub Noted : Type 0
  pub noting : World → ℕ → Noted → Lent → Noted
  -- what it sees of the call
  pub Sight : Type 0
  pub sight : World → ℕ → Noted → Lent → Sight

-- a call with its peer's number
pub record RequestWith (Lent : Type 0) : Type 0 where
  pub peer : ℕ
  pub call : Lent

-- "each later one gets state, map and arena as the call before returned or left them"
unfoldable pub world_after : (s : Calling) → s.World → List (RequestWith s.Lent) → s.World
world_after s w [] = w
world_after s w (q ∷ qs) = world_after s (s.after w q.peer q.call) qs

-- what peer p sees of its calls in a run from w
unfoldable pub observe : (s : Calling) → ℕ → s.World → s.Noted → List (RequestWith s.Lent) → List s.Sight
observe s p w noted [] = []
observe s p w noted (q ∷ qs) =
    pick (eqb q.peer p)
    (s.sight w q.peer noted q.call ∷ observe s p (s.after w q.peer q.call) (s.noting w q.peer noted q.call) qs)
    (observe s p (s.after w q.peer q.call) noted qs)

-- the calls of peer p, in order
unfoldable pub calls_of : (s : Calling) → ℕ → List (RequestWith s.Lent) → List s.Compared
calls_of s p [] = []
calls_of s p (q ∷ qs) = pick (eqb q.peer p) (s.compared q.call ∷ calls_of s p qs) (calls_of s p qs)

-- what a receiver of one peer's calls alone makes of them, from its history on
unfoldable pub alone : {H C S : Type 0} → (H → C → S) → (H → C → H) → H → List C → List S
alone demanded entered l [] = []
alone demanded entered l (c ∷ cs) = demanded l c ∷ alone demanded entered (entered l c) cs

-- "Let its calls be the same in both lists, in the same order .. Then each of that peer's calls gets the same answer in both runs"
abbrev pub SeesTheSame : (s : Calling) → ℕ → s.Noted → s.World → s.World → Type 0
SeesTheSame s p noted w₁ w₂ =
    (calls₁ calls₂ : List (RequestWith s.Lent))
    → calls_of s p calls₁ ≡ calls_of s p calls₂
    → observe s p w₁ noted calls₁ ≡ observe s p w₂ noted calls₂
