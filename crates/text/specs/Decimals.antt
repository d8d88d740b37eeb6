-- Numbers as text (01, "Replay": "Numbers are decimal").
use Rattle.std.specs.Prelude.{ℕ, zero, suc, ◌+◌, ◌/◌, ◌%◌, List, [], ◌∷◌, ◌++◌, ltb}
use Rattle.laws.specs.Choose.{pick}

-- the last of the digits of v, in ASCII
abbrev pub last_digit : ℕ → ℕ
last_digit v = 48 + v % 10

-- the digits of v, the highest first, at most k of them more than one
unfoldable pub digits : ℕ → ℕ → List ℕ
digits zero v = (48 + v) ∷ []
digits (suc k) v = pick (ltb v 10) ((48 + v) ∷ []) (digits k (v / 10) ++ (last_digit v ∷ []))

-- twenty digits hold every number below 2^64
abbrev pub decimal : ℕ → List ℕ
decimal v = digits 19 v
