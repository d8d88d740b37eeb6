-- The numbers of a trace (01, "Replay": "Numbers are groups of seven bits, least first, top bit set when more follow, below 2^64,
-- shortest form only").
use Rattle.std.specs.Prelude.{ℕ, zero, suc, ◌+◌, ◌-◌, ◌*◌, ◌/◌, ◌%◌, ◌^◌, List, [], ◌∷◌, ◌&&◌, Option, None, Some, length, get_or, leb, ltb, eqb}
use Rattle.laws.specs.Choose.{pick}

-- ---- as it is written

-- v in at most k groups more than one
unfoldable pub groups : ℕ → ℕ → List ℕ
groups zero v = v ∷ []
groups (suc k) v = pick (ltb v 128) (v ∷ []) ((128 + v % 128) ∷ groups k (v / 128))

-- ten groups hold every number below 2^64
abbrev pub number_bytes : ℕ → List ℕ
number_bytes v = groups 9 v

-- ---- as it is read

-- the last group b: "shortest form only", so 0 only if it is the first; "below 2^64"
unfoldable pub last_group : ℕ → ℕ → ℕ → ℕ → Option (ℕ × ℕ)
last_group b next weight sum =
    pick (eqb b 0 && ltb 1 weight) None
    (pick (leb (2 ^ 64) (sum + b * weight)) None
    (Some (sum + b * weight, next)))

-- at most k groups from `at` on, the first of which counts `weight` times, after groups that make `sum`
unfoldable pub number_from : ℕ → List ℕ → ℕ → ℕ → ℕ → Option (ℕ × ℕ)
number_from zero s at weight sum = None
number_from (suc k) s at weight sum =
    pick (leb (length s) at) None
    (pick (ltb (get_or s at 0) 128) (last_group (get_or s at 0) (suc at) weight sum)
    (number_from k s (suc at) (weight * 128) (sum + (get_or s at 0 - 128) * weight)))

-- the number at a place, and the place behind it; or nothing where no number is
unfoldable pub number_at : List ℕ → ℕ → Option (ℕ × ℕ)
number_at s at = number_from 10 s at 1 0
