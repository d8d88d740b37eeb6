-- What the bytes of a number are (01, "Replay": "Numbers are groups of seven bits, least first, top bit set when more follow, below 2^64,
-- shortest form only").
use Rattle.std.specs.Prelude.{ℕ, suc, ◌+◌, ◌-◌, ◌*◌, ◌%◌, ◌≤◌, ◌<◌, List, [], ◌∷◌, ◌≡◌, length, get_or}
use Rattle.trace.specs.Numbers.{number_bytes}
use Rattle.trace.specs.ShortestForm.{IsWord}

-- what bytes count as "groups of seven bits, least first"
unfoldable pub groups_value : List ℕ → ℕ
groups_value [] = 0
groups_value (b ∷ bs) = b % 128 + 128 * groups_value bs

-- bytes that are v's groups
pub record GroupsOf (v : ℕ) (bs : List ℕ) : Type 0 where
  pub some : 0 < length bs
  -- "top bit set when more follow"
  pub more : (i : ℕ) → suc i < length bs → (128 ≤ get_or bs i 0) × (get_or bs i 0 < 256)
  pub last : get_or bs (length bs - 1) 0 < 128
  -- "shortest form only": no last group of 0 behind others
  pub shortest : 1 < length bs → 0 < get_or bs (length bs - 1) 0
  pub value : groups_value bs ≡ v

-- what is written of a number "below 2^64", ten bytes at most
abbrev pub NumberInGroups : Type 0
NumberInGroups = (v : ℕ) → IsWord v → GroupsOf v (number_bytes v) × (length (number_bytes v) ≤ 10)

-- and no other bytes are
abbrev pub NumberInNoOther : Type 0
NumberInNoOther = (v : ℕ) (bs : List ℕ) → IsWord v → GroupsOf v bs → bs ≡ number_bytes v
