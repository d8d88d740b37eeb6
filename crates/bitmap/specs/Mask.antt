-- A word's part of a range, for the contracts of the functions that the public ones share.
use Rattle.std.specs.Prelude.{ℕ, ◌+◌, ◌-◌, ◌/◌, ◌%◌, ◌^◌, List, Bool, get_or, eqb}
use Rattle.std.specs.Int.Bits.{bit_and}
use Rattle.bitmap.specs.Map.{bit}

-- the word with the n bits from lo on set
abbrev pub mask_of : ℕ → ℕ → ℕ
mask_of lo n = 2 ^ (n + lo) - 2 ^ lo

-- the n bits of the map from i on where their word has them, and its other bits clear
abbrev pub part_of : List ℕ → ℕ → ℕ → ℕ
part_of m i n = bit_and (get_or m (i / 64) 0) (mask_of (i % 64) n)

-- bit k of the word is set
abbrev pub set_in : ℕ → ℕ → Bool
set_in w k = eqb (bit w k) 1
