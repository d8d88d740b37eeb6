-- The map (01: "one bit for each arena byte (byte i is bit i mod 64 of word i/64, lowest first)"), and ranges of its bits.
use Rattle.std.specs.Prelude.{ℕ, zero, suc, ◌+◌, ◌-◌, ◌*◌, ◌/◌, ◌%◌, ◌^◌, List, Bool, false, ◌||◌, get_or, set, eqb}
use Rattle.std.specs.Int.Bits.{bit_or}
use Rattle.laws.specs.Choose.{pick}

-- bit k of a word
unfoldable pub bit : ℕ → ℕ → ℕ
bit w k = w / 2 ^ k % 2

-- bit i of the map
unfoldable pub bit_at : List ℕ → ℕ → ℕ
bit_at m i = bit (get_or m (i / 64) 0) (i % 64)

-- the map with bit i set
unfoldable pub set_bit : List ℕ → ℕ → List ℕ
set_bit m i = set m (i / 64) (bit_or (get_or m (i / 64) 0) (2 ^ (i % 64)))

-- the map with bit i clear
unfoldable pub clear_bit : List ℕ → ℕ → List ℕ
clear_bit m i = set m (i / 64) (get_or m (i / 64) 0 - bit (get_or m (i / 64) 0) (i % 64) * 2 ^ (i % 64))

-- the map with the n bits from `at` on set
unfoldable pub marked : List ℕ → ℕ → ℕ → List ℕ
marked m at zero = m
marked m at (suc n) = set_bit (marked m at n) (at + n)

-- the map with the n bits from `at` on clear
unfoldable pub cleared : List ℕ → ℕ → ℕ → List ℕ
cleared m at zero = m
cleared m at (suc n) = clear_bit (cleared m at n) (at + n)

-- some of the n bits from `at` on is set
unfoldable pub touched : List ℕ → ℕ → ℕ → Bool
touched m at zero = false
touched m at (suc n) = touched m at n || eqb (bit_at m (at + n)) 1

-- how many of the n bits from `at` on are set
unfoldable pub count_set : List ℕ → ℕ → ℕ → ℕ
count_set m at zero = 0
count_set m at (suc n) = count_set m at n + bit_at m (at + n)

-- how many of the n bits from `at` on stand before the first clear one; n if none is clear
unfoldable pub first_clear : List ℕ → ℕ → ℕ → ℕ
first_clear m at zero = 0
first_clear m at (suc n) = pick (eqb (bit_at m at) 0) 0 (suc (first_clear m (suc at) n))
