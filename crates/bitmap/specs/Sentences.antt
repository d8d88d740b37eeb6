-- What marking, clearing and the overlap test are, over the numbers in the map (02, request 2: "The stated result of marking and of the
-- overlap test stays as it is"). The range is the n bits from `at` on.
use Rattle.std.specs.Prelude.{ℕ, ◌+◌, ◌*◌, ◌/◌, ◌%◌, ◌^◌, ◌≤◌, ◌<◌, length, get_or, true, List, ◌⊎◌, ◌↔◌, ◌≡◌}
use Rattle.bitmap.specs.Map.{cleared, marked, touched}

-- "byte i is bit i mod 64 of word i/64, lowest first"
abbrev pub map_bit : List ℕ → ℕ → ℕ
map_bit m i = get_or m (i / 64) 0 / 2 ^ (i % 64) % 2

abbrev pub InRange : ℕ → ℕ → ℕ → Type 0
InRange at n i = (at ≤ i) × (i < at + n)

abbrev pub OutOfRange : ℕ → ℕ → ℕ → Type 0
OutOfRange at n i = (i < at) ⊎ (at + n ≤ i)

-- in a map that has the range, each bit of it is set, and every other bit is as it was; no word is added
abbrev pub MarkSetsTheRange : Type 0
MarkSetsTheRange =
    (m : List ℕ) (at n : ℕ) → at + n ≤ 64 * length m
    → ((i : ℕ) → InRange at n i → map_bit (marked m at n) i ≡ 1)
    × ((i : ℕ) → OutOfRange at n i → map_bit (marked m at n) i ≡ map_bit m i)
    × (length (marked m at n) ≡ length m)

-- each bit of the range is clear, and every other bit is as it was
abbrev pub ClearClearsTheRange : Type 0
ClearClearsTheRange =
    (m : List ℕ) (at n : ℕ)
    → ((i : ℕ) → InRange at n i → map_bit (cleared m at n) i ≡ 0)
    × ((i : ℕ) → OutOfRange at n i → map_bit (cleared m at n) i ≡ map_bit m i)
    × (length (cleared m at n) ≡ length m)

-- the test says that some bit of the range is set exactly if one is
abbrev pub OverlapIsASetBit : Type 0
OverlapIsASetBit = (m : List ℕ) (at n : ℕ) → (touched m at n ≡ true) ↔ ((i : ℕ) × InRange at n i × (map_bit m i ≡ 1))
