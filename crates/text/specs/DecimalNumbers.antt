-- What is written of a number is decimal and the number itself (01, "Replay": "Numbers are decimal"): by digits and their value alone,
-- not by how they are made.
use Rattle.std.specs.Prelude.{ℕ, ◌+◌, ◌-◌, ◌*◌, ◌^◌, ◌≤◌, ◌<◌, List, [], ◌∷◌, ◌≡◌, length, get_or}
use Rattle.text.specs.Decimals.{decimal}

-- the value of ASCII digits behind others whose value is n, the highest first
abbrev pub value_from : ℕ → List ℕ → ℕ
value_from n [] = n
value_from n (b ∷ bs) = value_from (10 * n + (b - 48)) bs

-- only the digits 0 to 9, none of them 0 before others, and their value
abbrev pub DecimalIsTheNumber : Type 0
DecimalIsTheNumber =
    (v : ℕ) → v < 2 ^ 64
    → ((i : ℕ) → i < length (decimal v) → (48 ≤ get_or (decimal v) i 0) × (get_or (decimal v) i 0 ≤ 57))
    × (v ≡ 0 → decimal v ≡ 48 ∷ [])
    × (0 < v → 48 < get_or (decimal v) 0 0)
    × (value_from 0 (decimal v) ≡ v)
