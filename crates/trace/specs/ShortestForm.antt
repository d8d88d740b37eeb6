-- A number is read only where its one shortest form stands (01, "Replay": "below 2^64, shortest form only").
use Rattle.std.specs.Prelude.{ℕ, ◌+◌, ◌-◌, ◌^◌, ◌<◌, List, ◌≡◌, Some, length, get_or}
use Rattle.laws.specs.Parts.{part}
use Rattle.trace.specs.Numbers.{number_at, number_bytes}

-- what a machine's word holds
abbrev pub IsWord : ℕ → Type 0
IsWord v = v < 2 ^ 64

-- what is read is such a number, and its shortest form stands where it is read, up to the place behind it
abbrev pub NumberShortest : Type 0
NumberShortest =
    (s : List ℕ) (at v next : ℕ) → ((i : ℕ) → get_or s i 0 < 256) → number_at s at ≡ Some (v, next)
    → IsWord v × (next ≡ at + length (number_bytes v)) × (part s at (next - at) ≡ number_bytes v)
