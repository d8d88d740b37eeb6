-- Integers on the wire (01: "Integers on the wire are little-endian"), over the width in bytes.
use Rattle.std.specs.Prelude.{ℕ, zero, suc, ◌+◌, ◌*◌, ◌/◌, ◌%◌, List, [], ◌∷◌}
use Rattle.laws.specs.Parts.{part}

-- x in n bytes, the least first
unfoldable pub le_bytes : ℕ → ℕ → List ℕ
le_bytes zero x = []
le_bytes (suc n) x = x % 256 ∷ le_bytes n (x / 256)

-- the number that a list of bytes is
unfoldable pub le_of : List ℕ → ℕ
le_of [] = 0
le_of (b ∷ bs) = b + 256 * le_of bs

-- the number in the n bytes of s from `at` on
unfoldable pub le_at : ℕ → List ℕ → ℕ → ℕ
le_at n s at = le_of (part s at n)
