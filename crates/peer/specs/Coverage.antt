-- Accepted segments, and what they cover (01: "it covers the bytes of its data from its offset on"). The map is not read.
use Rattle.std.specs.Prelude.{ℕ, zero, suc, ◌+◌, ◌-◌, Bool, true, false, ◌&&◌, ◌||◌, List, [], ◌∷◌, length, nat_le, nat_lt, slice_index}
use Rattle.laws.specs.Choose.{pick}

pub record Segment : Type 0 where
  pub offset : ℕ
  pub bytes : List ℕ

-- the segment covers offset o of its message
unfoldable pub inside : Segment → ℕ → Bool
inside g o = nat_le g.offset o && nat_lt o (g.offset + length g.bytes)

-- some of the segments does
unfoldable pub covers : List Segment → ℕ → Bool
covers [] o = false
covers (g ∷ gs) o = inside g o || covers gs o

-- each of the n offsets from `at` on has f
unfoldable pub all_of : (ℕ → Bool) → ℕ → ℕ → Bool
all_of f at zero = true
all_of f at (suc n) = all_of f at n && f (at + n)

-- the byte at offset o: that of the segment that covers it
unfoldable pub byte_of : List Segment → ℕ → ℕ
byte_of [] o = 0
byte_of (g ∷ gs) o = pick (inside g o) (slice_index g.bytes (o - g.offset)) (byte_of gs o)

-- the n bytes from offset o on
unfoldable pub bytes_from : List Segment → ℕ → ℕ → List ℕ
bytes_from gs o zero = []
bytes_from gs o (suc n) = byte_of gs o ∷ bytes_from gs (suc o) n
