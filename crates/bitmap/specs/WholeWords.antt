-- Whole words, one after the other, for the contracts of the functions that the public ones share.
use Rattle.std.specs.Prelude.{ℕ, suc, ◌+◌, List, [], ◌∷◌, eqb}
use Rattle.std.specs.Int.Bits.{bit_or}
use Rattle.std.specs.Int.Count.{ones}
use Rattle.laws.specs.Choose.{pick}

-- the bits that some of the words has
unfoldable pub or_of : List ℕ → ℕ
or_of [] = 0
or_of (w ∷ ws) = bit_or w (or_of ws)

-- how many bits of the words are set
unfoldable pub ones_of : List ℕ → ℕ
ones_of [] = 0
ones_of (w ∷ ws) = ones w + ones_of ws

-- how many of the words stand before the first that is not full
unfoldable pub full_run : List ℕ → ℕ
full_run [] = 0
full_run (w ∷ ws) = pick (eqb w 18446744073709551615) (suc (full_run ws)) 0
