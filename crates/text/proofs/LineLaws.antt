-- Laws of `numbers_line`: the numbers from a place on, and how long a line can be.
use Prim.Native.Nat.{ℕ, suc, ◌+◌, ◌*◌, ◌≤◌, ◌<◌}
use lib.ListN.{length, get_or, drop, length-append, drop_of_length-le}
use lib.Seq.{drop-cons}
use mathlib.Core.List.{List, [], ◌∷◌, ◌++◌}
use mathlib.Core.Path.{◌≡◌}
use native.Mathlib.Omega.{arith}
use Rattle.text.specs.Decimals.{decimal}
use Rattle.text.specs.Lines.{numbers_line, line}
use Rattle.text.proofs.DecimalLaws.{length_digits}

-- one more
pub numbers_turn : (ns : List ℕ) (k : ℕ) → k < length ns
    → numbers_line (drop k ns) ≡ (32 ∷ decimal (get_or ns k 0)) ++ numbers_line (drop (suc k) ns)
unfolding numbers_line
numbers_turn ns k h = rw (drop-cons ns k 0 h)

pub length_turn : (ns : List ℕ) (k : ℕ) → k < length ns
    → length (numbers_line (drop k ns)) ≡ length (decimal (get_or ns k 0)) + length (numbers_line (drop (suc k) ns)) + 1
length_turn ns k h = rw (numbers_turn ns k h, length-append) (omega arith)

-- none is left
pub numbers_end : (ns : List ℕ) (k : ℕ) → length ns ≤ k → numbers_line (drop k ns) ≡ 10 ∷ []
unfolding numbers_line
numbers_end ns k h = rw (drop_of_length-le ns h)

-- ---- lengths

pub length_numbers : (ns : List ℕ) → length (numbers_line ns) ≤ 21 * length ns + 1
unfolding numbers_line
length_numbers [] = omega arith
length_numbers (n ∷ ns) =
    let d = length_digits 19 n in
    let e = length_numbers ns in
    rw length-append (omega arith)

-- a line of a word and numbers below 2^64
pub length_line : (word ns : List ℕ) → length (line word ns) ≤ length word + (21 * length ns + 1)
length_line word ns = let e = length_numbers ns in rw length-append (omega arith)
