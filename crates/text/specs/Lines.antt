-- Lines of text: a word, numbers with a space before each, and a line feed.
use Rattle.std.specs.Prelude.{ℕ, zero, suc, List, [], ◌∷◌, ◌++◌}
use Prim.Native.Char.{code}
use Prim.Native.String.{String, len, char_at}
use Rattle.text.specs.Decimals.{decimal}

-- k characters of a text from place i on, by their codes
abbrev pub codes : ℕ → String → ℕ → List ℕ
codes zero t i = []
codes (suc k) t i = code (char_at t i) ∷ codes k t (suc i)

-- a text of ASCII characters, as bytes
abbrev pub bytes_of : String → List ℕ
bytes_of t = codes (len t) t 0

-- " 7 12" and the line's end
unfoldable pub numbers_line : List ℕ → List ℕ
numbers_line [] = 10 ∷ []
numbers_line (n ∷ ns) = 32 ∷ (decimal n ++ numbers_line ns)

abbrev pub line : List ℕ → List ℕ → List ℕ
line word ns = word ++ numbers_line ns
