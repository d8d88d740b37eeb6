-- A range of bits by the words that it lies in, for the contracts of the functions that the public ones share.
use Rattle.std.specs.Prelude.{ℕ, ◌+◌, ◌-◌, ◌/◌, ◌%◌, min}
use Rattle.bitmap.specs.declared.ranges.ThreeParts.{ThreeParts}

-- how many of the n bits from `at` on lie in the word of the first of them
abbrev pub head_of : ℕ → ℕ → ℕ
head_of at n = min (64 - at % 64) n

-- those, then whole words, then the bits that are left
abbrev pub split_of : ℕ → ℕ → ThreeParts
split_of at n =
    record {
      head = head_of at n;
      first = (at + head_of at n) / 64;
      last = (at + head_of at n) / 64 + (n - head_of at n) / 64;
      tail = (n - head_of at n) % 64;
    }
