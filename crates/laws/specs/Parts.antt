-- A part of a list, and a list with a part replaced.
use Rattle.std.specs.Prelude.{ℕ, ◌+◌, List, ◌++◌, length, take, drop}

-- the n elements of l from `at` on
unfoldable pub part : {A : Type 0} → List A → ℕ → ℕ → List A
part l at n = take n (drop at l)

-- the list l with s in place of what stood from `at` on
unfoldable pub store_at : {A : Type 0} → List A → ℕ → List A → List A
store_at l at s = take at l ++ s ++ drop (at + length s) l
