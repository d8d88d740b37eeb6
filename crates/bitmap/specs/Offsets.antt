-- A range of offsets, of which a function says whether each is marked:
-- what `touched`, `count_set` and `first_clear` say of a map's bits, said of the function.
use Rattle.std.specs.Prelude.{ℕ, zero, suc, ◌+◌, Bool, false, ◌||◌}
use Rattle.laws.specs.Choose.{pick}

-- some of the n offsets from `at` on is marked
unfoldable pub some_of : (ℕ → Bool) → ℕ → ℕ → Bool
some_of f at zero = false
some_of f at (suc n) = some_of f at n || f (at + n)

-- how many of the n offsets from `at` on are marked
unfoldable pub count_of : (ℕ → Bool) → ℕ → ℕ → ℕ
count_of f at zero = 0
count_of f at (suc n) = count_of f at n + pick (f (at + n)) 1 0

-- how many of the n offsets from `at` on stand before the first that is not marked; n if each is marked
unfoldable pub first_not : (ℕ → Bool) → ℕ → ℕ → ℕ
first_not f at zero = 0
first_not f at (suc n) = pick (f at) (suc (first_not f (suc at) n)) 0
