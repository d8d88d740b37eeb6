-- Laws of a number's groups: the last group, a group that more follow, and what they count.
use Prim.Native.Nat.{ℕ, zero, suc, ◌+◌, ◌*◌, ◌/◌, ◌%◌, ◌≤◌, ◌<◌}
use borrow.Author.Tests.{lt-ltb, le-ltb}
use mathlib.Core.List.{[], ◌∷◌}
use mathlib.Core.Path.{◌≡◌, refl, ap}
use native.Mathlib.Nat.{mod-add-div}
use native.Mathlib.Omega.{arith}
use Rattle.laws.specs.Choose.{pick}
use Rattle.trace.specs.Numbers.{groups}

pub groups_last : (k v : ℕ) → v < 128 → groups k v ≡ v ∷ []
unfolding groups pick
groups_last zero v h = refl
groups_last (suc k) v h = rw (lt-ltb v 128 h)

pub groups_suc : (k v : ℕ) → 128 ≤ v → groups (suc k) v ≡ (128 + v % 128) ∷ groups k (v / 128)
unfolding groups pick
groups_suc k v h = rw (le-ltb v 128 h)

-- what a group and the rest of the number count
pub rest_sum : (v weight sum : ℕ) → sum + v % 128 * weight + v / 128 * (weight * 128) ≡ sum + v * weight
rest_sum v weight sum = omega (arith, ap (λ (n : ℕ). n * weight) (mod-add-div v 128))
