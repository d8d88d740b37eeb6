-- How many groups a number has: enough to hold it, and one fewer behind a group that more follow.
use Prim.Native.Nat.{ℕ, zero, suc, ◌+◌, ◌-◌, ◌*◌, ◌/◌, ◌%◌, ◌^◌, ◌≤◌, ◌<◌}
use lib.Dec.{ltb}
use lib.ListN.{length}
use mathlib.Core.List.{List, ◌∷◌}
use mathlib.Core.Path.{◌≡◌}
use native.Mathlib.Nat.{pow-suc}
use native.Mathlib.Omega.{arith}
use Rattle.trace.specs.Numbers.{groups}
use Rattle.laws.proofs.Choosing.{pick_either}
use Rattle.trace.proofs.GroupLaws.{groups_suc}

-- k groups more than one hold v
abbrev pub In : ℕ → ℕ → Type 0
In k v = v < 128 ^ suc k

pub in_suc : (k v : ℕ) → In (suc k) v → In k (v / 128)
in_suc k v h = let e : 128 ^ suc (suc k) ≡ 128 ^ suc k * 128 = pow-suc 128 (suc k) in omega arith

pub groups_more : (k v : ℕ) → 128 ≤ v → In k v → (0 < k) × In (k - 1) (v / 128) × (groups k v ≡ (128 + v % 128) ∷ groups (k - 1) (v / 128))
groups_more zero v h b = absurd (omega arith)
groups_more (suc k) v h b = let p : suc k - 1 ≡ k = omega arith in rw p (omega arith, in_suc k v b, groups_suc k v h)

pub groups_length : (k v : ℕ) → (0 < length (groups k v)) × (length (groups k v) ≤ suc k)
unfolding groups
groups_length zero v = omega arith
groups_length (suc k) v =
    pick_either (λ (l : List ℕ). (0 < length l) × (length l ≤ suc (suc k))) (ltb v 128) (omega arith) (omega (arith, groups_length k (v / 128)))
