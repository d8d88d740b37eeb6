-- The bytes of a number are its groups: by induction over how many there may be.
use Prim.Native.Nat.{ℕ, zero, suc, ◌+◌, ◌-◌, ◌*◌, ◌/◌, ◌%◌, ◌^◌, ◌≤◌, ◌<◌}
use borrow.Author.Tests.{ltb-true, ltb-false}
use lib.Dec.{ltb}
use lib.ListN.{length, get_or}
use mathlib.Core.List.{List, [], ◌∷◌}
use mathlib.Core.Path.{◌≡◌}
use native.Mathlib.Nat.{pow-suc}
use native.Mathlib.Omega.{arith}
use Rattle.laws.proofs.Choosing.{branch}
use Rattle.trace.specs.NumberGroups.{GroupsOf, groups_value}
use Rattle.trace.specs.Numbers.{groups}

-- the last of two bytes or more is the last of the rest
pub last_behind : (a b : ℕ) (bs : List ℕ) → get_or (a ∷ b ∷ bs) (length (a ∷ b ∷ bs) - 1) 0 ≡ get_or (b ∷ bs) (length (b ∷ bs) - 1) 0
last_behind a b bs =
    let x : length (a ∷ b ∷ bs) - 1 ≡ suc (length bs) = omega arith in
    let y : length (b ∷ bs) - 1 ≡ length bs = omega arith in
    rw (x, y)

one_group : (v : ℕ) → v < 128 → GroupsOf v (v ∷ [])
unfolding groups_value
one_group v h =
    record { some = omega arith; more = λ i l. absurd (omega arith); last = h; shortest = λ l. absurd (omega arith); value = omega arith }

-- the last of a number's groups is 0 only if it is
last_not_zero : (v : ℕ) (bs : List ℕ) → 0 < v → GroupsOf v bs → 0 < get_or bs (length bs - 1) 0
unfolding groups_value
last_not_zero v [] h g = absurd (omega (arith, g.some))
last_not_zero v (b ∷ []) h g = omega (arith, g.value)
last_not_zero v (b ∷ c ∷ bs) h g = g.shortest (omega arith)

-- a group d, and behind it those of a number that is not 0
more_groups : (d v : ℕ) (bs : List ℕ) → d < 128 → 0 < v → GroupsOf v bs → GroupsOf (d + 128 * v) ((128 + d) ∷ bs)
unfolding groups_value
more_groups d v [] h p g = absurd (omega (arith, g.some))
more_groups d v (b ∷ bs) h p g =
    record {
      some = omega arith;
      more = elim [ zero ↦ λ l. (omega arith, omega arith) | suc i ↦ λ l. g.more i (omega arith) ];
      last = rw last_behind g.last;
      shortest = λ l. rw last_behind (last_not_zero v (b ∷ bs) p g);
      value = omega (arith, g.value);
    }

pub groups_of : (k v : ℕ) → v < 128 ^ suc k → GroupsOf v (groups k v)
unfolding groups
groups_of zero v h = one_group v h
groups_of (suc k) v h =
    branch (GroupsOf v) (ltb v 128) _ _ (λ t. one_group v (ltb-true v 128 t))
    (λ t.
    let e : 128 ^ suc (suc k) ≡ 128 ^ suc k * 128 = pow-suc 128 (suc k) in
    let m : 128 ≤ v = ltb-false v 128 t in
    let x : v % 128 + 128 * (v / 128) ≡ v = omega arith in
    rw x at (more_groups (v % 128) (v / 128) (groups k (v / 128)) (omega arith) (omega arith) (groups_of k (v / 128) (omega arith))))
