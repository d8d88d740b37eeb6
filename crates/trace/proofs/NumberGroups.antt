-- The bytes of a number are its groups, and no others are, as specs/NumberGroups.antt states: by induction over the bytes.
use Prim.Native.Nat.{ℕ, suc, ◌+◌, ◌-◌, ◌*◌, ◌/◌, ◌%◌, ◌<◌}
use lib.ListN.{length, get_or}
use mathlib.Core.List.{List, [], ◌∷◌}
use mathlib.Core.Path.{◌≡◌, refl, sym}
use native.Mathlib.Omega.{arith}
use Rattle.trace.specs.NumberGroups.{GroupsOf, NumberInGroups, NumberInNoOther, groups_value}
use Rattle.trace.specs.Numbers.{groups}
use Rattle.trace.proofs.GroupLaws.{groups_last}
use Rattle.trace.proofs.GroupCounts.{In, groups_length, groups_more}
use Rattle.trace.proofs.GroupBytes.{groups_of, last_behind}

pub number_in_groups : NumberInGroups
number_in_groups v h = (groups_of 9 v (omega arith), (groups_length 9 v).1)

-- ---- no others

-- a last group that is not 0 makes a number that is not
value_not_zero : (bs : List ℕ) → get_or bs (length bs - 1) 0 < 128 → 0 < get_or bs (length bs - 1) 0 → 0 < groups_value bs
unfolding groups_value
value_not_zero [] h p = p
value_not_zero (b ∷ []) h p = omega arith
value_not_zero (b ∷ c ∷ bs) h p = omega (arith, value_not_zero (c ∷ bs) (rw last_behind at h) (rw last_behind at p))

-- behind a group stand those of a number that is not 0
rest_groups : (v b c : ℕ) (bs : List ℕ) → GroupsOf v (b ∷ c ∷ bs) → (0 < groups_value (c ∷ bs)) × GroupsOf (groups_value (c ∷ bs)) (c ∷ bs)
rest_groups v b c bs g =
    let l = rw last_behind at g.last in
    let p = rw last_behind at (g.shortest (omega arith)) in
    (value_not_zero (c ∷ bs) l p, record { some = omega arith; more = λ i h. g.more (suc i) (omega arith); last = l; shortest = λ h. p; value = refl })

only_groups : (k v : ℕ) (bs : List ℕ) → In k v → GroupsOf v bs → bs ≡ groups k v
unfolding groups_value
only_groups k v [] h g = absurd (omega (arith, g.some))
only_groups k v (b ∷ []) h g =
    let l : b < 128 = g.last in
    let e : v ≡ b = omega (arith, g.value) in
    rw e (sym (groups_last k b l))
only_groups k v (b ∷ c ∷ bs) h g =
    let n : ℕ = groups_value (c ∷ bs) in
    let (p, r) = rest_groups v b c bs g in
    let m = g.more 0 (omega arith) in
    let e : b % 128 + 128 * n ≡ v = g.value in
    let (_, i, x) = groups_more k v (omega arith) h in
    let lo : 128 + v % 128 ≡ b = omega arith in
    let hi : v / 128 ≡ n = omega arith in
    rw (x, lo, hi, ← only_groups (k - 1) n (c ∷ bs) (rw hi at i) r)

pub number_in_no_other : NumberInNoOther
number_in_no_other v bs h g = only_groups 9 v bs (omega arith) g
