-- A number's groups are read where they stand, whatever stands before and behind them.
use Prim.Native.Nat.{ℕ, zero, suc, ◌+◌, ◌-◌, ◌*◌, ◌/◌, ◌%◌, ◌^◌, ◌≤◌, ◌<◌}
use borrow.Author.Tests.{ltb-true, ltb-false}
use lib.Dec.{ltb}
use lib.ListN.{length, get_or, drop, length-drop}
use lib.Seq.{drop-cons}
use mathlib.Core.List.{List, ◌∷◌, ◌++◌}
use mathlib.Core.Logic.{⊎_elim}
use mathlib.Core.Path.{◌≡◌, ap, ◌∙◌}
use native.Mathlib.Nat.{add-suc, suc-add}
use native.Mathlib.Numerals.{add-one}
use native.Mathlib.Omega.{arith}
use Rattle.std.specs.Prelude.{Some}
use Rattle.trace.specs.Numbers.{groups, last_group, number_from, number_at, number_bytes}
use Rattle.laws.proofs.Choosing.{tested}
use Rattle.trace.proofs.GroupLaws.{groups_last, groups_suc, rest_sum}
use Rattle.trace.proofs.NumberLaws.{last_is, number_last, number_more}
use Rattle.trace.proofs.GroupCounts.{In, in_suc}

-- what stands first in the rest of a list
head_at : (s : List ℕ) (at b : ℕ) (r : List ℕ) → drop at s ≡ b ∷ r → (at < length s) × (get_or s at 0 ≡ b) × (drop (suc at) s ≡ r)
head_at s at b r e =
    let h : at < length s = omega (arith, ap length e, length-drop at s) in
    let c = drop-cons s at 0 h in
    (h, cc, cc)

module _ (s : List ℕ) (at weight sum b : ℕ) (r : List ℕ) (e : drop at s ≡ b ∷ r) where
  from_last : (k : ℕ) → b < 128 → number_from (suc k) s at weight sum ≡ last_group b (suc at) weight sum
  from_last k h = let t = head_at s at b r e in rw (t.1, add-one) at (number_last k s at weight sum t.0 (rw t.1 h))

  from_more : (k : ℕ) → 128 ≤ b → number_from (suc k) s at weight sum ≡ number_from k s (suc at) (weight * 128) (sum + (b - 128) * weight)
  from_more k h = let t = head_at s at b r e in rw (t.1, add-one) at (number_more k s at weight sum t.0 (rw t.1 h))

-- the groups of v are read as v, from the first of them on
abbrev Read : ℕ → List ℕ → ℕ → ℕ → ℕ → ℕ → List ℕ → Type 0
Read k s at weight sum v r =
    In k v → (v ≡ 0 → weight ≤ 1) → sum + v * weight < 2 ^ 64 → drop at s ≡ groups k v ++ r
    → number_from (suc k) s at weight sum ≡ Some (sum + v * weight, at + length (groups k v))

module _ (k : ℕ) (s : List ℕ) (at weight sum v : ℕ) (r : List ℕ) where
  last_read : v < 128 → Read k s at weight sum v r
  last_read d b f h e =
      let g = groups_last k v d in
      rw (g, add-one) (from_last s at weight sum v r (rw g at e) k d ∙ last_is v (suc at) weight sum f h)

  more_read : 128 ≤ v → Read k s (suc at) (weight * 128) (sum + v % 128 * weight) (v / 128) r → Read (suc k) s at weight sum v r
  more_read d ih b f h e =
      let g = groups_suc k v d in
      let e = rw g at e in
      let x : 128 + v % 128 - 128 ≡ v % 128 = omega arith in
      let y = ih (in_suc k v b) (λ w. omega arith) (rw rest_sum h) (head_at s at _ _ e).2 in
      rw (g, from_more s at weight sum _ _ e (suc k) (omega arith), x, y, rest_sum, suc-add, add-suc)

groups_read : (k : ℕ) (s : List ℕ) (at weight sum v : ℕ) (r : List ℕ) → Read k s at weight sum v r
groups_read zero s at weight sum v r = λ b. last_read 0 s at weight sum v r b b
groups_read (suc k) s at weight sum v r =
    ⊎_elim (λ t. last_read (suc k) s at weight sum v r (ltb-true v 128 t))
    (λ t. more_read k s at weight sum v r (ltb-false v 128 t) (groups_read k s (suc at) _ _ _ r)) (tested (ltb v 128))

-- a number is read where it stands
pub number_read : (s : List ℕ) (at v : ℕ) (r : List ℕ) → v < 2 ^ 64 → drop at s ≡ number_bytes v ++ r
    → number_at s at ≡ Some (v, at + length (number_bytes v))
unfolding number_at
number_read s at v r h e =
    let x : 0 + v * 1 ≡ v = omega arith in
    rw x at (groups_read 9 s at 1 0 v r (omega arith) (λ w. omega arith) (omega arith) e)
