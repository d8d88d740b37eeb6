-- Laws of a counted array: its bytes and its count tell each other, and sums over it do not overflow.
use Prim.Native.Nat.{ℕ, ◌+◌, ◌-◌, ◌*◌, ◌/◌, ◌%◌, ◌^◌, ◌≤◌, ◌<◌}
use borrow.Author.Tests.{eq-eqb, eqb-true, eqb-false, not-true}
use lib.Dec.{eqb}
use lib.ListN.{length}
use mathlib.Core.Bool.{Bool, true, false, not, ◌||◌, or-true}
use mathlib.Core.List.{List, [], ◌∷◌}
use mathlib.Core.Logic.{⊎_elim}
use mathlib.Core.Path.{◌≡◌, refl, sym, ap, ◌∙◌}
use native.Mathlib.Nat.{add-sub_cancel, div-add-mod', div-le_self, mul-div_cancel, mul-le-mul}
use native.Mathlib.Omega.{arith}
use Rattle.laws.specs.Choose.{pick}
use Rattle.protocol.specs.Arrays.{array_allowed, array_count, array_length, array_whole, has_array}
use Rattle.protocol.specs.Rules.{Sound}
use Rattle.protocol.specs.declared.table.TypeRow.{TypeRow}
use Rattle.laws.proofs.Choosing.{pick_false, pick_small, pick_true, tested}
use Rattle.protocol.specs.Limits.{packet_limit}

empty : (l : List ℕ) → length l ≡ 0 → l ≡ []
empty [] e = refl
empty (x ∷ l) e = absurd (omega arith)

-- a type without an array is given none
pub no_array_given : (r : TypeRow) (arr : List ℕ) → array_allowed r (length arr) ≡ true → has_array r ≡ false → arr ≡ []
unfolding array_allowed
no_array_given r arr u e = empty arr (eqb-true (length arr) 0 (ap (λ (t : Bool). t || eqb (length arr) 0) (sym e) ∙ u))

-- no array is what every type may be given
pub none_allowed : (r : TypeRow) → array_allowed r 0 ≡ true
unfolding array_allowed
none_allowed r = or-true (has_array r)

pub none_whole : (r : TypeRow) → r.unit ≡ 0 → array_whole r 0 ≡ true
unfolding array_whole
none_whole r e = pick_false _ _ (ap not (eq-eqb r.unit 0 e))

pub given_size : (r : TypeRow) (n : ℕ) → array_allowed r n ≡ true → pick (has_array r) n 0 ≡ n
unfolding array_allowed
given_size r n u =
    ⊎_elim (λ e. pick_true _ _ e) (λ e. pick_false _ _ e ∙ sym (eqb-true n 0 (ap (λ (t : Bool). t || eqb n 0) (sym e) ∙ u))) (tested (has_array r))

module _ (r : TypeRow) where
  unit_some : has_array r ≡ true → 0 < r.unit
  unit_some e = let n = eqb-false r.unit 0 (not-true (eqb r.unit 0) e) in omega (arith, n)

  -- the count that is written tells the bytes that are given
  pub told_back : (n : ℕ) → has_array r ≡ true → array_whole r n ≡ true → array_length r (array_count r n) ≡ n
  unfolding array_length array_count array_whole
  told_back n e w =
      let z : n % r.unit ≡ 0 = eqb-true _ 0 (sym (pick_true _ _ e) ∙ w) in
      let c : pick (has_array r) (n / r.unit + r.less) 0 - r.less ≡ n / r.unit = ap (λ (x : ℕ). x - r.less) (pick_true _ _ e) ∙ add-sub_cancel (n / r.unit) r.less in
      ap (λ (x : ℕ). x * r.unit) c ∙ (let d = div-add-mod' n r.unit in omega (arith, z, d))

  -- a count that was read tells its bytes, and these tell it again
  pub count_back : (n : ℕ) → has_array r ≡ true → r.less ≤ n → array_count r (array_length r n) ≡ n
  unfolding array_length array_count
  count_back n e l =
      pick_true _ _ e ∙ ap (λ (x : ℕ). x + r.less) (mul-div_cancel (n - r.less) (unit_some e)) ∙ omega (arith, l)

  pub count_small : (n : ℕ) → Sound r → n ≤ packet_limit → array_count r n < 256 ^ 4
  unfolding array_count
  count_small n s l =
      let fewer = div-le_self n r.unit in
      let most = pick_small (has_array r) (n / r.unit + r.less) in
      omega (arith, fewer, most, s.few)

  pub array_small : (n : ℕ) → Sound r → n < 2 ^ 32 → array_length r n < 2 ^ 40
  unfolding array_length
  array_small n s l =
      let fewer : (n - r.less) * r.unit ≤ n * 24 = mul-le-mul (omega arith) s.narrow in
      omega (arith, fewer)
