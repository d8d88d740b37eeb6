-- `trace::number::number_at` meets its contract: the groups passed, at most nine, make the sum, and the rest of the number is read from i on.
use Prim.Native.Nat.{ℕ, ◌+◌, ◌-◌, ◌*◌, ◌^◌, ◌≤◌, ◌<◌}
use lib.ListN.{length, get_or}
use mathlib.Core.List.{List}
use mathlib.Core.Logic.{◌⊎◌, ⊎_elim}
use mathlib.Core.Path.{◌≡◌, sym}
use native.Mathlib.Omega.{arith}
use Rattle.trace.proofs.NumberLaws.{Underway, last_fits, underway_end, underway_high, underway_is, underway_longer, underway_more, underway_start, weight_fits}
use Rattle.trace.proofs.number.number_at.Goals as goal

-- what a test says where its first part holds
if_first : {P Q : Type 0} → (P × Q) ⊎ (P → ⊥) → P → Q
if_first t p = ⊎_elim (λ w. w.1) (λ n. absurd (n p)) t

-- behind a group that is not the last the number is underway again
goes_on : {s : List ℕ} {at sum weight i : ℕ} → Underway s at sum weight i → i < length s → 128 ≤ get_or s i 0 → get_or s i 0 < 256
    → ((weight ≡ 2 ^ 63) × (get_or s i 0 ≤ 1)) ⊎ (weight ≡ 2 ^ 63 → ⊥)
    → Underway s at (sum + (get_or s i 0 - 128) * weight) (weight * 128) (i + 1)
goes_on u h b l t = underway_more u h b l (λ e. omega (arith, if_first t e))

pub loop-i-init : goal.loop-i-init
loop-i-init c = underway_start _ c.args.at

pub returns-then-group-gt1 : goal.returns-then-group-gt1
returns-then-group-gt1 c = sym (underway_high c.loop-i.invariant c.loop-i-test.true c.if-weight.true c.if-group-gt1.true)

pub returns-then-weight-gt1 : goal.returns-then-weight-gt1
returns-then-weight-gt1 c = sym (underway_longer c.loop-i.invariant c.loop-i-test.true c.if-group-eq0.true c.if-weight-gt1.true)

pub overflow_mul-result : goal.overflow_mul-result
overflow_mul-result c = omega (arith, last_fits c.loop-i.invariant _ c.if-group-lt-MORE.true (if_first c.else-weight.either))

pub overflow_add-result : goal.overflow_add-result
overflow_add-result c = omega (arith, last_fits c.loop-i.invariant _ c.if-group-lt-MORE.true (if_first c.else-weight.either))

pub returns-then-group-lt-MORE : goal.returns-then-group-lt-MORE
returns-then-group-lt-MORE c =
    sym (underway_is c.loop-i.invariant c.loop-i-test.true c.if-group-lt-MORE.true (if_first c.else-weight.either) (if_first c.else-group-eq0.either))

pub loop-i-preserved : goal.loop-i-preserved
loop-i-preserved c =
    goes_on c.loop-i.invariant c.loop-i-test.true c.if-group-lt-MORE.false (omega (arith, c.type_inv.s c.loop-i.i)) c.else-weight.either

pub overflow_mul-sum : goal.overflow_mul-sum
overflow_mul-sum c =
    let u = goes_on c.loop-i.invariant c.loop-i-test.true c.if-group-lt-MORE.false (omega (arith, c.type_inv.s c.loop-i.i)) c.else-weight.either in
    omega (arith, u.below, weight_fits u)

pub overflow_add-sum : goal.overflow_add-sum
overflow_add-sum c =
    let u = goes_on c.loop-i.invariant c.loop-i-test.true c.if-group-lt-MORE.false (omega (arith, c.type_inv.s c.loop-i.i)) c.else-weight.either in
    omega (arith, u.below, weight_fits u)

pub overflow_mul-weight : goal.overflow_mul-weight
overflow_mul-weight c =
    let u = goes_on c.loop-i.invariant c.loop-i-test.true c.if-group-lt-MORE.false (omega (arith, c.type_inv.s c.loop-i.i)) c.else-weight.either in
    omega (arith, weight_fits u)

pub returns : goal.returns
returns c = sym (underway_end c.loop-i.invariant c.loop-i-test.false)
