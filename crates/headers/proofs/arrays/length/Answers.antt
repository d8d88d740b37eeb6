-- `headers::arrays::length` meets its contract. The product does not wrap: a member has at most 24 bytes.
use Prim.Native.Nat.{ℕ, ◌-◌, ◌*◌}
use Rattle.protocol.specs.Arrays.{array_length}
use mathlib.Core.Path.{◌≡◌, refl, sym, ap, ◌∙◌}
use native.Mathlib.Nat.{zero-mul}
use native.Mathlib.Omega.{arith}
use Rattle.headers.proofs.arrays.length.Goals as goal

pub returns-then-count-less : goal.returns-then-count-less
unfolding array_length
returns-then-count-less c =
    let a = c.args in
    let z : a.count - a.row.less ≡ 0 = omega (arith, c.if-count-less.true) in
    sym (ap (λ (x : ℕ). x * a.row.unit) z ∙ zero-mul a.row.unit)

pub returns : goal.returns
unfolding array_length
returns c = refl
