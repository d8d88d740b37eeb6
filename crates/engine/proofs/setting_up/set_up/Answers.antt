-- `engine::setting_up::set_up` meets its contract: a map cleared word by word is all zeros.
use Prim.Native.Nat.{ℕ}
use lib.ListN.{length}
use mathlib.Core.Path.{ap, sym, ◌∙◌}
use native.Mathlib.Nat.{mul_comm}
use native.Mathlib.Omega.{arith}
use Rattle.bitmap.specs.Map.{cleared}
use Rattle.engine.specs.SetUp.{set_up}
use Rattle.laws.specs.Choose.{pick}
use Rattle.bitmap.proofs.Stores.{cleared_all}
use Rattle.engine.proofs.CheckLaws.{map_small, small}
use Rattle.engine.proofs.Worlds.{lent_lengths}
use Rattle.engine.proofs.setting_up.set_up.Goals as goal

pub returns-then-not-numbers_fit : goal.returns-then-not-numbers_fit
unfolding set_up pick
returns-then-not-numbers_fit c =
    let a = c.args in
    let n = sym c.numbers_fit.ensures ∙ c.if-not-numbers_fit.true in
    rw n (c.refused.ensures a.map.now)

pub lent_fits-requires : goal.lent_fits-requires
lent_fits-requires c =
    let a = c.args in
    small a.n a.area a.limit (sym c.numbers_fit.ensures ∙ c.if-not-numbers_fit.false)

pub returns-then-not-lent_fits : goal.returns-then-not-lent_fits
unfolding set_up pick
returns-then-not-lent_fits c =
    let a = c.args in
    let n = (sym c.numbers_fit.ensures ∙ c.if-not-numbers_fit.false) in
    let l = sym c.lent_fits.ensures ∙ c.if-not-lent_fits.true in
    rw (n, l) (c.refused-then-not-lent_fits.ensures a.map.now)

pub overflow_mul-words : goal.overflow_mul-words
overflow_mul-words c =
    let a = c.args in
    let s = small a.n a.area a.limit (sym c.numbers_fit.ensures ∙ c.if-not-numbers_fit.false) in
    let l = sym c.lent_fits.ensures ∙ c.if-not-lent_fits.false in
    omega (arith, map_small a.n a.area s, (lent_lengths a.n a.area _ _ l).1)

pub returns : goal.returns
unfolding set_up pick
returns c =
    let a = c.args in
    let n = (sym c.numbers_fit.ensures ∙ c.if-not-numbers_fit.false) in
    let l = sym c.lent_fits.ensures ∙ c.if-not-lent_fits.false in
    let all = cleared_all a.map.now (λ i. (c.slice_known-1.given i).fits) in
    let made = c.clear.ensures ∙ ap (λ (k : ℕ). cleared a.map.now 0 k) (mul_comm (length a.map.now) 64) ∙ all in
    rw (n, l, c.fresh.ensures, made)

pub clear-requires-clause-n_bound_2 : goal.clear-requires-clause-n_bound_2
clear-requires-clause-n_bound_2 c =
    let a = c.args in
    let s = small a.n a.area a.limit (sym c.numbers_fit.ensures ∙ c.if-not-numbers_fit.false) in
    let l = sym c.lent_fits.ensures ∙ c.if-not-lent_fits.false in
    omega (arith, map_small a.n a.area s, (lent_lengths a.n a.area _ _ l).1)
