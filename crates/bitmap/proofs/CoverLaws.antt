-- A range of the map's bits, of which a function says whether each is set: what is said of the bits is said of the function.
use Prim.Native.Nat.{ℕ, zero, suc, ◌+◌, ◌≤◌, ◌<◌}
use borrow.Author.Tests.{eqb-true, eqb-false}
use lib.Dec.{eqb}
use mathlib.Core.Bool.{Bool, true, false}
use mathlib.Core.List.{List}
use mathlib.Core.Path.{◌≡◌, refl}
use native.Mathlib.Nat.{add_assoc, add-suc}
use native.Mathlib.Omega.{arith}
use Rattle.bitmap.specs.Map.{bit_at, count_set, first_clear, touched}
use Rattle.bitmap.specs.Offsets.{count_of, first_not, some_of}
use Rattle.laws.specs.Choose.{pick}
use Rattle.bitmap.proofs.BitLaws.{bit_at_small}

-- a bit by the test of it

bit_of_test : {b : ℕ} (t : Bool) → b < 2 → eqb b 1 ≡ t → b ≡ pick t 1 0
unfolding pick
bit_of_test {b} true h e = eqb-true b 1 e
bit_of_test {b} false h e = omega (arith, eqb-false b 1 e)

pick_bit : {b : ℕ} (t : Bool) (x : ℕ) → b < 2 → eqb b 1 ≡ t → pick (eqb b 0) 0 x ≡ pick t x 0
unfolding pick
pick_bit {b} true x h e = let p = eqb-true b 1 e in rw p
pick_bit {b} false x h e = let p : b ≡ 0 = omega (arith, eqb-false b 1 e) in rw p

module _ (m : List ℕ) (f : ℕ → Bool) (start len : ℕ) (same : (o : ℕ) → o < len → eqb (bit_at m (start + o)) 1 ≡ f o) where
  pub touched_cover : (at n : ℕ) → at + n ≤ len → touched m (start + at) n ≡ some_of f at n
  unfolding touched some_of
  touched_cover at zero h = refl
  touched_cover at (suc n) h = rw (touched_cover at n (omega arith), add_assoc, same (at + n) (omega arith))

  pub count_cover : (at n : ℕ) → at + n ≤ len → count_set m (start + at) n ≡ count_of f at n
  unfolding count_set count_of
  count_cover at zero h = refl
  count_cover at (suc n) h =
      let e = bit_of_test (f (at + n)) (bit_at_small m (start + (at + n))) (same (at + n) (omega arith)) in
      rw (count_cover at n (omega arith), add_assoc, e)

  pub first_cover : (at n : ℕ) → at + n ≤ len → first_clear m (start + at) n ≡ first_not f at n
  unfolding first_clear first_not
  first_cover at zero h = refl
  first_cover at (suc n) h =
      rw (← add-suc start at, first_cover (suc at) n (omega arith))
      (pick_bit (f at) (suc (first_not f (suc at) n)) (bit_at_small m (start + at)) (same at (omega arith)))
