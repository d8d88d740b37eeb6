-- Laws of reading a number: what the first of the groups left does, how large its parts get, and where a number that is read ends.
use Prim.Native.Nat.{ℕ, zero, suc, ◌+◌, ◌-◌, ◌*◌, ◌^◌, ◌≤◌, ◌<◌}
use borrow.Author.Tests.{ltb-true, leb-false, eqb-true, le-leb, lt-leb, lt-ltb, le-ltb, eq-eqb}
use lib.Dec.{leb, ltb, eqb}
use lib.ListN.{length, get_or}
use mathlib.Core.Bool.{◌&&◌}
use mathlib.Core.List.{List}
use mathlib.Core.Logic.{◌⊎◌, inl, inr, ⊎_elim}
use mathlib.Core.Path.{◌≡◌, refl, ◌∙◌}
use native.Mathlib.Decide.{ℕ_discrete}
use native.Mathlib.Nat.{mul-le-mul_right, pow-le-pow_right, pow-suc}
use native.Mathlib.Numerals.{add-one}
use native.Mathlib.Omega.{arith}
use Rattle.std.specs.Prelude.{Option, None, Some}
use Rattle.laws.proofs.Choosing.{and_left, and_right, branch, pick_either, pick_false, pick_true}
use Rattle.trace.specs.Entries.{on_number, pair_at}
use Rattle.trace.specs.Numbers.{last_group, number_from, number_at}

-- ---- one group

-- nothing is left of the bytes
pub number_end : (k : ℕ) (s : List ℕ) (at weight sum : ℕ) → length s ≤ at → number_from k s at weight sum ≡ None
unfolding number_from
number_end zero s at weight sum h = refl
number_end (suc k) s at weight sum h = pick_true _ _ (le-leb _ _ h)

module _ (k : ℕ) (s : List ℕ) (at weight sum : ℕ) (h : at < length s) where
  pub number_last : get_or s at 0 < 128 → number_from (suc k) s at weight sum ≡ last_group (get_or s at 0) (at + 1) weight sum
  unfolding number_from
  number_last b = rw (add-one, pick_false _ _ (lt-leb _ _ h)) (pick_true _ _ (lt-ltb _ _ b))

  pub number_more : 128 ≤ get_or s at 0
      → number_from (suc k) s at weight sum ≡ number_from k s (at + 1) (weight * 128) (sum + (get_or s at 0 - 128) * weight)
  unfolding number_from
  number_more b = rw (add-one, pick_false _ _ (lt-leb _ _ h)) (pick_false _ _ (le-ltb _ _ b))

module _ (b next weight sum : ℕ) where
  -- a last group of 0 behind others
  pub last_longer : b ≡ 0 → 1 < weight → last_group b next weight sum ≡ None
  unfolding last_group
  last_longer z w = pick_true _ _ (rw (eq-eqb b 0 z) (lt-ltb 1 weight w))

  -- a number of 2^64 or more
  pub last_high : 2 ^ 64 ≤ sum + b * weight → last_group b next weight sum ≡ None
  unfolding last_group
  last_high h = branch (λ r. r ≡ None) (eqb b 0 && ltb 1 weight) _ _ (λ e. refl) (λ e. pick_true _ _ (le-leb _ _ h))

  pub last_is : (b ≡ 0 → weight ≤ 1) → sum + b * weight < 2 ^ 64 → last_group b next weight sum ≡ Some (sum + b * weight, next)
  unfolding last_group
  last_is z h =
      branch (λ r. r ≡ Some (sum + b * weight, next)) (eqb b 0 && ltb 1 weight) _ _
      (λ e. absurd (omega (arith, z (eqb-true b 0 (and_left (eqb b 0) (ltb 1 weight) e)), ltb-true 1 weight (and_right (eqb b 0) (ltb 1 weight) e))))
      (λ e. pick_false _ _ (lt-leb _ _ h))

-- ---- a number underway: the groups before i make `sum`, and the group at i counts `weight` times

pub record Underway (s : List ℕ) (at sum weight i : ℕ) : Type 0 where
  pub start : at ≤ i
  pub few : i - at ≤ 9
  pub counts : weight ≡ 128 ^ (i - at)
  pub below : sum < weight
  pub rest : number_at s at ≡ number_from (10 - (i - at)) s i weight sum

pub underway_start : (s : List ℕ) (at : ℕ) → Underway s at 0 1 at
unfolding number_at
underway_start s at =
    let e : at - at ≡ 0 = omega arith in
    record { start = omega arith; few = omega arith; counts = rw e; below = omega arith; rest = rw e }

pub underway_end : {s : List ℕ} {at sum weight i : ℕ} → Underway s at sum weight i → length s ≤ i → number_at s at ≡ None
underway_end u h = u.rest ∙ number_end _ _ _ _ _ h

module _ {s : List ℕ} {at sum weight i : ℕ} (u : Underway s at sum weight i) where
  -- its group is the tenth, which counts 2^63 times, or an earlier one
  which : ((i - at ≡ 9) × (weight ≡ 2 ^ 63)) ⊎ ((i - at ≤ 8) × (weight ≤ 2 ^ 56))
  which = go (ℕ_discrete (i - at) 9)
    where
      go : Dec (i - at ≡ 9) → ((i - at ≡ 9) × (weight ≡ 2 ^ 63)) ⊎ ((i - at ≤ 8) × (weight ≤ 2 ^ 56))
      go (yes p) = inl (p, u.counts ∙ rw p)
      go (no p) =
          let h : i - at ≤ 8 = omega (arith, u.few) in
          inr (h, rw u.counts (pow-le-pow_right {n = 128} (omega arith) h))

  -- a last group, which is at most 1 if it is the tenth, makes a number below 2^64
  pub last_fits : (b : ℕ) → b < 128 → (weight ≡ 2 ^ 63 → b ≤ 1) → sum + b * weight < 2 ^ 64
  last_fits b h t =
      ⊎_elim (λ w. let k : b ≤ 1 = t w.1 in omega (arith, u.below, mul-le-mul_right weight k))
      (λ w. let k : b ≤ 127 = omega arith in omega (arith, u.below, mul-le-mul_right weight k)) which

  pub weight_fits : weight ≤ 2 ^ 63
  weight_fits = ⊎_elim (λ w. omega arith) (λ w. omega arith) which

  module _ (h : i < length s) where
    -- a group above 1 is the tenth
    pub underway_high : weight ≡ 2 ^ 63 → 1 < get_or s i 0 → number_at s at ≡ None
    unfolding number_from
    underway_high e b =
        let j : i - at ≡ 9 = ⊎_elim (λ w. w.0) (λ w. absurd (omega arith)) which in
        u.rest ∙ rw j (pick_false _ _ (lt-leb _ _ h)
        ∙ pick_either (λ r. r ≡ None) (ltb (get_or s i 0) 128) (last_high (get_or s i 0) (suc i) weight sum (omega (arith, mul-le-mul_right weight b))) refl)

    underway_last : get_or s i 0 < 128 → number_at s at ≡ last_group (get_or s i 0) (i + 1) weight sum
    underway_last b = let e : 10 - (i - at) ≡ suc (9 - (i - at)) = omega (arith, u.few) in u.rest ∙ rw e (number_last _ s i weight sum h b)

    pub underway_longer : get_or s i 0 ≡ 0 → 1 < weight → number_at s at ≡ None
    underway_longer z w = underway_last (omega arith) ∙ last_longer _ _ weight sum z w

    pub underway_is : get_or s i 0 < 128 → (weight ≡ 2 ^ 63 → get_or s i 0 ≤ 1) → (get_or s i 0 ≡ 0 → weight ≤ 1)
        → number_at s at ≡ Some (sum + get_or s i 0 * weight, i + 1)
    underway_is b t z = underway_last b ∙ last_is _ _ weight sum z (last_fits _ b t)

    pub underway_more : 128 ≤ get_or s i 0 → get_or s i 0 < 256 → (weight ≡ 2 ^ 63 → ⊥)
        → Underway s at (sum + (get_or s i 0 - 128) * weight) (weight * 128) (i + 1)
    underway_more b l n =
        let k : get_or s i 0 - 128 ≤ 127 = omega arith in
        let few : i - at ≤ 8 = ⊎_elim (λ w. absurd (n w.1)) (λ w. w.0) which in
        let p : i + 1 - at ≡ suc (i - at) = omega (arith, u.start) in
        let e : 10 - (i - at) ≡ suc (10 - (i + 1 - at)) = omega (arith, u.start) in
        record {
          start = omega (arith, u.start);
          few = omega arith;
          counts = rw (p, pow-suc, u.counts);
          below = omega (arith, u.below, mul-le-mul_right weight k);
          rest = u.rest ∙ rw e (number_more _ s i weight sum h b);
        }

-- ---- where what is read ends

-- a number below 2^64, with nothing read behind the n bytes
abbrev Inside : ℕ → Option (ℕ × ℕ) → Type 0
Inside n None = Unit {0}
Inside n (Some (v, next)) = (next ≤ n) × (v < 2 ^ 64)

from_inside : (k : ℕ) (s : List ℕ) (at weight sum : ℕ) → Inside (length s) (number_from k s at weight sum)
unfolding number_from last_group
from_inside zero s at weight sum = tt
from_inside (suc k) s at weight sum =
    branch (Inside (length s)) (leb (length s) at) _ _ (λ e. tt)
    (λ h. branch (Inside (length s)) (ltb (get_or s at 0) 128) _ _
    (λ e. pick_either (Inside (length s)) (eqb (get_or s at 0) 0 && ltb 1 weight) tt
    (branch (Inside (length s)) (leb (2 ^ 64) (sum + get_or s at 0 * weight)) _ _ (λ f. tt)
    (λ f. (leb-false (length s) at h, leb-false (2 ^ 64) (sum + get_or s at 0 * weight) f))))
    (λ e. from_inside k s (suc at) (weight * 128) (sum + (get_or s at 0 - 128) * weight)))

pub number_inside : (s : List ℕ) (at v next : ℕ) → number_at s at ≡ Some (v, next) → (next ≤ length s) × (v < 2 ^ 64)
unfolding number_at
number_inside s at v next e = rw e at (from_inside 10 s at 1 0)

-- the same of two numbers
abbrev BothInside : ℕ → Option (ℕ × ℕ × ℕ) → Type 0
BothInside n None = Unit {0}
BothInside n (Some (a, b, next)) = (next ≤ n) × (a < 2 ^ 64) × (b < 2 ^ 64)

-- what holds of the result for a malformed number and for each that may be read
pub on_number_lem : {A : Type 0} (P : A → Type 0) (m : Option (ℕ × ℕ)) (bad : A) (f : ℕ → ℕ → A) → P bad → ((v next : ℕ) → m ≡ Some (v, next) → P (f v next))
    → P (on_number m bad f)
on_number_lem P None bad f p q = p
on_number_lem P (Some (v, next)) bad f p q = q v next refl

pub pair_inside : (s : List ℕ) (at a b next : ℕ) → pair_at s at ≡ Some (a, b, next) → (next ≤ length s) × (a < 2 ^ 64) × (b < 2 ^ 64)
unfolding pair_at
pair_inside s at a b next e =
    rw e at (on_number_lem (BothInside (length s)) (number_at s at) None (λ v m. on_number (number_at s m) None (λ w end. Some (v, w, end))) tt
    (λ v m p. on_number_lem (BothInside (length s)) (number_at s m) None (λ w end. Some (v, w, end)) tt
    (λ w end q. let x = number_inside s m w end q in (x.0, (number_inside s at v m p).1, x.1))))
