-- Numbers by their bits: two numbers with the same bits are equal, and the bits of a number less those that another has.
use Prim.Native.Nat.{ℕ, zero, suc, ◌-◌, ◌/◌, ◌%◌, ◌^◌, ◌≤◌, ◌<◌, min}
use lib.Arith.{bin_ind}
use lib.Bits.{bit_and, and_step, and_le_l}
use lib.Dec.{lit<}
use lib.Pow.{pow_mono, shr-shr}
use mathlib.Core.Bool.{Bool, true, ◌&&◌}
use mathlib.Core.Path.{◌≡◌, refl, sym, ap, ◌∙◌}
use native.Mathlib.Decide.{ℕ_discrete}
use native.Mathlib.Nat.{div-one, lt_of_lt_of_le, div-eq_of_lt}
use native.Mathlib.Numerals.{one-add}
use native.Mathlib.Omega.{arith}
use Rattle.protocol.specs.Sentences.{bit_of}
use Rattle.laws.proofs.Choosing.{and_left, and_right}

pub bit_of_zero : (x : ℕ) → bit_of x 0 ≡ x % 2
bit_of_zero x = rw div-one

pub bit_of_suc : (x k : ℕ) → bit_of x (suc k) ≡ bit_of (x / 2) k
bit_of_suc x k = let e : x / 2 ^ suc k ≡ x / 2 / 2 ^ k = sym (rw one-add at (shr-shr x 1 k)) in rw e

-- bits past a number's digits are clear
pub bit_of_past : (n x k : ℕ) → x < 2 ^ n → n ≤ k → bit_of x k ≡ 0
bit_of_past n x k h l = let e : x / 2 ^ k ≡ 0 = div-eq_of_lt (lt_of_lt_of_le h (pow_mono l)) in rw e

all_clear : (y : ℕ) → ((k : ℕ) → bit_of y k ≡ 0) → y ≡ 0
all_clear =
    bin_ind (λ (y : ℕ). ((k : ℕ) → bit_of y k ≡ 0) → y ≡ 0) (λ b. refl)
    (λ y ih b. let lowest = sym (bit_of_zero y) ∙ b 0 in omega (arith, ih (λ k. sym (bit_of_suc y k) ∙ b (suc k))))

pub same_bits : (x y : ℕ) → ((k : ℕ) → bit_of x k ≡ bit_of y k) → x ≡ y
same_bits =
    bin_ind (λ (x : ℕ). (y : ℕ) → ((k : ℕ) → bit_of x k ≡ bit_of y k) → x ≡ y) (λ y b. sym (all_clear y (λ k. sym (b k) ∙ none_set k)))
    (λ x ih y b.
    let lowest = sym (bit_of_zero x) ∙ b 0 ∙ bit_of_zero y in
    omega (arith, ih (y / 2) (λ k. sym (bit_of_suc x k) ∙ b (suc k) ∙ bit_of_suc y k)))
  where
    none_set : (k : ℕ) → bit_of 0 k ≡ 0
    none_set k = bit_of_past 0 0 k (lit< tt) (omega arith)

-- x without the bits of m
pub bit_of_without : (k x m : ℕ) → bit_of (x - bit_and x m) k ≡ bit_of x k - min (bit_of x k) (bit_of m k)
bit_of_without zero x m =
    let s = and_step x m in
    let l = and_le_l (x / 2) (m / 2) in
    rw (bit_of_zero (x - bit_and x m), bit_of_zero x, bit_of_zero m) (omega arith)
bit_of_without (suc k) x m =
    let s = and_step x m in
    let l = and_le_l (x / 2) (m / 2) in
    let half : (x - bit_and x m) / 2 ≡ x / 2 - bit_and (x / 2) (m / 2) = omega arith in
    rw (bit_of_suc (x - bit_and x m) k, bit_of_suc x k, bit_of_suc m k, half) (bit_of_without k (x / 2) (m / 2))

-- a test that computes for each number below n
abbrev pub all_below : ℕ → (ℕ → Bool) → Bool
all_below zero t = true
all_below (suc n) t = t n && all_below n t

pub each_below : (n : ℕ) (t : ℕ → Bool) → all_below n t ≡ true → (i : ℕ) → i < n → t i ≡ true
each_below zero t e i h = absurd (omega arith)
each_below (suc n) t e i h = elim (ℕ_discrete i n) as (λ d. t i ≡ true) [
  | yes x ↦ ap t x ∙ and_left (t n) (all_below n t) e
  | no x ↦ each_below n t (and_right (t n) (all_below n t) e) i (omega (arith, x))
]
