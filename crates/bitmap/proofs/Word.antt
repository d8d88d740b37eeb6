-- Laws of words: their digits, an or and a word without some of its digits, and masks.
use Prim.Native.Nat.{ℕ, zero, suc, ◌+◌, ◌-◌, ◌*◌, ◌/◌, ◌%◌, ◌^◌, ◌≤◌, ◌<◌, min, max}
use lib.Arith.{bin_ind}
use lib.Bits.{bit_and, bit_or, and_step, or_step, and_zero_r, and_le_l, or_shifted_r, and_shr, or_shr, and_high}
use lib.Pow.{pow_pos, pow_mono, shr-shr}
use mathlib.Core.Path.{◌≡◌, refl, sym, ap, ◌∙◌}
use native.Mathlib.Nat.{zero-add, suc-add, add_comm, pow-suc, div-one, one-mul, sub-zero, sub_self, div_self, mul-mod_left}
use native.Mathlib.Numerals.{one-add}
use native.Mathlib.Omega.{arith}
use Rattle.bitmap.specs.Map.{bit}
use Rattle.bitmap.specs.Mask.{mask_of}

-- ---- digits

pub bit_small : (w k : ℕ) → bit w k < 2
unfolding bit
bit_small w k = omega arith

half_pow : (x k : ℕ) → x / 2 ^ suc k ≡ x / 2 / 2 ^ k
half_pow x k = sym (rw one-add at (shr-shr x 1 k))

pub bit_suc : (x k : ℕ) → bit x (suc k) ≡ bit (x / 2) k
unfolding bit
bit_suc x k = rw half_pow

pub bit_zero : (x : ℕ) → bit x 0 ≡ x % 2
unfolding bit
bit_zero x = rw div-one

pub no_bit : (k : ℕ) → bit 0 k ≡ 0
no_bit zero = bit_zero 0
no_bit (suc k) = bit_suc 0 k ∙ no_bit k

-- the digits of a power
pow_bit : (k : ℕ) → bit (2 ^ k) k ≡ 1
unfolding bit
pow_bit k = rw (div_self (pow_pos k))

pow_bit_other : (k j : ℕ) → (j ≡ k → ⊥) → bit (2 ^ k) j ≡ 0
pow_bit_other zero zero ne = absurd (ne refl)
pow_bit_other zero (suc j) ne = bit_suc 1 j ∙ no_bit j
pow_bit_other (suc k) zero ne = bit_zero (2 ^ suc k) ∙ rw pow-suc (mul-mod_left (2 ^ k) 2)
pow_bit_other (suc k) (suc j) ne =
    let h : 2 ^ suc k / 2 ≡ 2 ^ k = rw pow-suc (omega arith) in
    rw (bit_suc, h) (pow_bit_other k j (λ e. ne (ap suc e)))

-- ---- an or

or_low : (a b : ℕ) → bit_or a b % 2 ≡ max (a % 2) (b % 2)
or_low a b = omega (arith, or_step a b)

or_half : (a b : ℕ) → bit_or a b / 2 ≡ bit_or (a / 2) (b / 2)
or_half a b = or_shr a b 1

pub or_assoc : (a b c : ℕ) → bit_or (bit_or a b) c ≡ bit_or a (bit_or b c)
or_assoc =
    bin_ind (λ (a : ℕ). (b c : ℕ) → bit_or (bit_or a b) c ≡ bit_or a (bit_or b c)) (λ b c. refl)
    (λ a ih b c. rw (or_step (bit_or a b) c, or_half a b, or_low a b, or_step a (bit_or b c), or_half b c, or_low b c, ih (b / 2) (c / 2)) (omega arith))

bit_or_lem : (a b k : ℕ) → bit (bit_or a b) k ≡ max (bit a k) (bit b k)
unfolding bit
bit_or_lem a b k = rw (or_shr a b k) (or_low _ _)

pub or_same : (w k : ℕ) → bit (bit_or w (2 ^ k)) k ≡ 1
or_same w k = rw (bit_or_lem, pow_bit) (omega (arith, bit_small w k))

pub or_other : (w k j : ℕ) → (j ≡ k → ⊥) → bit (bit_or w (2 ^ k)) j ≡ bit w j
or_other w k j ne = rw (bit_or_lem, pow_bit_other k j ne) (omega arith)

-- ---- a word without the digits of another

abbrev pub without : ℕ → ℕ → ℕ
without w m = w - bit_and w m

without_half : (w m : ℕ) → without w m / 2 ≡ without (w / 2) (m / 2)
without_half w m = omega (arith, and_step w m, and_le_l (w / 2) (m / 2))

without_low : (w m : ℕ) → without w m % 2 ≡ w % 2 - m % 2
without_low w m = omega (arith, and_step w m, and_le_l (w / 2) (m / 2))

-- a number by its half and its lowest digit
halves : (x y : ℕ) → x / 2 ≡ y / 2 → x % 2 ≡ y % 2 → x ≡ y
halves x y p q = omega arith

pub without_or : (a b c : ℕ) → without (without a b) c ≡ without a (bit_or b c)
without_or =
    bin_ind (λ (a : ℕ). (b c : ℕ) → without (without a b) c ≡ without a (bit_or b c)) (λ b c. refl)
    (λ a ih b c. halves (without (without a b) c) (without a (bit_or b c))
    (rw (without_half (without a b) c, without_half a b, without_half a (bit_or b c), or_half b c) (ih (b / 2) (c / 2)))
    (rw (without_low (without a b) c, without_low a b, without_low a (bit_or b c), or_low b c) (omega arith)))

bit_without : (w m k : ℕ) → bit (without w m) k ≡ bit w k - bit m k
bit_without w m zero = rw (bit_zero (without w m), bit_zero w, bit_zero m) (without_low w m)
bit_without w m (suc k) =
    rw (bit_suc (without w m) k, bit_suc w k, bit_suc m k, without_half w m) (bit_without (w / 2) (m / 2) k)

pub without_same : (w k : ℕ) → bit (without w (2 ^ k)) k ≡ 0
without_same w k = bit_without w (2 ^ k) k ∙ rw pow_bit (omega (arith, bit_small w k))

pub without_other : (w k j : ℕ) → (j ≡ k → ⊥) → bit (without w (2 ^ k)) j ≡ bit w j
without_other w k j ne = bit_without w (2 ^ k) j ∙ rw (pow_bit_other k j ne) (omega arith)

pub without_none : (w : ℕ) → without w 0 ≡ w
without_none w = rw and_zero_r (sub-zero w)

-- one digit of a word, in its place
pub and_pow : (w k : ℕ) → bit_and w (2 ^ k) ≡ bit w k * 2 ^ k
unfolding bit
and_pow w k =
    let e : 2 ^ (1 + k) - 2 ^ k ≡ 2 ^ k = rw (one-add, pow-suc) (omega arith) in
    rw e at (and_high w 1 k)

and_half : (a b : ℕ) → bit_and a b / 2 ≡ bit_and (a / 2) (b / 2)
and_half a b = and_shr a b 1

and_low : (a b : ℕ) → bit_and a b % 2 ≡ min (a % 2) (b % 2)
and_low a b = omega (arith, and_step a b)

min_not : (a b : ℕ) → a < 2 → min a (1 - b) ≡ a - b
min_not a b h = omega arith

-- the code's complement of a mask
pub and_not : (k w m : ℕ) → w < 2 ^ k → m < 2 ^ k → bit_and w (2 ^ k - 1 - m) ≡ without w m
and_not zero w m h b =
    let p : w ≡ 0 = omega arith in
    rw p
and_not (suc k) w m h b =
    let e : 2 ^ suc k ≡ 2 ^ k * 2 = pow-suc 2 k in
    let q : (2 ^ suc k - 1 - m) / 2 ≡ 2 ^ k - 1 - m / 2 = omega arith in
    let r : (2 ^ suc k - 1 - m) % 2 ≡ 1 - m % 2 = omega arith in
    let t = and_not k (w / 2) (m / 2) (omega arith) (omega arith) in
    halves (bit_and w (2 ^ suc k - 1 - m)) (without w m)
    (rw (and_half w (2 ^ suc k - 1 - m), q, without_half w m) t)
    (rw (and_low w (2 ^ suc k - 1 - m), r, without_low w m) (min_not (w % 2) (m % 2) (omega arith)))

-- ---- masks

pub mask_zero : (lo : ℕ) → mask_of lo 0 ≡ 0
mask_zero lo = rw zero-add (sub_self (2 ^ lo))

pub mask_suc : (lo n : ℕ) → bit_or (mask_of lo n) (2 ^ (lo + n)) ≡ mask_of lo (suc n)
mask_suc lo n =
    let k : lo ≤ n + lo = omega arith in
    let h : 2 ^ lo ≤ 2 ^ (n + lo) = pow_mono k in
    let p : 0 < 2 ^ lo = pow_pos lo in
    let q = or_shifted_r 1 (n + lo) (2 ^ (n + lo) - 2 ^ lo) (omega arith) in
    rw (add_comm lo n) (rw one-mul at q ∙ rw (suc-add, pow-suc) (omega arith))
