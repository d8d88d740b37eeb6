-- Laws of little-endian numbers, over the width: reading undoes writing, writing undoes reading, and a number in two halves.
use Prim.Native.Nat.{ℕ, zero, suc, ◌+◌, ◌*◌, ◌/◌, ◌%◌, ◌^◌, ◌≤◌, ◌<◌}
use lib.Arith.{mod-mul}
use lib.Dec.{lit<}
use lib.ListN.{length, get_or, length-take, replicate}
use mathlib.Core.List.{List, [], ◌∷◌, ◌++◌, append_assoc}
use mathlib.Core.Path.{◌≡◌, refl, sym}
use native.Mathlib.Nat.{zero-add, suc-add, mul_assoc, pow-suc, pow-succ', div-one, div-div-eq-div-mul, mod-eq_of_lt, div-eq_of_lt}
use native.Mathlib.Omega.{arith}
use Rattle.laws.specs.Parts.{part, store_at}
use Rattle.wire.specs.LittleEndian.{le_at, le_bytes, le_of}
use Rattle.laws.proofs.Storing.{length_part, part_add, part_all, part_middle, store_next}

pub length_le : (n x : ℕ) → length (le_bytes n x) ≡ n
unfolding le_bytes
length_le zero x = refl
length_le (suc n) x = rw (length_le n (x / 256))

pub bytes_none : (x : ℕ) → le_bytes 0 x ≡ []
unfolding le_bytes
bytes_none x = refl

-- the number of a number's bytes
le_of_bytes : (n x : ℕ) → x < 256 ^ n → le_of (le_bytes n x) ≡ x
unfolding le_of le_bytes
le_of_bytes zero x h = omega arith
le_of_bytes (suc n) x h =
    let e : 256 ^ suc n ≡ 256 ^ n * 256 = pow-suc 256 n in
    rw (le_of_bytes n (x / 256) (omega arith)) (omega arith)

-- the bytes of a list's number: the list, where its elements are bytes
bytes_of_le : (l : List ℕ) → ((i : ℕ) → get_or l i 0 < 256) → le_bytes (length l) (le_of l) ≡ l
unfolding le_of le_bytes
bytes_of_le [] f = refl
bytes_of_le (b ∷ l) f =
    let h : b < 256 = f 0 in
    let lo : (b + 256 * le_of l) % 256 ≡ b = omega arith in
    let hi : (b + 256 * le_of l) / 256 ≡ le_of l = omega arith in
    rw (lo, hi, bytes_of_le l (λ i. f (suc i)))

-- the bytes of a number that was read
pub bytes_again : (n : ℕ) (l : List ℕ) (at : ℕ) → ((i : ℕ) → get_or l i 0 < 256) → at + n ≤ length l → le_bytes n (le_at n l at) ≡ part l at n
unfolding le_at
bytes_again n l at f h = rw (length_part l at n h) at (bytes_of_le (part l at n) (part_all (λ b. b < 256) 0 l at n f))

-- a number that stands behind other bytes
pub le_behind : (n x : ℕ) (a c : List ℕ) (at : ℕ) → x < 256 ^ n → length a ≡ at → le_at n (a ++ (le_bytes n x ++ c)) at ≡ x
unfolding le_at
le_behind n x a c at h p = rw (part_middle a (le_bytes n x) c at n p (length_le n x)) (le_of_bytes n x h)

-- a number in two parts
le_append : (a b : List ℕ) → le_of (a ++ b) ≡ le_of a + 256 ^ length a * le_of b
unfolding le_of
le_append [] b = omega arith
le_append (x ∷ a) b = rw (le_append a b, pow-succ', mul_assoc) (omega arith)

pub le_halves : (m n : ℕ) (s : List ℕ) (at : ℕ) → at + (m + n) ≤ length s → le_at (m + n) s at ≡ le_at m s at + 256 ^ m * le_at n s (at + m)
unfolding le_at
le_halves m n s at h = rw (part_add s at m n, le_append, length_part s at m (omega arith))

pow256 : (n : ℕ) → 0 < 256 ^ n
pow256 zero = lit< tt
pow256 (suc n) = let e : 256 ^ suc n ≡ 256 ^ n * 256 = pow-suc 256 n in omega (arith, pow256 n)

bytes_halves : (m n z : ℕ) → le_bytes (m + n) z ≡ le_bytes m (z % 256 ^ m) ++ le_bytes n (z / 256 ^ m)
unfolding le_bytes
bytes_halves zero n z = rw (zero-add, div-one)
bytes_halves (suc m) n z =
    let k : 0 < 256 = lit< tt in
    let e : z % 256 ^ suc m ≡ z / 256 % 256 ^ m * 256 + z % 256 = rw pow-suc (mod-mul z (pow256 m) k) in
    let q : z / 256 ^ suc m ≡ z / 256 / 256 ^ m = rw pow-succ' (sym (div-div-eq-div-mul z 256 (256 ^ m))) in
    let r : z % 256 ^ suc m % 256 ≡ z % 256 = omega arith in
    let t : z % 256 ^ suc m / 256 ≡ z / 256 % 256 ^ m = omega arith in
    rw (suc-add, r, t, q, bytes_halves m n (z / 256))

-- its parts stored side by side
pub store_halves : (m n x : ℕ) (l : List ℕ) (at : ℕ) → at + (m + n) ≤ length l
    → store_at (store_at l at (le_bytes m (x % 256 ^ m))) (at + m) (le_bytes n (x / 256 ^ m)) ≡ store_at l at (le_bytes (m + n) x)
store_halves m n x l at h =
    let p = length_le m (x % 256 ^ m) in
    let q = length_le n (x / 256 ^ m) in
    rw bytes_halves (store_next l at (le_bytes m (x % 256 ^ m)) (le_bytes n (x / 256 ^ m)) (at + m) (omega arith) (omega arith))

-- bytes that are read are a number that fits
le_fits : (n : ℕ) (l : List ℕ) → length l ≤ n → ((i : ℕ) → get_or l i 0 < 256) → le_of l < 256 ^ n
unfolding le_of
le_fits n [] h f = pow256 n
le_fits zero (b ∷ l) h f = absurd (omega arith)
le_fits (suc n) (b ∷ l) h f =
    let e : 256 ^ suc n ≡ 256 ^ n * 256 = pow-suc 256 n in
    let q = le_fits n l (omega arith) (λ i. f (suc i)) in
    let z : b < 256 = f 0 in
    omega arith

-- a number in more bytes than it needs
pub bytes_zero : (n : ℕ) → le_bytes n 0 ≡ replicate n 0
unfolding le_bytes
bytes_zero zero = refl
bytes_zero (suc n) = rw (bytes_zero n)

bytes_wide : (m n x : ℕ) → x < 256 ^ m → le_bytes (m + n) x ≡ le_bytes m x ++ replicate n 0
bytes_wide m n x h = rw (bytes_halves m n x, mod-eq_of_lt h, div-eq_of_lt h, bytes_zero n)

pub le_behind_wide : (m n x : ℕ) (a c : List ℕ) (at : ℕ) → x < 256 ^ m → length a ≡ at → le_at m (a ++ (le_bytes (m + n) x ++ c)) at ≡ x
le_behind_wide m n x a c at h p = rw (bytes_wide m n x h, append_assoc) (le_behind m x a (replicate n 0 ++ c) at h p)

pub le_at_fits : (n : ℕ) (l : List ℕ) (at : ℕ) → ((i : ℕ) → get_or l i 0 < 256) → le_at n l at < 256 ^ n
unfolding le_at part
le_at_fits n l at f = le_fits n (part l at n) (simp length-take (omega arith)) (part_all (λ b. b < 256) 0 l at n f)

pub bytes_again_wide : (m n : ℕ) (l : List ℕ) (at : ℕ) → ((i : ℕ) → get_or l i 0 < 256) → at + m ≤ length l
    → le_bytes (m + n) (le_at m l at) ≡ part l at m ++ replicate n 0
bytes_again_wide m n l at f h = rw (bytes_wide m n (le_at m l at) (le_at_fits m l at f), bytes_again m l at f h)
