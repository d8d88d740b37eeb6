-- Laws of `digits`: a number's last digit, how many digits there are, and digits that are set one before the other.
use Prim.Native.Nat.{ℕ, zero, suc, ◌+◌, ◌-◌, ◌/◌, ◌^◌, ◌≤◌, ◌<◌}
use borrow.Author.Tests.{lt-ltb, le-ltb}
use lib.ListN.{length, take, drop, set, length-append, length-drop, length-set}
use lib.Seq.{take_all, append_snoc}
use mathlib.Core.List.{List, [], ◌∷◌, ◌++◌}
use mathlib.Core.Path.{◌≡◌, refl, sym}
use native.Mathlib.Numerals.{sub-one}
use native.Mathlib.Omega.{arith}
use Rattle.laws.specs.Choose.{pick}
use Rattle.laws.proofs.Choosing.{branch}
use Rattle.laws.proofs.Listing.{drop_set}
use Rattle.text.specs.Decimals.{digits, last_digit}

-- one digit
pub digits_one : (k v : ℕ) → v < 10 → digits k v ≡ (48 + v) ∷ []
unfolding digits pick
digits_one zero v h = refl
digits_one (suc k) v h = rw (lt-ltb v 10 h)

-- the last of more
pub digits_more : (k v : ℕ) → 10 ≤ v → digits (suc k) v ≡ digits k (v / 10) ++ (last_digit v ∷ [])
unfolding digits pick
digits_more k v h = rw (le-ltb v 10 h)

-- a number of more than one digit takes more than one place
pub more_places : (k v : ℕ) → 10 ≤ v → v < 10 ^ suc k → 0 < k
more_places zero v l h = omega arith
more_places (suc k) v l h = omega arith

-- without its last digit it takes one place less
pub tenth : (k v : ℕ) → 0 < k → v < 10 ^ suc k → v / 10 < 10 ^ suc (k - 1)
tenth zero v p h = absurd (omega arith)
tenth (suc k) v p h = rw sub-one (omega arith)

pub length_digits : (k v : ℕ) → length (digits k v) ≤ suc k
unfolding digits
length_digits zero v = omega arith
length_digits (suc k) v =
    branch (λ (l : List ℕ). length l ≤ suc (suc k)) _ _ _
    (λ t. omega arith)
    (λ t. let n = length_digits k (v / 10) in rw length-append (omega arith))

-- ---- in an array, from its end

-- the last digit of more is set
pub set_last : (l : List ℕ) (k v : ℕ) → 0 < k → k < length l → 10 ≤ v
    → digits k v ++ drop (suc k) l ≡ digits (k - 1) (v / 10) ++ drop (suc (k - 1)) (set l k (last_digit v))
set_last l zero v p h m = absurd (omega arith)
set_last l (suc k) v p h m =
    rw (sub-one, digits_more k v m, drop_set l (suc k) (last_digit v) h)
    (append_snoc (digits k (v / 10)) (last_digit v) (drop (suc (suc k)) l))

-- the one digit that is left is set
pub set_first : (l : List ℕ) (k v : ℕ) → k < length l → v < 10 → digits k v ++ drop (suc k) l ≡ drop k (set l k (48 + v))
set_first l k v h m = rw (digits_one k v m, drop_set l k (48 + v) h)

-- and the array's part from there on are the digits
pub set_all : (l : List ℕ) (k v : ℕ) (d : List ℕ) → k ≤ 19 → length l ≡ 20 → v < 10 → d ≡ digits k v ++ drop (suc k) l
    → take (20 - k) (drop k (set l k (48 + v))) ≡ d
set_all l k v d h n m e =
    rw (take_all (20 - k) (drop k (set l k (48 + v))) (simp (length-drop, length-set, n) (omega arith)), e)
    (sym (set_first l k v (rw n (omega arith)) m))
