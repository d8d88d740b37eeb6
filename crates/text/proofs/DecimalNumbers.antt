-- What is written of a number is decimal and the number itself, `DecimalIsTheNumber` of specs/DecimalNumbers.antt: by induction over the
-- digits, from the last one on.
use Prim.Native.Nat.{ℕ, zero, suc, ◌+◌, ◌-◌, ◌*◌, ◌/◌, ◌^◌, ◌≤◌, ◌<◌}
use borrow.Author.Tests.{ltb-true, ltb-false}
use lib.Dec.{ltb}
use lib.ListN.{length, get_or, length-append, get_or-append}
use lib.Seq.{get_or_at}
use mathlib.Core.List.{List, [], ◌∷◌, ◌++◌}
use mathlib.Core.Logic.{⊎_elim}
use mathlib.Core.Path.{◌≡◌, refl}
use native.Mathlib.Decide.{dec_lt}
use native.Mathlib.Nat.{pow-suc}
use native.Mathlib.Omega.{arith}
use Rattle.laws.proofs.Choosing.{tested}
use Rattle.text.specs.DecimalNumbers.{DecimalIsTheNumber, value_from}
use Rattle.text.specs.Decimals.{digits, last_digit}
use Rattle.text.proofs.DecimalLaws.{digits_more, digits_one}

-- a digit behind others
value_last : (n : ℕ) (l : List ℕ) (b : ℕ) → value_from n (l ++ (b ∷ [])) ≡ 10 * value_from n l + (b - 48)
value_last n [] b = refl
value_last n (a ∷ l) b = value_last (10 * n + (a - 48)) l b

-- digits, the first of which is not 0 where their number is not
record Decimal (v : ℕ) (l : List ℕ) : Type 0 where
  some : 0 < length l
  each : (i : ℕ) → i < length l → (48 ≤ get_or l i 0) × (get_or l i 0 ≤ 57)
  first : 0 < v → 48 < get_or l 0 0
  value : value_from 0 l ≡ v

one : (v : ℕ) → v < 10 → Decimal v ((48 + v) ∷ [])
one v h = record { some = omega arith; each = digit; first = λ p. omega arith; value = omega arith }
  where
    digit : (i : ℕ) → i < 1 → (48 ≤ get_or ((48 + v) ∷ []) i 0) × (get_or ((48 + v) ∷ []) i 0 ≤ 57)
    digit zero k = (omega arith, omega arith)
    digit (suc i) k = absurd (omega arith)

more : (v : ℕ) (l : List ℕ) → 10 ≤ v → Decimal (v / 10) l → Decimal v (l ++ (last_digit v ∷ []))
more v l h d =
    record {
      some = rw length-append (omega (arith, d.some));
      each = λ i k. digit i (rw length-append at k) (dec_lt i (length l));
      first = λ p. rw (get_or-append l (last_digit v ∷ []) 0 0 d.some) (d.first (omega arith));
      value = rw (value_last 0 l (last_digit v), d.value) (omega arith);
    }
  where
    digit : (i : ℕ) → i < length l + 1 → Dec (i < length l)
        → (48 ≤ get_or (l ++ (last_digit v ∷ [])) i 0) × (get_or (l ++ (last_digit v ∷ [])) i 0 ≤ 57)
    digit i k (yes p) = rw (get_or-append l (last_digit v ∷ []) 0 i p) (d.each i p)
    digit i k (no p) =
        let e : length l ≡ i = omega arith in
        rw (get_or_at l (last_digit v) [] 0 i e) (omega arith, omega arith)

decimals : (k v : ℕ) → v < 10 ^ suc k → Decimal v (digits k v)
decimals zero v h = rw (digits_one 0 v (omega arith)) (one v (omega arith))
decimals (suc k) v h =
    let e : 10 ^ suc (suc k) ≡ 10 ^ suc k * 10 = pow-suc 10 (suc k) in
    ⊎_elim (λ t. let l : v < 10 = ltb-true v 10 t in rw (digits_one (suc k) v l) (one v l))
    (λ t. let l : 10 ≤ v = ltb-false v 10 t in rw (digits_more k v l) (more v (digits k (v / 10)) l (decimals k (v / 10) (omega arith))))
    (tested (ltb v 10))

pub decimal_is_the_number : DecimalIsTheNumber
decimal_is_the_number v h =
    let d = decimals 19 v (omega arith) in
    (d.each, λ z. rw z (digits_one 19 0 (omega arith)), d.first, d.value)
