-- Numbers are little-endian and types are the table's: the first statements of specs/Sentences.antt.
use Prim.Native.Nat.{ℕ, zero, suc, ◌+◌, ◌-◌, ◌*◌, ◌/◌, ◌%◌, ◌^◌, ◌<◌}
use borrow.Author.Tests.{leb-true, eqb-true}
use lib.Dec.{leb, eqb}
use lib.ListN.{get_or}
use mathlib.Core.Bool.{Bool, true, false, ◌&&◌, ◌||◌, false≢true, or-true}
use mathlib.Core.List.{List, [], ◌∷◌}
use mathlib.Core.Logic.{◌⊎◌, inl, inr, ⊎_elim, ⊎_map}
use mathlib.Core.Path.{◌≡◌, refl, sym, ap, ap₂, ◌∙◌}
use native.Mathlib.Nat.{zero-div, pow-succ', div-one, div-div-eq-div-mul}
use native.Mathlib.Omega.{arith}
use Rattle.std.specs.Prelude.{Option, Some, None}
use Rattle.laws.specs.Choose.{pick}
use Rattle.laws.specs.Parts.{part}
use Rattle.protocol.specs.ByType.{Known}
use Rattle.protocol.specs.Sentences.{NumbersAreLittleEndian, TypesAreTheTables}
use Rattle.protocol.specs.Types.{admit, reader_rows, row_in, row_of}
use Rattle.protocol.specs.declared.table.TypeRow.{TypeRow}
use Rattle.wire.specs.LittleEndian.{le_at, le_of}
use Rattle.laws.proofs.Choosing.{and_left, and_right, clashing, or_cases, pick_cases, pick_first, pick_true}
use Rattle.laws.proofs.Reading.{get_d_part}
use Rattle.laws.proofs.Storing.{part_all}
use Rattle.protocol.proofs.NumberBits.{each_below}
use Rattle.protocol.proofs.TableRule.{row_kind, row_passes}
use Rattle.wire.proofs.Laws.{le_at_fits}

-- ---- numbers

le_digit : (l : List ℕ) → ((i : ℕ) → get_or l i 0 < 256) → (i : ℕ) → le_of l / 256 ^ i % 256 ≡ get_or l i 0
unfolding le_of
le_digit [] b i = rw (zero-div (256 ^ i))
le_digit (x ∷ l) b zero = let h : x < 256 = b 0 in rw div-one (omega arith)
le_digit (x ∷ l) b (suc i) =
    let h : x < 256 = b 0 in
    let high : (x + 256 * le_of l) / 256 ≡ le_of l = omega arith in
    rw (pow-succ', ← div-div-eq-div-mul, high) (le_digit l (λ i. b (suc i)) i)

pub numbers_are_little_endian : NumbersAreLittleEndian
unfolding NumbersAreLittleEndian le_at
numbers_are_little_endian n bs at b = (
  unfold le_at in (le_at_fits n bs at b),
  λ i l. le_digit (part bs at n) bytes i ∙ get_d_part bs at n i 0 l,
)
  where
    bytes : (i : ℕ) → get_or (part bs at n) i 0 < 256
    bytes = part_all (λ x. x < 256) 0 bs at n b

-- ---- types

abbrev admitted : Bool → Option TypeRow → Bool
admitted all None = false
admitted all (Some r) = all || r.served

row_of_lem : (all : Bool) (o : Option TypeRow) → admitted all o ≡ true → (r : TypeRow) × (admit (reader_rows all) o ≡ Some r)
unfolding admit
row_of_lem all None e = absurd (false≢true e)
row_of_lem all (Some r) e = (r, pick_true (Some r) None e)

pub of_row : (all : Bool) (o : Option TypeRow) (r : TypeRow) → admit (reader_rows all) o ≡ Some r → (o ≡ Some r) × ((all || r.served) ≡ true)
unfolding admit
of_row all None r e = let z : ◌≡◌ {A = ℕ} 0 1 = cc in absurd (omega arith)
of_row all (Some q) r e =
    let (t, s) = pick_first (all || q.served) (Some q) None (Some r) (λ x. let z : ◌≡◌ {A = ℕ} 0 1 = cc in omega arith) e in
    let same : q ≡ r = cc in
    (s, rw same at t)

admitted_any : (all : Bool) (o : Option TypeRow) → admitted false o ≡ true → admitted all o ≡ true
admitted_any all None e = e
admitted_any all (Some r) e = ap (λ (t : Bool). all || t) e ∙ or-true all

known_there : (all : Bool) (k : ℕ) → Known all k → admitted all (row_of k) ≡ true
unfolding row_of row_in pick
known_there all k (inl w) = ap₂ (λ (t : Bool) (n : ℕ). admitted t (row_of n)) w.1 w.0
known_there all k (inr (inl e)) = admitted_any all (row_of k) (ap (λ (n : ℕ). admitted false (row_of n)) e)
known_there all k (inr (inr w)) =
    let e : k ≡ 64 + (k - 64) = omega arith in
    admitted_any all (row_of k)
    (ap (λ (n : ℕ). admitted false (row_of n)) e ∙ each_below 6 (λ i. admitted false (row_of (64 + i))) refl (k - 64) (omega arith))

-- what every row of the table passes
abbrev type_test : TypeRow → Bool
type_test r = pick r.served (eqb r.kind 4 || (leb 64 r.kind && leb r.kind 69)) (eqb r.kind 3)

pub types_are_the_tables : TypesAreTheTables
unfolding TypesAreTheTables
types_are_the_tables all k = (λ w. found w.0 (of_row all (row_of k) w.0 w.1), λ w. row_of_lem all (row_of k) (known_there all k w))
  where
    found : (r : TypeRow) → (row_of k ≡ Some r) × ((all || r.served) ≡ true) → Known all k
    found r (e, a) = ⊎_elim engine_too (λ x. inl (sym kind ∙ eqb-true r.kind 3 x.1, unserved (or_cases all r.served a) x.0)) tests
      where
        kind : r.kind ≡ k
        kind = row_kind k r e

        tests : ((r.served ≡ true) × ((eqb r.kind 4 || (leb 64 r.kind && leb r.kind 69)) ≡ true))
            ⊎ ((r.served ≡ false) × (eqb r.kind 3 ≡ true))
        tests = pick_cases r.served _ _ true (unfold pick in row_passes type_test refl k r e)

        unserved : (all ≡ true) ⊎ (r.served ≡ true) → r.served ≡ false → all ≡ true
        unserved (inl x) y = x
        unserved (inr x) y = clashing r.served x y

        engine_too : (r.served ≡ true) × ((eqb r.kind 4 || (leb 64 r.kind && leb r.kind 69)) ≡ true) → Known all k
        engine_too x =
            inr (⊎_map (λ y. sym kind ∙ eqb-true r.kind 4 y)
            (λ y. (
              omega (arith, kind, leb-true 64 r.kind (and_left (leb 64 r.kind) (leb r.kind 69) y)),
              omega (arith, kind, leb-true r.kind 69 (and_right (leb 64 r.kind) (leb r.kind 69) y)),
            ))
            (or_cases (eqb r.kind 4) (leb 64 r.kind && leb r.kind 69) x.1))
