-- What the rule of the table gives of a row: how long its headers are, and where its fields and its connid stand.
use Prim.Native.Nat.{ℕ, ◌≤◌}
use borrow.Author.Tests.{eq-eqb, ne_eqb}
use lib.Dec.{lit<}
use mathlib.Core.Bool.{Bool, not}
use mathlib.Core.List.{List}
use mathlib.Core.Logic.{⊎_elim}
use mathlib.Core.Path.{◌≡◌, sym, ap, ◌∙◌}
use native.Mathlib.Omega.{arith}
use Rattle.laws.specs.Choose.{pick}
use Rattle.protocol.specs.Arrays.{array_length}
use Rattle.protocol.specs.FieldNumbers.{count_in, field_in, number_there}
use Rattle.protocol.specs.Layout.{Field, layout, multiuse, place_of, tag, width}
use Rattle.protocol.specs.Rules.{NumberWidth, Sound}
use Rattle.protocol.specs.Sections.{connid_at}
use Rattle.protocol.specs.SectionsInTurn.{after_array}
use Rattle.protocol.specs.declared.table.TypeRow.{TypeRow}
use Rattle.wire.specs.LittleEndian.{le_at}
use Rattle.laws.proofs.Choosing.{pick_false, pick_small, pick_true}
use Rattle.protocol.proofs.LayoutLaws.{number_there_lem}

-- the place of a field, with its 8 bytes, lies inside the header even where the type has no such field
pub header_bounds : (r : TypeRow) → Sound r → (8 ≤ r.header) × (r.header ≤ 64)
header_bounds r s = (omega (arith, s.inside tag), s.short)

pub width_eight : (n : ℕ) → NumberWidth n → (n ≡ 0 → ⊥) → (n ≡ 4 → ⊥) → n ≡ 8
width_eight n w p q = ⊎_elim (λ e. absurd (p e)) (λ u. ⊎_elim (λ e. absurd (q e)) (λ e. e) u) w

-- a connid that is there or not
pub connid_small : (r : TypeRow) (t : Bool) → Sound r → pick t r.connid 0 ≤ 8
connid_small r t s =
    let p = pick_small t r.connid in
    ⊎_elim (λ e. omega arith) (⊎_elim (λ e. omega arith) (λ e. omega arith)) s.connid

-- where a type without an array has its raw address
pub after_no_array : (r : TypeRow) (bs : List ℕ) → r.unit ≡ 0 → after_array r bs ≡ r.header
unfolding after_array
after_no_array r bs e = omega (arith, pick_false {A = ℕ} (array_length r (count_in r bs)) 0 (ap not (eq-eqb r.unit 0 e)))

-- where the connid stands
pub connid_after : (r : TypeRow) (at : ℕ) → place_of r multiuse ≡ 0 → connid_at r at ≡ at
unfolding connid_at
connid_after r at e = pick_true _ _ (eq-eqb _ _ e)

pub connid_within : (r : TypeRow) (at : ℕ) → (place_of r multiuse ≡ 0 → ⊥) → connid_at r at ≡ place_of r multiuse
unfolding connid_at
connid_within r at n = pick_false _ _ (ne_eqb (place_of r multiuse) 0 n)

-- a field is read where the row says
pub number_here : (r : TypeRow) (bs : List ℕ) (f : Field) → Sound r → number_there (place_of r f) (width f) bs ≡ field_in (layout r) 4 bs f
number_here r bs f s = ap (λ p. number_there p (width f) bs) (sym (s.placed f)) ∙ sym (number_there_lem (layout r) 4 bs f (lit< tt))

-- that of a field of the type there
pub number_placed : (r : TypeRow) (bs : List ℕ) (f : Field) → Sound r → (place_of r f ≡ 0 → ⊥) → field_in (layout r) 4 bs f ≡ le_at (width f) bs (place_of r f)
unfolding number_there
number_placed r bs f s n = sym (number_here r bs f s) ∙ pick_false _ _ (ne_eqb (place_of r f) 0 n)

-- and is 0 where the type has no such field
pub number_none : (r : TypeRow) (bs : List ℕ) (f : Field) → Sound r → place_of r f ≡ 0 → field_in (layout r) 4 bs f ≡ 0
unfolding number_there
number_none r bs f s e = sym (number_here r bs f s) ∙ pick_true _ _ (eq-eqb (place_of r f) 0 e)
