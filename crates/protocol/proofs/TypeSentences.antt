-- What a row of the table says of its type is what 01's columns say of the type number: header lengths, the place of the length, fields by their
-- bytes, and the rule on lengths, as specs/ByType.antt writes them out.
use Prim.Native.Nat.{ℕ, ◌+◌, ◌≤◌}
use borrow.Author.Tests.{eqb-true, not-false}
use lib.Dec.{eqb}
use mathlib.Core.Bool.{Bool, true, false, not, ◌||◌}
use mathlib.Core.List.{List, [], ◌∷◌, map}
use mathlib.Core.Logic.{◌⊎◌, ◌↔◌, inl, inr, ⊎_elim, ⊎_map}
use mathlib.Core.Path.{◌≡◌, refl, sym, ap, ◌∙◌, subst}
use native.Mathlib.Omega.{arith}
use Rattle.std.specs.Prelude.{Some, None}
use Rattle.laws.specs.Choose.{pick}
use Rattle.protocol.specs.ByType.{CtsOrData, FlagRule, Known, LengthRule, connid_header, fields_told, header_length, length_at, own_told, shape_told, tagged_told}
use Rattle.protocol.specs.FieldNumbers.{field_in, fields_in, number_in}
use Rattle.protocol.specs.Sentences.{LengthsStandAsTold, TypesAreTheTables}
use Rattle.protocol.specs.Layout.{Field, has, layout, msg_length, own_fields, recv_length, seg_length, seg_offset}
use Rattle.protocol.specs.Lengths.{lengths_fit}
use Rattle.protocol.specs.Types.{admit, every_row, row_of}
use Rattle.protocol.specs.declared.table.Shape.{Shape}
use Rattle.protocol.specs.declared.table.Shape.TheVariants.{Cts, CtsData, Eager, LongCts, Medium}
use Rattle.protocol.specs.declared.table.TypeRow.{TypeRow}
use Rattle.protocol.specs.declared.types.Fields.{Fields}
use Rattle.laws.proofs.Choosing.{all_true, or_cases}
use Rattle.laws.proofs.Comparing.{both_tests, eq_words, le_words}
use Rattle.protocol.proofs.LayoutLaws.{map_among}
use Rattle.protocol.proofs.TableRule.{row_kind, row_passes, rows_say}
use Rattle.protocol.proofs.SentencesHold.{types_are_the_tables}

pub header_in_words : (k : ℕ) (r : TypeRow) → row_of k ≡ Some r → r.header ≡ header_length k
unfolding pick
header_in_words = rows_say (λ k r. r.header) header_length refl

pub lengths_stand_as_told : LengthsStandAsTold
unfolding LengthsStandAsTold pick
lengths_stand_as_told = rows_say (λ k r. r.length_at) length_at refl

pub shape_in_words : (k : ℕ) (r : TypeRow) → row_of k ≡ Some r → r.shape ≡ shape_told k
unfolding pick
shape_in_words = rows_say (λ k r. r.shape) shape_told refl

pub tagged_in_words : (k : ℕ) (r : TypeRow) → row_of k ≡ Some r → r.tagged ≡ tagged_told k
unfolding pick
tagged_in_words = rows_say (λ k r. r.tagged) tagged_told refl

pub connid_in_words : (k : ℕ) (r : TypeRow) → row_of k ≡ Some r → r.connid ≡ connid_header k
unfolding pick
connid_in_words = rows_say (λ k r. r.connid) connid_header refl

-- raw address and CQ data may follow in every type but CTS and CTSDATA
pub request_in_words : (k : ℕ) (r : TypeRow) → row_of k ≡ Some r → (r.request ≡ false) ↔ CtsOrData k
request_in_words k r e = (λ q. ⊎_map (eqb-true k 3) (eqb-true k 4) (or_cases (eqb k 3) (eqb k 4) (not-false _ (sym told ∙ q))), λ c. told ∙ ⊎_elim (λ x. rw x) (λ x. rw x) c)
  where
    told : r.request ≡ not (eqb k 3 || eqb k 4)
    told = rows_say (λ k r. r.request) (λ k. not (eqb k 3 || eqb k 4)) refl k r e

pub fields_in_words : (bs : List ℕ) (k : ℕ) (r : TypeRow) → row_of k ≡ Some r → fields_in (layout r) 4 bs ≡ fields_told bs k
unfolding fields_in field_in layout pick
fields_in_words bs = rows_say (λ k r. fields_in (layout r) 4 bs) (fields_told bs) refl

pub own_in_words : (bs : List ℕ) (k : ℕ) (r : TypeRow) → row_of k ≡ Some r → map (number_in (fields_told bs k)) (own_fields r) ≡ own_told bs k
unfolding own_fields layout pick
own_in_words bs = rows_say (λ k r. map (number_in (fields_told bs k)) (own_fields r)) (own_told bs) refl

-- ---- a type that is not in the table

pub unknown_type : (k : ℕ) → row_of k ≡ None → Known true k → ⊥
unfolding TypesAreTheTables admit
unknown_type k e w =
    let (r, x) = (types_are_the_tables true k).1 w in
    let y : None ≡ Some r = ap (admit every_row) (sym e) ∙ x in
    let z : ◌≡◌ {A = ℕ} 0 1 = cc in
    omega arith

-- no rule speaks of it
pub unknown_flags : (k f : ℕ) → row_of k ≡ None → FlagRule k f
unknown_flags k f e = (
  λ c. absurd (unknown_type k e (⊎_elim (λ x. inl (x, refl)) (λ x. inr (inl x)) c)),
  λ l. absurd (unknown_type k e (inr (inr l))),
)

pub unknown_lengths : (k : ℕ) (v : Fields) (n : ℕ) → row_of k ≡ None → LengthRule k v n
unknown_lengths k v n e =
    record {
      cts = λ x. absurd (unknown_type k e (inl (x, refl)));
      ctsdata = λ x. absurd (unknown_type k e (inr (inl x)));
      medium = ⊎_elim (λ x. absurd (unknown_type k e (inr (inr (omega arith, omega arith)))))
          (λ x. absurd (unknown_type k e (inr (inr (omega arith, omega arith)))));
      long = ⊎_elim (λ x. absurd (unknown_type k e (inr (inr (omega arith, omega arith)))))
          (λ x. absurd (unknown_type k e (inr (inr (omega arith, omega arith)))));
    }

-- ---- lengths

-- the rule by the type's fields
abbrev ShapeRule : Shape → Fields → ℕ → Type 0
ShapeRule Cts v n = (n ≡ 0) × (1 ≤ v.recv_length)
ShapeRule CtsData v n = (n ≡ v.seg_length) × (1 ≤ n)
ShapeRule Eager v n = Unit {0}
ShapeRule Medium v n = (1 ≤ n) × (v.seg_offset + n ≤ v.msg_length)
ShapeRule LongCts v n = (1 ≤ v.msg_length) × (n ≤ v.msg_length)

shape_rule : (s : Shape) (v : Fields) (n : ℕ) → (lengths_fit s v n ≡ true) ↔ ShapeRule s v n
unfolding lengths_fit
shape_rule Cts v n = both_tests (eq_words n 0) (le_words 1 v.recv_length)
shape_rule CtsData v n = let w = both_tests (le_words 1 n) (eq_words n v.seg_length) in (λ e. ((w.0 e).1, (w.0 e).0), λ u. w.1 (u.1, u.0))
shape_rule Eager v n = (λ e. tt, λ u. refl)
shape_rule Medium v n = both_tests (le_words 1 n) (le_words (v.seg_offset + n) v.msg_length)
shape_rule LongCts v n = both_tests (le_words 1 v.msg_length) (le_words n v.msg_length)

-- the types of a shape that has a rule
abbrev numbered : Shape → ℕ → Bool
numbered Cts k = eqb k 3
numbered CtsData k = eqb k 4
numbered Eager k = true
numbered Medium k = eqb k 66 || eqb k 67
numbered LongCts k = eqb k 68 || eqb k 69

either : (k a b : ℕ) → (eqb k a || eqb k b) ≡ true → (k ≡ a) ⊎ (k ≡ b)
either k a b t = ⊎_map (eqb-true k a) (eqb-true k b) (or_cases (eqb k a) (eqb k b) t)

-- the rule by the type's number
module _ (v : Fields) (n : ℕ) where
  shaped : (k : ℕ) (s : Shape) → numbered s k ≡ true → LengthRule k v n → ShapeRule s v n
  shaped k Cts t w = w.cts (eqb-true k 3 t)
  shaped k CtsData t w = w.ctsdata (eqb-true k 4 t)
  shaped k Eager t w = tt
  shaped k Medium t w = w.medium (either k 66 67 t)
  shaped k LongCts t w = w.long (either k 68 69 t)

  type_lengths : (k : ℕ) (r : TypeRow) → row_of k ≡ Some r → ShapeRule r.shape v n ↔ LengthRule k v n
  unfolding pick
  type_lengths k r e = (
    λ x. record {
      cts = λ y. told 3 x y;
      ctsdata = λ y. told 4 x y;
      medium = ⊎_elim (told 66 x) (told 67 x);
      long = ⊎_elim (told 68 x) (told 69 x);
    },
    shaped k r.shape (ap (numbered r.shape) (sym (row_kind k r e)) ∙ row_passes (λ q. numbered q.shape q.kind) refl k r e),
  )
    where
      -- what the shape of type a says, where k is that type
      told : (a : ℕ) → ShapeRule r.shape v n → k ≡ a → ShapeRule (shape_told a) v n
      told a x y = subst (λ (s : Shape). ShapeRule s v n) (shape_in_words k r e ∙ ap shape_told y) x

  pub lengths_in_words : (k : ℕ) (r : TypeRow) → row_of k ≡ Some r → (lengths_fit r.shape v n ≡ true) ↔ LengthRule k v n
  lengths_in_words k r e =
      let a = shape_rule r.shape v n in
      let b = type_lengths k r e in
      (λ t. b.0 (a.0 t), λ w. a.1 (b.1 w))

-- ---- the fields that the rule asks for

abbrev asked : Shape → List Field
asked Cts = recv_length ∷ []
asked CtsData = seg_length ∷ []
asked Eager = []
asked Medium = seg_offset ∷ msg_length ∷ []
asked LongCts = msg_length ∷ []

asked_same : (s : Shape) (v w : Fields) (n : ℕ) → map (number_in v) (asked s) ≡ map (number_in w) (asked s) → lengths_fit s v n ≡ lengths_fit s w n
unfolding lengths_fit
asked_same Cts v w n e = cc
asked_same CtsData v w n e = cc
asked_same Eager v w n e = refl
asked_same Medium v w n e = cc
asked_same LongCts v w n e = cc

-- are the type's own
pub lengths_same : (v w : Fields) (n k : ℕ) (r : TypeRow) → row_of k ≡ Some r
    → map (number_in v) (own_fields r) ≡ map (number_in w) (own_fields r)
    → lengths_fit r.shape v n ≡ lengths_fit r.shape w n
unfolding own_fields layout pick
lengths_same v w n k r row e =
    let own = row_passes (λ q. all_true (map (λ f. has f (own_fields q)) (asked q.shape))) refl k r row in
    asked_same r.shape v w n (map_among (number_in v) (number_in w) (own_fields r) (asked r.shape) e own)
