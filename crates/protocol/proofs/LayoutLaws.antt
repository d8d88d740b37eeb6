-- Laws of fields over any list of them: their length and places, and that written fields are read.
use Prim.Native.Nat.{ℕ, ◌+◌, ◌^◌, ◌<◌}
use borrow.Author.Tests.{eq-eqb, eqb-true, ne_eqb}
use lib.Dec.{lit<}
use lib.ListN.{length, get_or, length-append}
use mathlib.Core.Bool.{true, false, false≢true, or-true}
use mathlib.Core.List.{List, [], ◌∷◌, ◌++◌, append_assoc, map}
use mathlib.Core.Logic.{⊎_elim}
use mathlib.Core.Path.{◌≡◌, refl, sym, ap, ap₂, ◌∙◌}
use native.Mathlib.Omega.{arith}
use Rattle.laws.specs.Choose.{pick}
use Rattle.protocol.specs.FieldNumbers.{field_bytes, fields_in, field_in, number_in, field_number, number_there}
use Rattle.protocol.specs.Layout.{Field, count, credit_request, fields, has, is_own, layout, msg_id, msg_length, multiuse, ordinal, padding, place_in, place_of, recv_id, recv_length, same_field, seg_length, seg_offset, select, send_id, tag, width, widths}
use Rattle.protocol.specs.RoundTrip.{Numbers}
use Rattle.protocol.specs.Rules.{Sound}
use Rattle.protocol.specs.declared.table.TypeRow.{TypeRow}
use Rattle.protocol.specs.declared.types.Header.{Header}
use Rattle.wire.specs.LittleEndian.{le_bytes}
use Rattle.laws.proofs.Choosing.{all_true, and_left, and_right, pick_false, pick_true, tested}
use Rattle.wire.proofs.Laws.{le_behind, length_le}

pub length_fields : (gs : List Field) (told : ℕ) (h : Header) → length (field_bytes gs told h) ≡ widths gs
unfolding field_bytes
length_fields [] told h = refl
length_fields (g ∷ gs) told h = rw (length-append, length_le, length_fields gs told h)

-- two fields with one ordinal are the same
named : ℕ → Field
named n = get_or fields n padding

named_ordinal : (g : Field) → named (ordinal g) ≡ g
unfolding named
named_ordinal msg_id = refl
named_ordinal recv_id = refl
named_ordinal send_id = refl
named_ordinal msg_length = refl
named_ordinal seg_length = refl
named_ordinal recv_length = refl
named_ordinal seg_offset = refl
named_ordinal credit_request = refl
named_ordinal tag = refl
named_ordinal multiuse = refl
named_ordinal padding = refl
named_ordinal count = refl

pub same_field_lem : (g f : Field) → same_field g f ≡ true → g ≡ f
same_field_lem g f e = sym (named_ordinal g) ∙ ap named (eqb-true _ _ e) ∙ named_ordinal f

pub other_field : (gs : List Field) (g f : Field) → has g gs ≡ false → has f gs ≡ true → same_field g f ≡ false
other_field gs g f n m = ⊎_elim (λ e. absurd (false≢true (sym n ∙ rw (same_field_lem g f e) m))) (λ e. e) (tested (same_field g f))

-- ---- places

-- a field that has a place among gs is one of them
pub place_has : (gs : List Field) (at : ℕ) (f : Field) → (place_in gs at f ≡ 0 → ⊥) → has f gs ≡ true
unfolding place_in
place_has [] at f n = absurd (n refl)
place_has (g ∷ gs) at f n =
    ⊎_elim (λ e. rw e) (λ e. rw (place_has gs (at + width g) f (λ z. n (pick_false _ _ e ∙ z)), or-true)) (tested (same_field g f))

-- and one of them has a place
pub has_place : (gs : List Field) (at : ℕ) (f : Field) → 0 < at → has f gs ≡ true → place_in gs at f ≡ 0 → ⊥
unfolding place_in
has_place [] at f p m z = false≢true m
has_place (g ∷ gs) at f p m z =
    ⊎_elim (λ e. let x : at ≡ 0 = sym (pick_true _ _ e) ∙ z in omega arith)
    (λ e. has_place gs (at + width g) f (omega arith) (rw e at m) (sym (pick_false _ _ e) ∙ z))
    (tested (same_field g f))

-- a field is read at its place
pub number_there_lem : (gs : List Field) (at : ℕ) (bs : List ℕ) (f : Field) → 0 < at
    → field_in gs at bs f ≡ number_there (place_in gs at f) (width f) bs
unfolding field_in place_in number_there pick
number_there_lem [] at bs f p = refl
number_there_lem (g ∷ gs) at bs f p =
    ⊎_elim (λ e. rw (e, ne_eqb at 0 (λ z. omega arith)))
    (λ e. pick_false _ _ e ∙ number_there_lem gs (at + width g) bs f (omega arith) ∙ ap (λ n. number_there n (width f) bs) (sym (pick_false _ _ e)))
    (tested (same_field g f))

-- ---- numbers

-- the numbers of own fields
number_in_lem : (gs : List Field) (at : ℕ) (bs : List ℕ) (f : Field) → is_own f ≡ true → number_in (fields_in gs at bs) f ≡ field_in gs at bs f
unfolding fields_in
number_in_lem gs at bs msg_id o = refl
number_in_lem gs at bs recv_id o = refl
number_in_lem gs at bs send_id o = refl
number_in_lem gs at bs msg_length o = refl
number_in_lem gs at bs seg_length o = refl
number_in_lem gs at bs recv_length o = refl
number_in_lem gs at bs seg_offset o = refl
number_in_lem gs at bs credit_request o = refl
number_in_lem gs at bs tag o = refl
number_in_lem gs at bs multiuse o = absurd (false≢true o)
number_in_lem gs at bs padding o = absurd (false≢true o)
number_in_lem gs at bs count o = absurd (false≢true o)

own_number : (told : ℕ) (h : Header) (f : Field) → is_own f ≡ true → field_number told h f ≡ number_in h.fields f
unfolding pick
own_number told h msg_id o = refl
own_number told h recv_id o = refl
own_number told h send_id o = refl
own_number told h msg_length o = refl
own_number told h seg_length o = refl
own_number told h recv_length o = refl
own_number told h seg_offset o = refl
own_number told h credit_request o = refl
own_number told h tag o = refl
own_number told h multiuse o = absurd (false≢true o)
own_number told h padding o = absurd (false≢true o)
own_number told h count o = absurd (false≢true o)

-- each number that is written fits its field
number_fits : (told : ℕ) (h : Header) (f : Field) → told < 256 ^ 4 → Numbers h → field_number told h f < 256 ^ width f
number_fits told h msg_id y x = unfold pick in x.fields msg_id
number_fits told h recv_id y x = unfold pick in x.fields recv_id
number_fits told h send_id y x = unfold pick in x.fields send_id
number_fits told h msg_length y x = unfold pick in x.fields msg_length
number_fits told h seg_length y x = unfold pick in x.fields seg_length
number_fits told h recv_length y x = unfold pick in x.fields recv_length
number_fits told h seg_offset y x = unfold pick in x.fields seg_offset
number_fits told h credit_request y x = unfold pick in x.fields credit_request
number_fits told h tag y x = unfold pick in x.fields tag
number_fits told h multiuse y x = unfold pick in x.connid
number_fits told h padding y x = unfold pick in x.fields padding
number_fits told h count y x = unfold pick in y

-- ---- written fields are read

pub number_read : (gs : List Field) (told : ℕ) (h : Header) (a c : List ℕ) (at : ℕ) (f : Field) → told < 256 ^ 4 → Numbers h → length a ≡ at → has f gs ≡ true
    → field_in gs at (a ++ (field_bytes gs told h ++ c)) f ≡ field_number told h f
unfolding field_in field_bytes
number_read [] told h a c at f y x p m = absurd (false≢true m)
number_read (g ∷ gs) told h a c at f y x p m =
    ⊎_elim (λ e. pick_true _ _ e ∙ rw (same_field_lem g f e, append_assoc) (le_behind (width f) (field_number told h f) a _ at (number_fits told h f y x) p))
    (λ e.
    let m : has f gs ≡ true = rw e at m in
    let q : length (a ++ le_bytes (width g) (field_number told h g)) ≡ at + width g = rw (length-append, length_le, p) in
    pick_false _ _ e
    ∙ rw (append_assoc, ← append_assoc a (le_bytes (width g) (field_number told h g)) (field_bytes gs told h ++ c))
    (number_read gs told h (a ++ le_bytes (width g) (field_number told h g)) c (at + width g) f y x q m))
    (tested (same_field g f))

map_own : (u v : Field → ℕ) (gs : List Field) → ((f : Field) → has f gs ≡ true → is_own f ≡ true → u f ≡ v f)
    → map u (select is_own gs) ≡ map v (select is_own gs)
unfolding pick
map_own u v [] h = refl
map_own u v (g ∷ gs) h =
    let self : same_field g g ≡ true = eq-eqb (ordinal g) (ordinal g) refl in
    let rest = map_own u v gs (λ f m. h f (rw (m, or-true))) in
    ⊎_elim (λ e. rw e (ap₂ ◌∷◌ (h g (rw self) e) rest)) (λ e. rw e rest) (tested (is_own g))

-- the own fields of a packet that was written
pub fields_read : (gs : List Field) (told : ℕ) (h : Header) (a c : List ℕ) (at : ℕ) → told < 256 ^ 4 → Numbers h → length a ≡ at
    → map (number_in (fields_in gs at (a ++ (field_bytes gs told h ++ c)))) (select is_own gs) ≡ map (number_in h.fields) (select is_own gs)
fields_read gs told h a c at y x p = map_own _ _ gs (λ f m o. number_in_lem gs at _ f o ∙ number_read gs told h a c at f y x p m ∙ own_number told h f o)

-- ---- two ways to number fields

-- that agree on the fields gs agree on each of them
pub map_has : (u v : Field → ℕ) (gs : List Field) (f : Field) → map u gs ≡ map v gs → has f gs ≡ true → u f ≡ v f
map_has u v [] f e m = absurd (false≢true m)
map_has u v (g ∷ gs) f e m =
    let x : u g ≡ v g = cc in
    let rest : map u gs ≡ map v gs = cc in
    ⊎_elim (λ t. rw (← same_field_lem g f t) x) (λ t. map_has u v gs f rest (rw t at m)) (tested (same_field g f))

-- and on any of them
pub map_among : (u v : Field → ℕ) (gs fs : List Field) → map u gs ≡ map v gs → all_true (map (λ f. has f gs) fs) ≡ true → map u fs ≡ map v fs
map_among u v gs [] e m = refl
map_among u v gs (f ∷ fs) e m =
    ap₂ ◌∷◌ (map_has u v gs f e (and_left (has f gs) _ m)) (map_among u v gs fs e (and_right (has f gs) _ m))

-- the number of a field of a row is that at its place
pub read_there : (r : TypeRow) (bs : List ℕ) (f : Field) → Sound r → number_there (place_of r f) (width f) bs ≡ field_in (layout r) 4 bs f
read_there r bs f s = ap (λ (p : ℕ). number_there p (width f) bs) (sym (s.placed f)) ∙ sym (number_there_lem (layout r) 4 bs f (lit< tt))

-- a field that the row has not reads 0
pub read_none : (r : TypeRow) (bs : List ℕ) (f : Field) → Sound r → place_of r f ≡ 0 → field_in (layout r) 4 bs f ≡ 0
unfolding number_there pick
read_none r bs f s e = sym (read_there r bs f s) ∙ ap (λ (p : ℕ). number_there p (width f) bs) e
