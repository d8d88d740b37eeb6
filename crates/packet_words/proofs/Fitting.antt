-- Which words the code looks at: to see whether a type may have the optional headers, and whether its own fields hold their numbers, of which a
-- field of 64 bits holds every word.
use Prim.Native.Nat.{ℕ, ◌/◌, ◌%◌, ◌^◌, ◌<◌}
use borrow.Author.Tests.{eq-eqb, eqb-false, lt-ltb, ne_eqb}
use lib.Dec.{eqb, lit<, ltb}
use lib.ListN.{get_or}
use mathlib.Core.Bool.{Bool, true, false, not, ◌&&◌, ◌||◌, false≢true, or-true}
use mathlib.Core.List.{List, [], ◌∷◌}
use mathlib.Core.Logic.{⊎_elim}
use mathlib.Core.Path.{◌≡◌, refl, sym, ◌∙◌}
use native.Mathlib.Omega.{arith}
use Rattle.std.specs.Prelude.{is_some}
use Rattle.laws.specs.Choose.{pick}
use Rattle.protocol.specs.Layout.{Field, count, credit_request, has, is_own, layout, msg_id, msg_length, multiuse, ordinal, own_fields, padding, place_of, recv_id, recv_length, same_field, seg_length, seg_offset, select, send_id, tag, width}
use Rattle.protocol.specs.Optional.{options_fit}
use Rattle.protocol.specs.Rules.{Sound}
use Rattle.protocol.specs.declared.table.TypeRow.{TypeRow}
use Rattle.packet_words.specs.Writing.{cq_data_word, words_cq, fields_fit, words_header, holds, field_word, raw_address_word}
use Rattle.laws.proofs.Choosing.{and_intro, and_left, and_right, pick_false, pick_true, tested}
use Rattle.protocol.proofs.FlagLaws.{options_tested}
use Rattle.protocol.proofs.LayoutLaws.{has_place, place_has, same_field_lem}

-- tests that pass together
same_test_lem : (a b : Bool) → (a ≡ true → b ≡ true) → (b ≡ true → a ≡ true) → a ≡ b
same_test_lem true b p q = sym (p refl)
same_test_lem false true p q = q refl
same_test_lem false false p q = refl

-- CQ data are there where their word is not 0
pub cq_said : (v : List ℕ) → is_some (words_cq v) ≡ not (eqb (cq_data_word v) 0)
unfolding pick
cq_said v = ⊎_elim (λ x. rw x) (λ x. rw x) (tested (eqb (cq_data_word v) 0))

not_not : (t : Bool) → not (not t) ≡ t
not_not true = refl
not_not false = refl

pub options_said : (v : List ℕ) (r : TypeRow) → Sound r → options_fit r (words_header v) ≡ (r.request || (eqb (raw_address_word v) 0 && eqb (cq_data_word v) 0))
options_said v r s = rw (options_tested r (words_header v) s, cq_said v, not_not (eqb (raw_address_word v) 0), not_not (eqb (cq_data_word v) 0))

module _ (v : List ℕ) where
  abbrev fits : Field → Bool
  fits f = ltb (field_word v f) (256 ^ width f)

  -- the own fields among gs hold their numbers exactly if each does
  each_fits : (gs : List Field) → fields_fit v (select is_own gs) ≡ true → (f : Field) → has f gs ≡ true → is_own f ≡ true → fits f ≡ true
  unfolding fields_fit pick
  each_fits [] e f m o = absurd (false≢true m)
  each_fits (g ∷ gs) e f m o =
      let rest : fields_fit v (select is_own gs) ≡ true =
      ⊎_elim (λ t. and_right (fits g) (fields_fit v (select is_own gs)) (rw t at e)) (λ t. rw t at e) (tested (is_own g)) in
      ⊎_elim (λ x.
      let own : is_own g ≡ true = rw (same_field_lem g f x) o in
      let d : (fits g && fields_fit v (select is_own gs)) ≡ true = rw own at e in
      rw (← same_field_lem g f x) (and_left (fits g) (fields_fit v (select is_own gs)) d))
      (λ x. each_fits gs rest f (rw x at m) o)
      (tested (same_field g f))

  all_fit_lem : (gs : List Field) → ((f : Field) → has f gs ≡ true → is_own f ≡ true → fits f ≡ true) → fields_fit v (select is_own gs) ≡ true
  unfolding fields_fit pick
  all_fit_lem [] h = refl
  all_fit_lem (g ∷ gs) h =
      let self : same_field g g ≡ true = eq-eqb (ordinal g) (ordinal g) refl in
      let rest = all_fit_lem gs (λ f m. h f (rw (m, or-true))) in
      ⊎_elim (λ t. rw t (and_intro (fits g) _ (h g (rw self) t) rest)) (λ t. rw t rest) (tested (is_own g))

  module _ (words : (i : ℕ) → get_or v i 0 < 2 ^ 64) (r : TypeRow) (s : Sound r) where
    -- a field's digit in the row's places
    abbrev digit : Field → ℕ
    digit f = r.places / 16 ^ ordinal f % 16

    -- a field of the type has one
    digit_has : (f : Field) → (digit f ≡ 0 → ⊥) → has f (layout r) ≡ true
    digit_has f n = place_has (layout r) 4 f (λ z. let e : place_of r f ≡ 0 = sym (s.placed f) ∙ z in n (omega arith))

    has_digit : (f : Field) → has f (layout r) ≡ true → digit f ≡ 0 → ⊥
    has_digit f m z = has_place (layout r) 4 f (lit< tt) m (s.placed f ∙ (let e : place_of r f ≡ 0 = omega arith in e))

    -- a field of 32 bits
    abbrev narrow : Field → Bool
    narrow f = holds (digit f) (field_word v f)

    narrow_fits : (f : Field) → width f ≡ 4 → narrow f ≡ true → has f (layout r) ≡ true → fits f ≡ true
    narrow_fits f w e m = rw w (sym (pick_false true _ (ne_eqb (digit f) 0 (has_digit f m))) ∙ e)

    fits_narrow : (f : Field) → width f ≡ 4 → (has f (layout r) ≡ true → fits f ≡ true) → narrow f ≡ true
    fits_narrow f w h =
        ⊎_elim (λ x. pick_true _ _ x) (λ x. pick_false _ _ x ∙ rw w at (h (digit_has f (eqb-false _ _ x)))) (tested (eqb (digit f) 0))

    abbrev looked_at : Bool
    looked_at = narrow msg_id && (narrow recv_id && (narrow send_id && narrow credit_request))

    seen : looked_at ≡ true → (f : Field) → has f (layout r) ≡ true → is_own f ≡ true → fits f ≡ true
    seen e msg_id m o = narrow_fits msg_id refl (and_left (narrow msg_id) _ e) m
    seen e recv_id m o = narrow_fits recv_id refl (and_left (narrow recv_id) _ (and_right (narrow msg_id) _ e)) m
    seen e send_id m o = narrow_fits send_id refl (and_left (narrow send_id) _ (and_right (narrow recv_id) _ (and_right (narrow msg_id) _ e))) m
    seen e credit_request m o =
        narrow_fits credit_request refl (and_right (narrow send_id) _ (and_right (narrow recv_id) _ (and_right (narrow msg_id) _ e))) m
    seen e msg_length m o = lt-ltb (get_or v 4 0) (2 ^ 64) (words 4)
    seen e seg_length m o = lt-ltb (get_or v 5 0) (2 ^ 64) (words 5)
    seen e recv_length m o = lt-ltb (get_or v 6 0) (2 ^ 64) (words 6)
    seen e seg_offset m o = lt-ltb (get_or v 7 0) (2 ^ 64) (words 7)
    seen e tag m o = lt-ltb (get_or v 9 0) (2 ^ 64) (words 9)
    seen e multiuse m o = absurd (false≢true o)
    seen e padding m o = absurd (false≢true o)
    seen e count m o = absurd (false≢true o)

    pub own_fit : fields_fit v (own_fields r) ≡ looked_at
    unfolding own_fields
    own_fit =
        same_test_lem _ _
        (λ e.
        let fit : (f : Field) → is_own f ≡ true → has f (layout r) ≡ true → fits f ≡ true = λ f o m. each_fits (layout r) e f m o in
        and_intro _ _ (fits_narrow msg_id refl (fit msg_id refl))
        (and_intro _ _ (fits_narrow recv_id refl (fit recv_id refl))
        (and_intro _ _ (fits_narrow send_id refl (fit send_id refl)) (fits_narrow credit_request refl (fit credit_request refl)))))
        (λ e. all_fit_lem (layout r) (seen e))
