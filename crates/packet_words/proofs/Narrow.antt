-- Where every number of 32 bits is one, each field of each type holds its number, and the packet writer's own checks are all.
use Prim.Native.Nat.{ℕ, ◌^◌, ◌<◌, ◌≤◌}
use borrow.Author.Tests.{lt-ltb}
use lib.Dec.{eqb, ltb}
use lib.ListN.{get_or}
use mathlib.Core.Bool.{Bool, true, ◌&&◌}
use mathlib.Core.List.{List, [], ◌∷◌}
use mathlib.Core.Logic.{⊎_elim}
use mathlib.Core.Path.{◌≡◌, refl, sym, ap, ◌∙◌}
use native.Mathlib.Nat.{mod-eq_of_lt}
use native.Mathlib.Omega.{arith}
use Rattle.std.specs.Prelude.{Option, Some, None}
use Rattle.laws.specs.Choose.{pick}
use Rattle.laws.proofs.Choosing.{and_intro, and_left, and_right, pick_false, pick_true, tested}
use Rattle.protocol.specs.Layout.{Field, count, credit_request, msg_id, msg_length, multiuse, padding, recv_id, recv_length, seg_length, seg_offset, send_id, tag, width}
use Rattle.protocol.specs.Arrays.{array_allowed}
use Rattle.protocol.specs.Optional.{options_fit}
use Rattle.protocol.specs.Types.{row_of}
use Rattle.protocol.specs.Writing.{WriteLeaves, write_as, write_of, write_typed}
use Rattle.protocol.specs.declared.table.TypeRow.{TypeRow}
use Rattle.packet_words.specs.Writing.{all_narrow, connid_fits, connid_word, fields_fit, words_header, field_word, words_fit, put_of, type_word, put_typed}

module _ (v : List ℕ) (words : (i : ℕ) → get_or v i 0 < 2 ^ 64) (narrow : all_narrow v ≡ true) where
  -- word i is a number of 32 bits
  abbrev is : ℕ → Bool
  is i = ltb (get_or v i 0) (2 ^ 32)

  fits : (f : Field) → ltb (field_word v f) (256 ^ width f) ≡ true
  unfolding all_narrow
  fits msg_id = and_left (is 1) _ narrow
  fits recv_id = and_left (is 2) _ (and_right (is 1) _ narrow)
  fits send_id = and_left (is 3) _ (and_right (is 2) _ (and_right (is 1) _ narrow))
  fits credit_request = and_left (is 8) _ (and_right (is 3) _ (and_right (is 2) _ (and_right (is 1) _ narrow)))
  fits msg_length = lt-ltb (get_or v 4 0) (2 ^ 64) (words 4)
  fits seg_length = lt-ltb (get_or v 5 0) (2 ^ 64) (words 5)
  fits recv_length = lt-ltb (get_or v 6 0) (2 ^ 64) (words 6)
  fits seg_offset = lt-ltb (get_or v 7 0) (2 ^ 64) (words 7)
  fits tag = lt-ltb (get_or v 9 0) (2 ^ 64) (words 9)
  fits multiuse = refl
  fits padding = refl
  fits count = refl

  fields_fit_lem : (fs : List Field) → fields_fit v fs ≡ true
  unfolding fields_fit
  fields_fit_lem [] = refl
  fields_fit_lem (f ∷ fs) = and_intro _ _ (fits f) (fields_fit_lem fs)

  connid_fits_lem : connid_fits v ≡ true
  unfolding all_narrow
  connid_fits_lem =
      ⊎_elim (λ e. pick_true _ _ e)
      (λ e. pick_false _ _ e ∙ and_right (is 8) _ (and_right (is 3) _ (and_right (is 2) _ (and_right (is 1) _ narrow))))
      (tested (eqb (connid_word v) 0))

  words_fit_lem : (r : TypeRow) → words_fit r v ≡ true
  unfolding words_fit
  words_fit_lem r = and_intro _ _ (fields_fit_lem _) connid_fits_lem

  pub written_at_once : (raw body out : List ℕ) (size : ℕ) → type_word v ≤ 255
      → put_typed (row_of (type_word v)) v raw body out size ≡ put_of size (write_of (words_header v) raw body out)
  unfolding put_typed write_of write_typed write_as pick
  written_at_once raw body out size small = go (row_of (type_word v)) refl
    where
      of_row : Option TypeRow → WriteLeaves
      of_row o = write_typed o (words_header v) [] raw body out

      as_row : (o : Option TypeRow) → row_of (type_word v) ≡ o → write_of (words_header v) raw body out ≡ of_row o
      as_row o e = ap (λ (n : ℕ). of_row (row_of n)) (mod-eq_of_lt (omega arith)) ∙ ap of_row e

      go : (o : Option TypeRow) → row_of (type_word v) ≡ o → put_typed o v raw body out size ≡ put_of size (write_of (words_header v) raw body out)
      go None e = ap (put_of size) (sym (as_row None e))
      go (Some r) e =
          rw (words_fit_lem r)
          (⊎_elim (λ t. rw t) (λ t. rw t (ap (put_of size) (sym (as_row (Some r) e ∙ pick_false _ _ (ap (λ (b : Bool). b && array_allowed r 0) t))))) (tested (options_fit r (words_header v))))
