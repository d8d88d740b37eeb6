-- The fields of a header that are put one by one, in any order, each at its place, are stored as one run of bytes behind the base header.
use Prim.Native.Nat.{ℕ, ◌+◌, ◌^◌, ◌≤◌, ◌<◌}
use borrow.Author.Tests.{eq-eqb, ne_eqb, not-true}
use lib.Dec.{lit<}
use lib.ListN.{length, length-append}
use mathlib.Core.Bool.{Bool, true, false, not, ◌||◌, true≢false}
use mathlib.Core.List.{List, [], ◌∷◌, ◌++◌}
use mathlib.Core.Logic.{⊎_elim}
use mathlib.Core.Path.{◌≡◌, refl, sym, ap, ap₂, ◌∙◌, subst}
use native.Mathlib.Nat.{div-eq_of_lt}
use native.Mathlib.Omega.{arith}
use Rattle.laws.specs.Choose.{pick}
use Rattle.laws.specs.Parts.{part, store_at}
use Rattle.protocol.specs.FieldNumbers.{field_bytes, field_number, put_fields, put_there}
use Rattle.protocol.specs.Layout.{Field, count, credit_request, distinct, fields, has, layout, msg_id, msg_length, multiuse, ordinal, padding, place_in, place_of, recv_id, recv_length, same_field, seg_length, seg_offset, send_id, tag, width, widths}
use Rattle.protocol.specs.Rules.{Sound}
use Rattle.protocol.specs.declared.table.TypeRow.{TypeRow}
use Rattle.protocol.specs.declared.types.Header.{Header}
use Rattle.wire.specs.LittleEndian.{le_bytes}
use Rattle.laws.proofs.Choosing.{and_left, and_right, or_left, or_right, pick_false, pick_true, tested}
use Rattle.laws.proofs.Storing.{length_part, length_store, part_add, store_next, store_over, store_own}
use Rattle.protocol.proofs.LayoutLaws.{same_field_lem}
use Rattle.wire.proofs.Laws.{length_le}

-- same_field is symmetric
not_same : (g f : Field) → same_field g f ≡ false → same_field f g ≡ false
not_same g f n = ⊎_elim (λ e. absurd (true≢false (sym (eq-eqb _ _ (ap ordinal (sym (same_field_lem f g e)))) ∙ n))) (λ e. e) (tested (same_field f g))

module _ (told : ℕ) (h : Header) (o : List ℕ) where
  -- the bytes of field g, which stands at `at`: those of the header if it is one of ds, else what stood in o
  abbrev one : List Field → Field → ℕ → List ℕ
  one ds g at = pick (has g ds) (le_bytes (width g) (field_number told h g)) (part o at (width g))

  -- of the fields gs, from `at` on
  abbrev mixed : List Field → List Field → ℕ → List ℕ
  mixed ds [] at = []
  mixed ds (g ∷ gs) at = one ds g at ++ mixed ds gs (at + width g)

  length_one : (ds : List Field) (g : Field) (at : ℕ) → at + width g ≤ length o → length (one ds g at) ≡ width g
  length_one ds g at k =
      ⊎_elim (λ x. ap length (pick_true _ _ x) ∙ length_le (width g) (field_number told h g)) (λ x. ap length (pick_false _ _ x) ∙ length_part o at (width g) k)
      (tested (has g ds))

  length_mixed : (ds gs : List Field) (at : ℕ) → at + widths gs ≤ length o → length (mixed ds gs at) ≡ widths gs
  length_mixed ds [] at k = refl
  length_mixed ds (g ∷ gs) at k = rw (length-append, length_one ds g at (omega arith), length_mixed ds gs (at + width g) (omega arith))

  none_put : (gs : List Field) (at : ℕ) → mixed [] gs at ≡ part o at (widths gs)
  unfolding pick part
  none_put [] at = refl
  none_put (g ∷ gs) at = ap (λ (l : List ℕ). part o at (width g) ++ l) (none_put gs (at + width g)) ∙ sym (part_add o at (width g) (widths gs))

  all_put : (ds gs : List Field) (at : ℕ) → ((f : Field) → has f ds ≡ true) → mixed ds gs at ≡ field_bytes gs told h
  unfolding field_bytes
  all_put ds [] at a = refl
  all_put ds (g ∷ gs) at a = ap₂ ◌++◌ (pick_true _ _ (a g)) (all_put ds gs (at + width g) a)

  -- a field that is none of gs
  other_one : (ds : List Field) (f g : Field) (at : ℕ) → same_field g f ≡ false → one (f ∷ ds) g at ≡ one ds g at
  other_one ds f g at n = ap (λ (t : Bool). pick (t || has g ds) (le_bytes (width g) (field_number told h g)) (part o at (width g))) (not_same g f n)

  other_put : (ds gs : List Field) (f : Field) (at : ℕ) → has f gs ≡ false → mixed (f ∷ ds) gs at ≡ mixed ds gs at
  other_put ds [] f at n = refl
  other_put ds (g ∷ gs) f at n =
      ap₂ ◌++◌ (other_one ds f g at (or_left (same_field g f) (has f gs) n)) (other_put ds gs f (at + width g) (or_right (same_field g f) (has f gs) n))

  -- a field is put at its place among gs
  put_here : (ds gs : List Field) (g : Field) (at : ℕ) (l : List ℕ) → has g gs ≡ false → at + width g ≤ length o → at ≤ length l
      → store_at (store_at l at (mixed ds (g ∷ gs) at)) at (le_bytes (width g) (field_number told h g)) ≡ store_at l at (mixed (g ∷ ds) (g ∷ gs) at)
  put_here ds gs g at l n k m =
      let self : has g (g ∷ ds) ≡ true = rw (eq-eqb (ordinal g) (ordinal g) refl) in
      let new : one (g ∷ ds) g at ≡ le_bytes (width g) (field_number told h g) = pick_true _ _ self in
      store_over l at (one ds g at) _ (mixed ds gs (at + width g)) (length_one ds g at k ∙ sym (length_le (width g) (field_number told h g))) m
      ∙ ap (store_at l at) (sym (ap₂ ◌++◌ new (other_put ds gs g (at + width g) n)))

  put_placed : (ds gs : List Field) (f : Field) (at : ℕ) (l : List ℕ) → 0 < at → distinct gs ≡ true → at + widths gs ≤ length l → length l ≡ length o
      → put_there (place_in gs at f) (width f) (field_number told h f) (store_at l at (mixed ds gs at)) ≡ store_at l at (mixed (f ∷ ds) gs at)
  unfolding put_there place_in
  put_placed ds [] f at l p d k e = pick_true _ _ refl
  put_placed ds (g ∷ gs) f at l p d k e =
      let n : has g gs ≡ false = not-true (has g gs) (and_left (not (has g gs)) (distinct gs) d) in
      ⊎_elim (λ x.
      ap (λ (i : ℕ). put_there i (width f) (field_number told h f) (store_at l at (mixed ds (g ∷ gs) at))) (pick_true _ _ x)
      ∙ pick_false _ _ (ne_eqb at 0 (λ z. omega arith))
      ∙ subst
      (λ (y : Field). store_at (store_at l at (mixed ds (g ∷ gs) at)) at (le_bytes (width y) (field_number told h y)) ≡ store_at l at (mixed (y ∷ ds) (g ∷ gs) at))
      (same_field_lem g f x)
      (put_here ds gs g at l n (omega arith) (omega arith)))
      (λ x.
      let a = one ds g at in
      let size : length a ≡ width g = length_one ds g at (omega arith) in
      let kept : length (store_at l at a) ≡ length l = length_store l at a (omega arith) in
      let next : (fs : List Field) → store_at (store_at l at a) (at + width g) (mixed fs gs (at + width g)) ≡ store_at l at (a ++ mixed fs gs (at + width g)) =
      λ fs. store_next l at a (mixed fs gs (at + width g)) (at + width g) (omega arith) (omega (arith, length_mixed fs gs (at + width g) (omega arith))) in
      ap₂ (λ (i : ℕ) (m : List ℕ). put_there i (width f) (field_number told h f) m) (pick_false _ _ x) (sym (next ds))
      ∙ put_placed ds gs f (at + width g) (store_at l at a) (omega arith) (and_right (not (has g gs)) (distinct gs) d) (omega arith) (kept ∙ e)
      ∙ next (f ∷ ds)
      ∙ ap (λ (m : List ℕ). store_at l at (m ++ mixed (f ∷ ds) gs (at + width g))) (sym (other_one ds f g at x)))
      (tested (same_field g f))

  -- all that are put
  abbrev done : List Field → List Field → List Field
  done [] ds = ds
  done (f ∷ fs) ds = done fs (f ∷ ds)

  puts_placed : (r : TypeRow) → Sound r → r.header ≤ length o → (fs ds : List Field)
      → put_fields r told h fs (store_at o 4 (mixed ds (layout r) 4)) ≡ store_at o 4 (mixed (done fs ds) (layout r) 4)
  puts_placed r s k [] ds = refl
  puts_placed r s k (f ∷ fs) ds =
      ap (put_fields r told h fs)
      (ap (λ (i : ℕ). put_there i (width f) (field_number told h f) (store_at o 4 (mixed ds (layout r) 4))) (sym (s.placed f))
      ∙ put_placed ds (layout r) f 4 o (lit< tt) s.once (omega (arith, s.header)) refl)
      ∙ puts_placed r s k fs (f ∷ ds)

  every_done : (f : Field) → has f (done fields []) ≡ true
  every_done msg_id = refl
  every_done recv_id = refl
  every_done send_id = refl
  every_done msg_length = refl
  every_done seg_length = refl
  every_done recv_length = refl
  every_done seg_offset = refl
  every_done credit_request = refl
  every_done tag = refl
  every_done multiuse = refl
  every_done padding = refl
  every_done count = refl

  pub fields_put : (r : TypeRow) → Sound r → r.header ≤ length o → put_fields r told h fields o ≡ store_at o 4 (field_bytes (layout r) told h)
  fields_put r s k =
      let start : store_at o 4 (mixed [] (layout r) 4) ≡ o =
      ap (store_at o 4) (none_put (layout r) 4) ∙ store_own o 4 (widths (layout r)) (omega (arith, s.header)) in
      ap (put_fields r told h fields) (sym start)
      ∙ puts_placed r s k fields []
      ∙ ap (store_at o 4) (all_put (done fields []) (layout r) 4 every_done)

-- a field whose digit, and all digits above, are 0 is put nowhere
pub not_put : (r : TypeRow) (f : Field) (x : ℕ) (bs : List ℕ) → r.places < 16 ^ ordinal f → put_there (place_of r f) (width f) x bs ≡ bs
unfolding put_there
not_put r f x bs h = let none : place_of r f ≡ 0 = rw (div-eq_of_lt h) in rw none (pick_true bs _ refl)
