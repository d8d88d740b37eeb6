-- Fields that were read are written again: each field's bytes are the packet's own, and zero for a field that no value is read from.
use Prim.Native.Nat.{ℕ, ◌+◌, ◌≤◌, ◌<◌}
use borrow.Author.Tests.{eq-eqb, not-true}
use lib.ListN.{length, get_or, replicate, length-append, length-replicate}
use mathlib.Core.Bool.{Bool, true, false, not, ◌&&◌, ◌||◌, or-true}
use mathlib.Core.List.{List, [], ◌∷◌, ◌++◌, append_assoc}
use mathlib.Core.Logic.{⊎_elim}
use mathlib.Core.Path.{◌≡◌, refl, sym, ap, ap₂, ◌∙◌}
use native.Mathlib.Omega.{arith}
use Rattle.laws.specs.Choose.{pick}
use Rattle.laws.specs.Parts.{part, store_at}
use Rattle.protocol.specs.FieldNumbers.{field_bytes, field_in, field_number}
use Rattle.protocol.specs.Layout.{Field, distinct, has, multiuse, ordinal, padding, same_field, width, widths}
use Rattle.protocol.specs.declared.types.Header.{Header}
use Rattle.wire.specs.LittleEndian.{le_at, le_bytes}
use Rattle.laws.proofs.Choosing.{and_left, and_right, pick_false, pick_true, tested}
use Rattle.laws.proofs.Storing.{length_part, length_store, part_add, store_middle}
use Rattle.protocol.proofs.LayoutLaws.{other_field}
use Rattle.wire.proofs.Laws.{bytes_again, bytes_zero}

-- padding, and multiuse where it is not flagged
abbrev pub is_blank : Bool → Field → Bool
is_blank flagged f = same_field padding f || (same_field multiuse f && not flagged)

-- the bytes of the fields gs, which stand in bs from `at` on, with zero for the blank ones
abbrev kept : Bool → List Field → ℕ → List ℕ → List ℕ
kept t [] at bs = []
kept t (g ∷ gs) at bs = pick (is_blank t g) (replicate (width g) 0) (part bs at (width g)) ++ kept t gs (at + width g) bs

-- the list l, where the fields gs stand from `at` on, with zero for the blank ones
abbrev pub zeroed_fields : Bool → List Field → ℕ → List ℕ → List ℕ
zeroed_fields t [] at l = l
zeroed_fields t (g ∷ gs) at l = zeroed_fields t gs (at + width g) (pick (is_blank t g) (store_at l at (replicate (width g) 0)) l)

-- a header, with the count that is told, has the numbers that the fields gs have in bs, and zero for the blank ones
abbrev pub NumbersKept : Bool → List Field → ℕ → List ℕ → ℕ → Header → Type 0
NumbersKept t gs at bs told h = (f : Field) → has f gs ≡ true → field_number told h f ≡ pick (is_blank t f) 0 (field_in gs at bs f)

module _ (t : Bool) (bs : List ℕ) (b : (i : ℕ) → get_or bs i 0 < 256) where
  field_kept : (g : Field) (at n : ℕ) → at + width g ≤ length bs → n ≡ pick (is_blank t g) 0 (le_at (width g) bs at)
      → le_bytes (width g) n ≡ pick (is_blank t g) (replicate (width g) 0) (part bs at (width g))
  field_kept g at n h e =
      ⊎_elim (λ x. ap (le_bytes (width g)) (e ∙ pick_true _ _ x) ∙ bytes_zero (width g) ∙ sym (pick_true _ _ x))
      (λ x. ap (le_bytes (width g)) (e ∙ pick_false _ _ x) ∙ bytes_again (width g) bs at b h ∙ sym (pick_false _ _ x))
      (tested (is_blank t g))

  fields_kept : (gs : List Field) (told : ℕ) (h : Header) (at : ℕ) → distinct gs ≡ true → at + widths gs ≤ length bs → NumbersKept t gs at bs told h
      → field_bytes gs told h ≡ kept t gs at bs
  unfolding field_bytes field_in
  fields_kept [] told h at d k e = refl
  fields_kept (g ∷ gs) told h at d k e =
      let self : same_field g g ≡ true = eq-eqb (ordinal g) (ordinal g) refl in
      let n : has g gs ≡ false = not-true (has g gs) (and_left (not (has g gs)) (distinct gs) d) in
      let here : field_number told h g ≡ pick (is_blank t g) 0 (le_at (width g) bs at) = e g (rw self) ∙ ap (pick (is_blank t g) 0) (pick_true _ _ self) in
      let rest : NumbersKept t gs (at + width g) bs told h =
      λ f m. e f (rw (m, or-true)) ∙ ap (pick (is_blank t f) 0) (pick_false _ _ (other_field gs g f n m)) in
      ap₂ ◌++◌ (field_kept g at (field_number told h g) (omega arith) here)
      (fields_kept gs told h (at + width g) (and_right (not (has g gs)) (distinct gs) d) (omega arith) rest)

length_zeroed_field : (t : Bool) (g : Field) (l : List ℕ) (at : ℕ) → at + width g ≤ length l
    → length (pick (is_blank t g) (store_at l at (replicate (width g) 0)) l) ≡ length l
length_zeroed_field t g l at h =
    ⊎_elim (λ x. ap length (pick_true _ _ x) ∙ length_store l at _ (rw length-replicate h)) (λ x. ap length (pick_false _ _ x)) (tested (is_blank t g))

pub length_zeroed_fields : (t : Bool) (gs : List Field) (l : List ℕ) (at : ℕ) → at + widths gs ≤ length l → length (zeroed_fields t gs at l) ≡ length l
length_zeroed_fields t [] l at h = refl
length_zeroed_fields t (g ∷ gs) l at h =
    let n = length_zeroed_field t g l at (omega arith) in
    length_zeroed_fields t gs _ (at + width g) (omega arith) ∙ n

module _ (t : Bool) (bs c : List ℕ) where
  field_zeroed : (g : Field) (at n : ℕ) (a : List ℕ) → length a ≡ at → at + width g ≤ length bs
      → pick (is_blank t g) (store_at (a ++ (part bs at (width g + n) ++ c)) at (replicate (width g) 0)) (a ++ (part bs at (width g + n) ++ c))
      ≡ (a ++ pick (is_blank t g) (replicate (width g) 0) (part bs at (width g))) ++ (part bs (at + width g) n ++ c)
  unfolding pick
  field_zeroed g at n a p h =
      let m : length (replicate {A = ℕ} (width g) 0) ≡ length (part bs at (width g)) = rw (length-replicate, length_part bs at (width g) h) in
      let rest = part bs (at + width g) n ++ c in
      rw (part_add bs at (width g) n, append_assoc (part bs at (width g)) (part bs (at + width g) n) c)
      (⊎_elim (λ x. rw x (store_middle a (part bs at (width g)) rest (replicate (width g) 0) at p m ∙ sym (append_assoc a (replicate (width g) 0) rest)))
      (λ x. rw x (sym (append_assoc a (part bs at (width g)) rest)))
      (tested (is_blank t g)))

  length_kept : (g : Field) (at : ℕ) (a : List ℕ) → length a ≡ at → at + width g ≤ length bs
      → length (a ++ pick (is_blank t g) (replicate (width g) 0) (part bs at (width g))) ≡ at + width g
  length_kept g at a p h =
      rw (length-append, p)
      (ap (◌+◌ at)
      (⊎_elim (λ x. ap length (pick_true _ _ x) ∙ length-replicate (width g) 0) (λ x. ap length (pick_false _ _ x) ∙ length_part bs at (width g) h)
      (tested (is_blank t g))))

  kept_zeroed : (gs : List Field) (at : ℕ) (a : List ℕ) → length a ≡ at → at + widths gs ≤ length bs
      → a ++ (kept t gs at bs ++ c) ≡ zeroed_fields t gs at (a ++ (part bs at (widths gs) ++ c))
  unfolding part
  kept_zeroed [] at a p h = refl
  kept_zeroed (g ∷ gs) at a p h =
      let k = pick (is_blank t g) (replicate (width g) 0) (part bs at (width g)) in
      let again = kept_zeroed gs (at + width g) (a ++ k) (length_kept g at a p (omega arith)) (omega arith) in
      ap (λ (l : List ℕ). a ++ l) (append_assoc k (kept t gs (at + width g) bs) c)
      ∙ sym (append_assoc a k (kept t gs (at + width g) bs ++ c))
      ∙ again
      ∙ ap (zeroed_fields t gs (at + width g)) (sym (field_zeroed g at (widths gs) a p (omega arith)))

-- fields that were read, written again between the bytes a before them and c behind
pub fields_again : (t : Bool) (gs : List Field) (told : ℕ) (h : Header) (bs a c : List ℕ) (at : ℕ)
    → distinct gs ≡ true
    → ((i : ℕ) → get_or bs i 0 < 256)
    → at + widths gs ≤ length bs
    → length a ≡ at
    → NumbersKept t gs at bs told h
    → a ++ (field_bytes gs told h ++ c) ≡ zeroed_fields t gs at (a ++ (part bs at (widths gs) ++ c))
fields_again t gs told h bs a c at d b k p e = rw (fields_kept t bs b gs told h at d k e) (kept_zeroed t bs c gs at a p k)
