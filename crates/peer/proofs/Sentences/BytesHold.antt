-- A packet that was read says what specs/PacketBytes.antt finds in its bytes.
use Rattle.std.specs.Prelude.{Option, Some, None, Ok, Err}
use Rattle.std.proofs.Common.{◌≡◌, ℕ, ◌+◌, ◌≤◌, Bool, true, false, not, ◌&&◌, ◌||◌, eqb, leb, ◌⊎◌, List, length, sym, refl, ap, ◌∙◌, inl, inr, ⊎_elim, arith, length-drop, eqb-true, leb-true}
use borrow.Author.Tests.{not-true}
use mathlib.Core.Logic.{⊎_map}
use Rattle.laws.specs.Choose.{pick}
use Rattle.protocol.specs.ByType.{tagged_told}
use Rattle.protocol.specs.Sentences.{PacketTold, ReadTellsItsBytes, flags_in, head_in}
use Rattle.protocol.specs.Reading.{read_of, read_typed}
use Rattle.protocol.specs.Refusals.{bad_type}
use Rattle.protocol.specs.Types.{admit, row_of, served_row}
use Rattle.protocol.specs.declared.table.TypeRow.{TypeRow}
use Rattle.protocol.specs.declared.types.Packet.{Packet}
use Rattle.protocol.specs.declared.refusals.Refusal.{Refusal}
use Rattle.peer.specs.Sentences.{IncomingTold, ReadAsTheTableSays}
use Rattle.peer.specs.Incomings.{incoming_of}
use Rattle.peer.specs.PacketBytes.{RtmIn, id_in, length_as, length_in, offset_as, offset_in, size_in, tag_as, tag_in, type_in, type_said}
use Rattle.peer.specs.declared.types.Incoming.{Incoming}
use Rattle.laws.proofs.Choosing.{and_left, and_right, clashing, or_cases, pick_first, pick_second}
use Rattle.laws.proofs.Comparing.{le_or_lt}
use Rattle.protocol.proofs.BytesHold.{read_tells_its_bytes}
use Rattle.protocol.proofs.TableRule.{row_kind, row_passes}
use Rattle.peer.proofs.Sentences.FieldsHold.{read_as_the_table_says}
use Rattle.peer.proofs.Sentences.PacketsRead.{read_formed}

pub record Says (bs : List ℕ) (h : Incoming) : Type 0 where
  pub served : (type_in bs ≡ 4) ⊎ RtmIn bs
  pub kind : type_said h ≡ type_in bs
  pub tagged : h.tagged ≡ tagged_told (type_in bs)
  pub id : h.id ≡ id_in bs
  pub size : h.size ≡ size_in bs
  pub offset : h.offset ≡ offset_in bs
  pub length : RtmIn bs → h.length ≡ length_in bs
  pub tag : h.tag ≡ tag_in bs

-- ---- the type is one that the engine serves

no_packet : (k : Refusal) (p : Packet) → Err k ≡ Ok p → ⊥
no_packet k p e = let z : ◌≡◌ {A = ℕ} 0 1 = cc in omega arith

row_served : (o : Option TypeRow) (bs : List ℕ) (p : Packet) → read_typed (admit served_row o) bs ≡ Ok p → (r : TypeRow) × (o ≡ Some r) × (r.served ≡ true)
unfolding read_typed admit pick
row_served None bs p e = absurd (no_packet bad_type p e)
row_served (Some r) bs p e = (r, refl, go r.served e)
  where
    go : (t : Bool) → read_typed (pick t (Some r) None) bs ≡ Ok p → t ≡ true
    go true x = refl
    go false x = absurd (no_packet bad_type p x)

-- what every row of the table that is served passes
abbrev row_test : TypeRow → Bool
row_test r = eqb r.kind 4 || (leb 64 r.kind && leb r.kind 69)

served_passes : (k : ℕ) (r : TypeRow) → row_of k ≡ Some r → r.served ≡ true → row_test r ≡ true
unfolding pick
served_passes k r e s =
    ⊎_elim (λ x. clashing r.served s (not-true _ x)) (λ x. x)
    (or_cases (not r.served) (row_test r) (row_passes (λ q. not q.served || row_test q) refl k r e))

module _ (limit : ℕ) (bs : List ℕ) (q : Packet) (e : read_of served_row limit bs ≡ Ok q) where
  the_row : (r : TypeRow) × (row_of (type_in bs) ≡ Some r) × (r.served ≡ true)
  unfolding read_of
  the_row =
      let (a, e) = pick_second _ _ _ _ (no_packet _ q) e in
      let (b, e) = pick_second _ _ _ _ (no_packet _ q) e in
      let (c, e) = pick_first _ _ _ _ (no_packet _ q) e in
      row_served (row_of (type_in bs)) bs q e

  is_served : (type_in bs ≡ 4) ⊎ RtmIn bs
  is_served =
      let (r, x, t) = the_row in
      let k = row_kind (type_in bs) r x in
      ⊎_map (λ y. sym k ∙ eqb-true r.kind 4 y)
      (λ y. (
        omega (arith, k, leb-true 64 r.kind (and_left (leb 64 r.kind) (leb r.kind 69) y)),
        omega (arith, k, leb-true r.kind 69 (and_right (leb 64 r.kind) (leb r.kind 69) y)),
      ))
      (or_cases (eqb r.kind 4) (leb 64 r.kind && leb r.kind 69) (served_passes (type_in bs) r x t))

  -- where its parts lie
  pub bytes_told : PacketTold bs (type_in bs) (flags_in bs) q
  unfolding ReadTellsItsBytes
  bytes_told = read_tells_its_bytes served_row limit bs q e

  size_said : (incoming_of q).size ≡ size_in bs
  unfolding size_in
  size_said = (read_formed limit bs q e).size ∙ ap length bytes_told.rest ∙ length-drop (head_in bs) bs

  pub told : IncomingTold bs (incoming_of q)
  unfolding ReadAsTheTableSays
  told = read_as_the_table_says limit bs q e

  -- ---- type by type

  Three : Type 0
  Three =
      ((type_in bs ≡ 64) ⊎ (type_in bs ≡ 65)) ⊎ (((type_in bs ≡ 66) ⊎ (type_in bs ≡ 67)) ⊎ ((type_in bs ≡ 68) ⊎ (type_in bs ≡ 69)))

  three : RtmIn bs → Three
  unfolding Three
  three (a, b) = ⊎_elim (λ x. inl (two 64 a x)) (λ x. inr (⊎_elim (λ y. inl (two 66 x y)) (λ y. inr (two 68 y b)) (le_or_lt (type_in bs) 67))) (le_or_lt (type_in bs) 65)
    where
      two : (n : ℕ) → n ≤ type_in bs → type_in bs ≤ n + 1 → (type_in bs ≡ n) ⊎ (type_in bs ≡ n + 1)
      two n l m = ⊎_elim (λ x. inl (omega arith)) (λ x. inr (omega arith)) (le_or_lt (type_in bs) n)

  id_said : (type_in bs ≡ 4) ⊎ RtmIn bs → (incoming_of q).id ≡ id_in bs
  unfolding Three
  id_said (inl x) = (told.ctsdata x).0
  id_said (inr w) = ⊎_elim (λ x. (told.eager x).0) (λ y. ⊎_elim (λ x. (told.medium x).0) (λ x. (told.long x).0) y) (three w)

  offset_said : (type_in bs ≡ 4) ⊎ RtmIn bs → (incoming_of q).offset ≡ offset_in bs
  unfolding Three offset_in pick
  offset_said (inl x) = (told.ctsdata x).2 ∙ sym (ap (λ (k : ℕ). offset_as k bs) x)
  offset_said (inr w) = go (three w)
    where
      go : Three → (incoming_of q).offset ≡ offset_as (type_in bs) bs
      go (inl (inl x)) = (told.eager (inl x)).2 ∙ sym (ap (λ (k : ℕ). offset_as k bs) x)
      go (inl (inr x)) = (told.eager (inr x)).2 ∙ sym (ap (λ (k : ℕ). offset_as k bs) x)
      go (inr (inl (inl x))) = (told.medium (inl x)).2 ∙ sym (ap (λ (k : ℕ). offset_as k bs) x)
      go (inr (inl (inr x))) = (told.medium (inr x)).2 ∙ sym (ap (λ (k : ℕ). offset_as k bs) x)
      go (inr (inr (inl x))) = (told.long (inl x)).2 ∙ sym (ap (λ (k : ℕ). offset_as k bs) x)
      go (inr (inr (inr x))) = (told.long (inr x)).2 ∙ sym (ap (λ (k : ℕ). offset_as k bs) x)

  length_said : RtmIn bs → (incoming_of q).length ≡ length_in bs
  unfolding Three length_in pick
  length_said w = go (three w)
    where
      go : Three → (incoming_of q).length ≡ length_as (type_in bs) bs
      go (inl (inl x)) = (told.eager (inl x)).1 ∙ size_said ∙ sym (ap (λ (k : ℕ). length_as k bs) x)
      go (inl (inr x)) = (told.eager (inr x)).1 ∙ size_said ∙ sym (ap (λ (k : ℕ). length_as k bs) x)
      go (inr (inl (inl x))) = (told.medium (inl x)).1 ∙ sym (ap (λ (k : ℕ). length_as k bs) x)
      go (inr (inl (inr x))) = (told.medium (inr x)).1 ∙ sym (ap (λ (k : ℕ). length_as k bs) x)
      go (inr (inr (inl x))) = (told.long (inl x)).1 ∙ sym (ap (λ (k : ℕ). length_as k bs) x)
      go (inr (inr (inr x))) = (told.long (inr x)).1 ∙ sym (ap (λ (k : ℕ). length_as k bs) x)

  tag_said : (type_in bs ≡ 4) ⊎ RtmIn bs → (incoming_of q).tag ≡ tag_in bs
  unfolding Three tag_in pick
  tag_said (inl x) = told.no_tag (ap tagged_told x) ∙ sym (ap (λ (k : ℕ). tag_as k bs) x)
  tag_said (inr w) = go (three w)
    where
      go : Three → (incoming_of q).tag ≡ tag_as (type_in bs) bs
      go (inl (inl x)) = told.no_tag (ap tagged_told x) ∙ sym (ap (λ (k : ℕ). tag_as k bs) x)
      go (inl (inr x)) = told.eager_tag x ∙ sym (ap (λ (k : ℕ). tag_as k bs) x)
      go (inr (inl (inl x))) = told.no_tag (ap tagged_told x) ∙ sym (ap (λ (k : ℕ). tag_as k bs) x)
      go (inr (inl (inr x))) = told.tag (inl x) ∙ sym (ap (λ (k : ℕ). tag_as k bs) x)
      go (inr (inr (inl x))) = told.no_tag (ap tagged_told x) ∙ sym (ap (λ (k : ℕ). tag_as k bs) x)
      go (inr (inr (inr x))) = told.tag (inr x) ∙ sym (ap (λ (k : ℕ). tag_as k bs) x)

  pub read_says_lem : Says bs (incoming_of q)
  read_says_lem =
      record {
        served = is_served;
        kind = told.kind;
        tagged = told.tagged;
        id = id_said is_served;
        size = size_said;
        offset = offset_said is_served;
        length = length_said;
        tag = tag_said is_served;
      }
