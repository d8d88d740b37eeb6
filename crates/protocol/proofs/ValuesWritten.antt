-- The writer writes a packet's values: two headers with the same values are written alike.
use Prim.Native.Nat.{ℕ}
use lib.ListN.{length}
use mathlib.Core.Bool.{Bool, true, false}
use mathlib.Core.List.{List, [], ◌∷◌, ◌++◌, map}
use mathlib.Core.Logic.{⊎_elim}
use mathlib.Core.Path.{◌≡◌, refl, sym, ap, ap₂, ◌∙◌}
use native.Mathlib.Omega.{arith}
use Rattle.std.specs.Prelude.{Option, Some, None}
use Rattle.laws.specs.Choose.{pick}
use Rattle.protocol.specs.Arrays.{array_count}
use Rattle.protocol.specs.FieldNumbers.{field_bytes, number_in, field_number}
use Rattle.protocol.specs.Optional.{Section, array, connid, cq_data, flags_of, options_fit, raw_address, sections_of}
use Rattle.protocol.specs.Layout.{Field, count, credit_request, is_own, layout, msg_id, msg_length, multiuse, own_fields, padding, recv_id, recv_length, seg_length, seg_offset, select, send_id, tag, width}
use Rattle.protocol.specs.Lengths.{lengths_fit}
use Rattle.protocol.specs.Options.{connid_bytes, connid_or_zero, cq_data_bytes, raw_address_bytes, section_bytes, sections_bytes}
use Rattle.protocol.specs.Types.{row_of}
use Rattle.protocol.specs.Values.{Values, own_numbers, values}
use Rattle.protocol.specs.Writing.{mandatory_bytes, packet_bytes, write_as, write_of, write_typed}
use Rattle.protocol.specs.declared.table.TypeRow.{TypeRow}
use Rattle.protocol.specs.declared.types.Header.{Header}
use Rattle.wire.specs.LittleEndian.{le_bytes}
use Rattle.laws.proofs.Choosing.{clashing, tested}
use Rattle.protocol.proofs.TypeSentences.{lengths_same}

-- headers with the same connid and the same numbers of own fields have the same bytes of fields
module _ (told : ℕ) (h g : Header) (c : h.connid ≡ g.connid) where
  number_same : (f : Field) → (is_own f ≡ true → number_in h.fields f ≡ number_in g.fields f) → field_number told h f ≡ field_number told g f
  unfolding pick
  number_same msg_id x = x refl
  number_same recv_id x = x refl
  number_same send_id x = x refl
  number_same msg_length x = x refl
  number_same seg_length x = x refl
  number_same recv_length x = x refl
  number_same seg_offset x = x refl
  number_same credit_request x = x refl
  number_same tag x = x refl
  number_same multiuse x = ap connid_or_zero c
  number_same padding x = refl
  number_same count x = refl

  fields_same : (gs : List Field) → map (number_in h.fields) (select is_own gs) ≡ map (number_in g.fields) (select is_own gs)
      → field_bytes gs told h ≡ field_bytes gs told g
  unfolding field_bytes pick
  fields_same [] e = refl
  fields_same (f ∷ gs) e =
      ⊎_elim (λ t.
      let d = rw t at e in
      let x : number_in h.fields f ≡ number_in g.fields f = cc d in
      let xs : map (number_in h.fields) (select is_own gs) ≡ map (number_in g.fields) (select is_own gs) = cc d in
      ap₂ ◌++◌ (ap (le_bytes (width f)) (number_same f (λ o. x))) (fields_same gs xs))
      (λ t. ap₂ ◌++◌ (ap (le_bytes (width f)) (number_same f (λ o. clashing (is_own f) o t))) (fields_same gs (rw t at e)))
      (tested (is_own f))

-- a raw address that is there or not
raw_same : (a b : Bool) (x y : List ℕ) → ◌≡◌ {A = Option (List ℕ)} (pick a (Some x) None) (pick b (Some y) None)
    → (a ≡ b) × (raw_address_bytes a x ≡ raw_address_bytes b y)
unfolding pick raw_address_bytes
raw_same true true x y e = let z : x ≡ y = cc in (refl, rw z)
raw_same false false x y e = (refl, refl)
raw_same true false x y e = let z : ◌≡◌ {A = ℕ} 0 1 = cc in absurd (omega arith)
raw_same false true x y e = let z : ◌≡◌ {A = ℕ} 0 1 = cc in absurd (omega arith)

module _ (h g : Header) (raw raw' body body' : List ℕ) (same : values h raw body ≡ values g raw' body') where
  pub kind_same : h.kind ≡ g.kind
  unfolding values
  kind_same = ap (λ (v : Values). v.kind) same

  pub own_same : own_numbers (row_of h.kind) h.fields ≡ own_numbers (row_of g.kind) g.fields
  unfolding values
  own_same = ap (λ (v : Values). v.own) same

  pub address_same : (h.raw_address ≡ g.raw_address) × (raw_address_bytes h.raw_address raw ≡ raw_address_bytes g.raw_address raw')
  unfolding values
  address_same = raw_same h.raw_address g.raw_address raw raw' (ap (λ (v : Values). v.raw_address) same)

  pub cq_same : h.cq_data ≡ g.cq_data
  unfolding values
  cq_same = ap (λ (v : Values). v.cq_data) same

  pub connid_same : h.connid ≡ g.connid
  unfolding values
  connid_same = ap (λ (v : Values). v.connid) same

  body_same : body ≡ body'
  unfolding values
  body_same = ap (λ (v : Values). v.body) same

  module _ (r : TypeRow) (row : row_of h.kind ≡ Some r) (own : map (number_in h.fields) (own_fields r) ≡ map (number_in g.fields) (own_fields r)) where
    flags_same : flags_of r h ≡ flags_of r g
    unfolding flags_of
    flags_same = rw (address_same.0, cq_same, connid_same)

    options_same : options_fit r h ≡ options_fit r g
    unfolding options_fit
    options_same = rw (address_same.0, cq_same, connid_same)

    fit_same : lengths_fit r.shape h.fields (length body) ≡ lengths_fit r.shape g.fields (length body')
    fit_same =
        lengths_same h.fields g.fields (length body) h.kind r row own
        ∙ ap (λ (l : List ℕ). lengths_fit r.shape g.fields (length l)) body_same

    section_same : (x : Section) → section_bytes r h [] raw x ≡ section_bytes r g [] raw' x
    section_same array = refl
    section_same raw_address = address_same.1
    section_same cq_data = ap cq_data_bytes cq_same
    section_same connid = ap (connid_bytes r) connid_same

    sections_same : (xs : List Section) → sections_bytes r h [] raw xs ≡ sections_bytes r g [] raw' xs
    sections_same [] = refl
    sections_same (x ∷ xs) = ap₂ ◌++◌ (section_same x) (sections_same xs)

    bytes_same : packet_bytes r h [] raw body ≡ packet_bytes r g [] raw' body'
    unfolding packet_bytes mandatory_bytes own_fields
    bytes_same = rw (flags_same, fields_same (array_count r 0) h g connid_same (layout r) own, sections_same (sections_of r), body_same)

    row_same : (out : List ℕ) → write_as r h [] raw body out ≡ write_as r g [] raw' body' out
    unfolding write_as
    row_same out = rw (options_same, fit_same, bytes_same)

  found_same : (o : Option TypeRow) (out : List ℕ) → row_of h.kind ≡ o → own_numbers o h.fields ≡ own_numbers o g.fields
      → write_typed o h [] raw body out ≡ write_typed o g [] raw' body' out
  unfolding write_typed own_numbers
  found_same None out row own = refl
  found_same (Some r) out row own = row_same r row own out

  pub same_written : (out : List ℕ) → write_of h raw body out ≡ write_of g raw' body' out
  unfolding write_of
  same_written out =
      let o : row_of g.kind ≡ row_of h.kind = ap row_of (sym kind_same) in
      found_same (row_of h.kind) out refl (own_same ∙ ap (λ (o : Option TypeRow). own_numbers o g.fields) o)
      ∙ ap (λ (k : ℕ). write_typed (row_of k) g [] raw' body' out) kind_same
