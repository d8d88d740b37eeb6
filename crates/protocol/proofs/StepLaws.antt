-- The sections of a row, taken one after the other as reader and writer do, lie where the list of its sections puts them, and have its bytes.
use Prim.Native.Nat.{ℕ, ◌+◌}
use borrow.Author.Tests.{eqb-true}
use lib.Dec.{eqb, ltb}
use lib.ListN.{length}
use mathlib.Core.Bool.{Bool, true, false, ◌&&◌, true≢false}
use mathlib.Core.List.{List, [], ◌∷◌, ◌++◌, append-nil, append_assoc}
use mathlib.Core.Path.{◌≡◌, refl, ap, ap₂, ◌∙◌}
use native.Mathlib.Omega.{arith}
use Rattle.std.specs.Prelude.{Option, Some, None, is_some}
use Rattle.laws.specs.Choose.{pick}
use Rattle.protocol.specs.Arrays.{array_allowed, array_length, has_array}
use Rattle.protocol.specs.FieldNumbers.{count_in}
use Rattle.protocol.specs.Flags.{cq_data_flag, connid_flag, has_flag, raw_address_flag}
use Rattle.protocol.specs.Optional.{Section, array, connid, cq_data, flagged, options_fit, ordinal, raw_address, sections_of}
use Rattle.protocol.specs.Options.{connid_bytes, cq_data_bytes, raw_address_bytes, sections_bytes}
use Rattle.protocol.specs.Rules.{Sound}
use Rattle.protocol.specs.Sections.{begin_of, connid_at, data_at, end_of, extent_of, raw_span, sections_before, sections_in}
use Rattle.protocol.specs.SectionsInTurn.{after_array, after_raw, connid_length, cq_data_length, sections_at, sections_behind, sections_from}
use Rattle.protocol.specs.Totals.{sizes}
use Rattle.protocol.specs.Writing.{mandatory_bytes, packet_bytes}
use Rattle.protocol.specs.declared.sections.Sections.{Sections}
use Rattle.protocol.specs.declared.table.TypeRow.{TypeRow}
use Rattle.protocol.specs.declared.types.Header.{Header}
use Rattle.wire.specs.LittleEndian.{le_at, le_bytes}
use Rattle.laws.proofs.Choosing.{pick_false, pick_small}
use Rattle.protocol.proofs.FlagLaws.{fits_connid}
use Rattle.protocol.proofs.ArrayLaws.{no_array_given}
use Rattle.protocol.proofs.WholePacket.{connid_from, data_from}
use Rattle.wire.proofs.Laws.{bytes_none}

-- an array, where it is there, before other sections
abbrev array_first : Bool → List Section → List Section
array_first a ss = pick a (array ∷ []) [] ++ ss

-- the sections behind it
abbrev behind : Bool → Bool → List Section
behind q z = pick q (raw_address ∷ cq_data ∷ []) [] ++ pick z [] (connid ∷ [])

before_array : (a : Bool) (s : Section) (ss : List Section) → ltb 0 (ordinal s) ≡ true → sections_before s (array_first a ss) ≡ array_first a (sections_before s ss)
unfolding pick
before_array true s ss e = rw e
before_array false s ss e = refl

before_raw : (q z : Bool) → sections_before raw_address (behind q z) ≡ []
unfolding pick
before_raw true true = refl
before_raw true false = refl
before_raw false true = refl
before_raw false false = refl

before_cq : (q z : Bool) → sections_before cq_data (behind q z) ≡ pick q (raw_address ∷ []) []
unfolding pick
before_cq true true = refl
before_cq true false = refl
before_cq false true = refl
before_cq false false = refl

before_connid : (q z : Bool) → sections_before connid (behind q z) ≡ behind q true
unfolding pick
before_connid true true = refl
before_connid true false = refl
before_connid false true = refl
before_connid false false = refl

module _ (r : TypeRow) (f : ℕ) (bs : List ℕ) where
  -- ---- where they lie

  past_array : (a : Bool) (ss : List Section) → has_array r ≡ a → end_of r f bs r.header (array_first a ss) ≡ end_of r f bs (after_array r bs) ss
  unfolding after_array flagged pick
  past_array true ss e = refl
  past_array false ss e = ap (λ (m : ℕ). end_of r f bs m ss) (omega (arith, pick_false {A = ℕ} (array_length r (count_in r bs)) 0 e))

  abbrev raw_size : ℕ → ℕ
  raw_size at = pick (flagged r f raw_address) (4 + le_at 4 bs at) 0

  no_raw : (at : ℕ) → r.request ≡ false → raw_size at ≡ 0
  unfolding flagged
  no_raw at e = pick_false _ _ (ap (λ (u : Bool). u && has_flag f raw_address_flag) e)

  no_cq : r.request ≡ false → cq_data_length r f ≡ 0
  unfolding cq_data_length flagged
  no_cq e = pick_false _ _ (ap (λ (u : Bool). u && has_flag f cq_data_flag) e)

  raw_end_lem : (at : ℕ) (q : Bool) → r.request ≡ q → end_of r f bs at (pick q (raw_address ∷ []) []) ≡ at + raw_size at
  unfolding pick
  raw_end_lem at true e = refl
  raw_end_lem at false e = omega (arith, no_raw at e)

  cq_end_lem : (at : ℕ) (q : Bool) → r.request ≡ q → end_of r f bs at (behind q true) ≡ at + raw_size at + cq_data_length r f
  unfolding cq_data_length pick
  cq_end_lem at true e = refl
  cq_end_lem at false e = omega (arith, no_raw at e, no_cq e)

  all_end : (at : ℕ) (q z : Bool) → r.request ≡ q → (z ≡ true → r.connid ≡ 0)
      → end_of r f bs at (behind q z) ≡ at + raw_size at + cq_data_length r f + connid_length r f
  unfolding cq_data_length connid_length pick
  all_end at true false e x = refl
  all_end at true true e x = omega (arith, x refl, pick_small (flagged r f connid) r.connid)
  all_end at false false e x = omega (arith, no_raw at e, no_cq e)
  all_end at false true e x = omega (arith, no_raw at e, no_cq e, x refl, pick_small (flagged r f connid) r.connid)

  pub data_at_lem : data_at r f bs ≡ data_from r f bs
  unfolding data_at sections_of after_raw
  data_at_lem = past_array (has_array r) (behind r.request (eqb r.connid 0)) refl ∙ all_end (after_array r bs) r.request (eqb r.connid 0) refl (eqb-true _ 0)

  -- where a section begins behind the array
  begin_behind : (s : Section) (ss : List Section) → ltb 0 (ordinal s) ≡ true → sections_before s (behind r.request (eqb r.connid 0)) ≡ ss
      → begin_of r f bs s ≡ end_of r f bs (after_array r bs) ss
  unfolding begin_of sections_of
  begin_behind s ss l e =
      ap (end_of r f bs r.header) (before_array (has_array r) s (behind r.request (eqb r.connid 0)) l)
      ∙ past_array (has_array r) (sections_before s (behind r.request (eqb r.connid 0))) refl
      ∙ ap (end_of r f bs (after_array r bs)) e

  raw_begin : begin_of r f bs raw_address ≡ after_array r bs
  raw_begin = begin_behind raw_address [] refl (before_raw r.request (eqb r.connid 0))

  cq_begin : begin_of r f bs cq_data ≡ after_raw r f bs
  unfolding after_raw
  cq_begin = begin_behind cq_data _ refl (before_cq r.request (eqb r.connid 0)) ∙ raw_end_lem (after_array r bs) r.request refl

  connid_begin : begin_of r f bs connid ≡ connid_from r f bs
  unfolding after_raw
  connid_begin = begin_behind connid _ refl (before_connid r.request (eqb r.connid 0)) ∙ cq_end_lem (after_array r bs) r.request refl

  sections_in_lem : sections_in r f bs ≡ sections_at r f (raw_span (flagged r f raw_address) bs (after_array r bs)) (after_raw r f bs)
  unfolding sections_in
  sections_in_lem =
      λ i. record {
        raw = raw_span (flagged r f raw_address) bs (raw_begin i);
        cq_at = cq_begin i;
        connid_at = connid_at r (connid_begin i);
        data_at = data_at_lem i;
      }

  pub extent_in_steps : extent_of r f bs ≡ sections_behind r f bs (after_array r bs)
  unfolding extent_of sections_behind sections_from after_raw
  extent_in_steps = ap₂ (λ (n : ℕ) (t : Sections). pick (ltb (length bs) n) None (Some t)) data_at_lem sections_in_lem

-- ---- how long they are

module _ (r : TypeRow) (f m n : ℕ) where
  no_options : (t : Bool) (k : ℕ) → r.request ≡ false → pick (r.request && t) k 0 ≡ 0
  no_options t k e = pick_false _ _ (ap (λ (u : Bool). u && t) e)

  sizes_listed : (a q z : Bool) → has_array r ≡ a → r.request ≡ q → (z ≡ true → r.connid ≡ 0)
      → sizes r f m n (array_first a (behind q z))
      ≡ pick (has_array r) m 0 + pick (flagged r f raw_address) (4 + n) 0 + cq_data_length r f + connid_length r f
  unfolding cq_data_length connid_length flagged pick
  sizes_listed a q z x e w =
      let array_size : sizes r f m n (array_first a (behind q z)) ≡ pick (has_array r) m 0 + sizes r f m n (behind q z) = first a x in
      array_size ∙ rest q z e w
    where
      first : (a : Bool) → has_array r ≡ a → sizes r f m n (array_first a (behind q z)) ≡ pick (has_array r) m 0 + sizes r f m n (behind q z)
      first true x = refl
      first false x = omega (arith, pick_false {A = ℕ} m 0 x)

      rest : (q z : Bool) → r.request ≡ q → (z ≡ true → r.connid ≡ 0)
          → pick (has_array r) m 0 + sizes r f m n (behind q z)
          ≡ pick (has_array r) m 0
          + pick (r.request && has_flag f raw_address_flag) (4 + n) 0
          + pick (r.request && has_flag f cq_data_flag) 8 0
          + pick (has_flag f connid_flag) r.connid 0
      rest true false e w = omega arith
      rest true true e w = omega (arith, w refl, pick_small (has_flag f connid_flag) r.connid)
      rest false false e w = omega (arith, no_options (has_flag f raw_address_flag) (4 + n) e, no_options (has_flag f cq_data_flag) 8 e)
      rest false true e w = omega (arith, no_options (has_flag f raw_address_flag) (4 + n) e, no_options (has_flag f cq_data_flag) 8 e, w refl, pick_small (has_flag f connid_flag) r.connid)

  pub sizes_in_steps : sizes r f m n (sections_of r)
      ≡ pick (has_array r) m 0 + pick (flagged r f raw_address) (4 + n) 0 + cq_data_length r f + connid_length r f
  unfolding sections_of
  sizes_in_steps = sizes_listed (has_array r) r.request (eqb r.connid 0) refl refl (eqb-true _ 0)

-- ---- their bytes

-- those of a packet with the array and the optional headers one after the other
abbrev pub whole_bytes : TypeRow → Header → List ℕ → List ℕ → List ℕ → List ℕ
whole_bytes r h arr raw body =
    mandatory_bytes r h (length arr)
    ++ arr
    ++ raw_address_bytes h.raw_address raw
    ++ cq_data_bytes h.cq_data
    ++ connid_bytes r h.connid
    ++ body

no_raw_address_lem : (there : Bool) (raw : List ℕ) → there ≡ false → raw_address_bytes there raw ≡ []
unfolding raw_address_bytes pick
no_raw_address_lem there raw e = rw e

no_cq_data_lem : (q : Option ℕ) → is_some q ≡ false → cq_data_bytes q ≡ []
unfolding cq_data_bytes
no_cq_data_lem None e = refl
no_cq_data_lem (Some d) e = absurd (true≢false e)

no_connid_lem : (r : TypeRow) (q : Option ℕ) → r.connid ≡ 0 → connid_bytes r q ≡ []
unfolding connid_bytes
no_connid_lem r None e = refl
no_connid_lem r (Some c) e = ap₂ le_bytes e refl ∙ bytes_none _

module _ (r : TypeRow) (h : Header) (arr raw : List ℕ) where
  bytes_listed : (q z : Bool) → (q ≡ false → (h.raw_address ≡ false) × (is_some h.cq_data ≡ false)) → (z ≡ true → r.connid ≡ 0)
      → sections_bytes r h arr raw (behind q z)
      ≡ raw_address_bytes h.raw_address raw ++ (cq_data_bytes h.cq_data ++ connid_bytes r h.connid)
  unfolding pick
  bytes_listed true false a e = rw (append-nil (connid_bytes r h.connid))
  bytes_listed true true a e = rw (no_connid_lem r h.connid (e refl))
  bytes_listed false false a e =
      rw (no_raw_address_lem h.raw_address raw (a refl).0, no_cq_data_lem h.cq_data (a refl).1) (append-nil (connid_bytes r h.connid))
  bytes_listed false true a e =
      rw (no_raw_address_lem h.raw_address raw (a refl).0, no_cq_data_lem h.cq_data (a refl).1, no_connid_lem r h.connid (e refl))

  array_listed : (a : Bool) (ss : List Section) → (a ≡ false → arr ≡ []) → sections_bytes r h arr raw (array_first a ss) ≡ arr ++ sections_bytes r h arr raw ss
  unfolding pick
  array_listed true ss e = refl
  array_listed false ss e = rw (e refl)

  -- a packet's bytes, where its type may have its array and its optional headers
  pub packet_in_steps : (body : List ℕ) → Sound r → options_fit r h ≡ true → array_allowed r (length arr) ≡ true
      → packet_bytes r h arr raw body ≡ whole_bytes r h arr raw body
  unfolding packet_bytes sections_of
  packet_in_steps body s t u =
      let x = array_listed (has_array r) (behind r.request (eqb r.connid 0)) (no_array_given r arr u) in
      let e = bytes_listed r.request (eqb r.connid 0) (λ q. fits_connid r h s q t) (eqb-true _ 0) in
      rw (x, e) (simp append_assoc)
