-- What a packet that is read tells stands in its bytes where 01 puts it: the last statements of specs/Sentences.antt.
use Prim.Native.Nat.{ℕ, ◌+◌, ◌≤◌}
use borrow.Author.Tests.{eq-eqb, eqb-true, ne_eqb}
use lib.Dec.{eqb}
use lib.ListN.{length, drop}
use mathlib.Core.Bool.{Bool, true, false}
use mathlib.Core.List.{List, [], ◌∷◌}
use mathlib.Core.Logic.{inr, ⊎_elim}
use mathlib.Core.Path.{◌≡◌, refl, sym, ap, ap₂, subst, ◌∙◌}
use native.Mathlib.Decide.{ℕ_discrete}
use native.Mathlib.Omega.{arith}
use Rattle.std.specs.Prelude.{Option, Some, None}
use Rattle.laws.specs.Choose.{pick}
use Rattle.laws.specs.Parts.{part}
use Rattle.protocol.specs.ByType.{FlagRule, bit_of, column, fields_told, header_length, own_told}
use Rattle.protocol.specs.Flags.{has_flag}
use Rattle.protocol.specs.Sentences.{PacketTold, ReadSaysItsBytes, ReadTellsItsBytes, connid_place, cq_end, flagged, flags_in, head_in, raw_end, type_in, values_told}
use Rattle.protocol.specs.Layout.{multiuse, place_of}
use Rattle.protocol.specs.Options.{connid_in, cq_data_in}
use Rattle.protocol.specs.Reading.{header_in, packet_in}
use Rattle.protocol.specs.Optional.{Section, connid, cq_data, flag_of, is_among, options, raw_address}
use Rattle.protocol.specs.Optional as Optional
use Rattle.protocol.specs.Sections.{connid_at, raw_span, span}
use Rattle.protocol.specs.SectionsInTurn.{after_array, after_raw, cq_data_length}
use Rattle.protocol.specs.Types.{row_of}
use Rattle.protocol.specs.Values.{bytes_at, own_numbers, values, values_in}
use Rattle.protocol.specs.declared.table.TypeRow.{TypeRow}
use Rattle.protocol.specs.declared.types.Fields.{Fields}
use Rattle.protocol.specs.declared.types.Packet.{Packet}
use Rattle.wire.specs.LittleEndian.{le_at}
use Rattle.laws.proofs.Choosing.{pick_false, pick_true, tested}
use Rattle.laws.proofs.Storing.{length_part, part_rest}
use Rattle.protocol.proofs.Accepted.{ReadAs, as_read, data_from, packet_of}
use Rattle.protocol.proofs.FlagSentences.{flagged_by_flag, flags_in_words}
use Rattle.protocol.proofs.OrderHolds.{row_head}
use Rattle.protocol.proofs.RowLaws.{after_no_array}
use Rattle.protocol.proofs.Sayings.{read_gives}
use Rattle.protocol.proofs.Served.{any_read}
use Rattle.protocol.proofs.TableRule.{no_array, row_kind, rows_say}
use Rattle.protocol.proofs.TypeSentences.{fields_in_words, header_in_words, own_in_words, shape_in_words, tagged_in_words}

-- a flag that is set, and one that is not
set : (f i : ℕ) {A : Type 0} (a b : A) → bit_of f i ≡ 1 → pick (eqb (bit_of f i) 1) a b ≡ a
set f i a b e = pick_true a b (eq-eqb (bit_of f i) 1 e)

clear : (f i : ℕ) {A : Type 0} (a b : A) → bit_of f i ≡ 0 → pick (eqb (bit_of f i) 1) a b ≡ b
clear f i a b e = pick_false a b (ne_eqb (bit_of f i) 1 (λ x. omega arith))

-- CTSDATA has no raw address and no CQ data before its connid
ctsdata_end : (f : ℕ) (bs : List ℕ) → FlagRule 4 f → cq_end 4 f bs ≡ 24
unfolding pick
ctsdata_end f bs w =
    let a : flagged f 0 (4 + le_at 4 bs 24) ≡ 0 = clear f 0 _ 0 (w.0 (inr refl) 0 (λ x. omega arith)) in
    let b : flagged f 1 8 ≡ 0 = clear f 1 _ 0 (w.0 (inr refl) 1 (λ x. omega arith)) in
    omega arith

-- the connid's place by the row, and by the type number
connid_placed : (f : ℕ) (bs : List ℕ) (k : ℕ) (r : TypeRow) → row_of k ≡ Some r → FlagRule k f → connid_at r (cq_end k f bs) ≡ connid_place k f bs
unfolding connid_at pick
connid_placed f bs k r e w = rw multiuse_at (⊎_elim cts (λ x. ⊎_elim (ctsdata x) (other x) (tested (eqb 4 k))) (tested (eqb 3 k)))
  where
    -- of the types, CTS alone has a multiuse
    multiuse_at : place_of r multiuse ≡ column 0 ((3, 4) ∷ []) k
    multiuse_at = rows_say (λ k r. place_of r multiuse) (column 0 ((3, 4) ∷ [])) refl k r e

    Placed : Type 0
    Placed = pick (eqb (column 0 ((3, 4) ∷ []) k) 0) (cq_end k f bs) (column 0 ((3, 4) ∷ []) k) ≡ connid_place k f bs

    cts : eqb 3 k ≡ true → Placed
    cts x = rw x

    other : eqb 3 k ≡ false → eqb 4 k ≡ false → Placed
    other x y = ap (λ (m : ℕ). pick (eqb m 0) (cq_end k f bs) m) (pick_false _ _ x) ∙ sym (pick_false _ _ x ∙ pick_false _ _ y)

    ctsdata : eqb 3 k ≡ false → eqb 4 k ≡ true → Placed
    ctsdata x y =
        let c : k ≡ 4 = sym (eqb-true 4 k y) in
        ap (λ (m : ℕ). pick (eqb m 0) (cq_end k f bs) m) (pick_false _ _ x)
        ∙ ap (λ (m : ℕ). cq_end m f bs) c
        ∙ ctsdata_end f bs (subst (λ (m : ℕ). FlagRule m f) c w)
        ∙ sym (pick_false _ _ x ∙ pick_true _ _ y)

module _ (limit : ℕ) (bs : List ℕ) (p : Packet) (r : TypeRow) (a : ReadAs limit bs r) (q : p ≡ packet_of r (flags_in bs) bs) where
  abbrev k : ℕ
  k = type_in bs

  abbrev f : ℕ
  f = flags_in bs

  header : r.header ≡ header_length k
  header = header_in_words k r a.row

  whole : head_in bs ≤ length bs
  whole = rw (row_head bs r a.row a.flags) at a.inside

  rule : FlagRule k f
  rule = (flags_in_words k r f a.row).0 a.flags

  there : (x : Section) → is_among x options ≡ true → Optional.flagged r f x ≡ has_flag f (flag_of x)
  there = flagged_by_flag f k r a.row rule

  after : after_array r bs ≡ r.header
  after = after_no_array r bs (no_array k r a.row)

  raw_end_lem : after_raw r f bs ≡ raw_end k f bs
  unfolding after_raw has_flag
  raw_end_lem = rw (after, there raw_address refl) (ap (λ (h : ℕ). h + flagged f 0 (4 + le_at 4 bs h)) header)

  raw_bytes : bit_of f 0 ≡ 1 → bytes_at bs p.raw_address ≡ part bs (header_length k + 4) (le_at 4 bs (header_length k))
  unfolding packet_in raw_span has_flag
  raw_bytes b =
      ap (λ (y : Packet). bytes_at bs y.raw_address) q
      ∙ ap (λ (t : Bool). bytes_at bs (raw_span t bs (after_array r bs))) (there raw_address refl)
      ∙ ap (bytes_at bs) (set f 0 (span (after_array r bs + 4) (le_at 4 bs (after_array r bs))) (span 0 0) b)
      ∙ ap (λ (h : ℕ). part bs (h + 4) (le_at 4 bs h)) (after ∙ header)

  no_raw_bytes : bit_of f 0 ≡ 0 → bytes_at bs p.raw_address ≡ []
  unfolding packet_in raw_span has_flag part
  no_raw_bytes b =
      ap (λ (y : Packet). bytes_at bs y.raw_address) q
      ∙ ap (λ (t : Bool). bytes_at bs (raw_span t bs (after_array r bs))) (there raw_address refl)
      ∙ ap (bytes_at bs) (clear f 0 (span (after_array r bs + 4) (le_at 4 bs (after_array r bs))) (span 0 0) b)

  raw_length_lem : bit_of f 0 ≡ 1 → length (bytes_at bs p.raw_address) ≡ le_at 4 bs (header_length k)
  raw_length_lem b =
      let n : flagged f 0 (4 + le_at 4 bs (header_length k)) ≡ 4 + le_at 4 bs (header_length k) = set f 0 _ 0 b in
      ap length (raw_bytes b) ∙ length_part bs (header_length k + 4) (le_at 4 bs (header_length k)) (omega (arith, whole))

  connid_from_lem : connid_at r (after_raw r f bs + cq_data_length r f) ≡ connid_place k f bs
  unfolding cq_data_length has_flag
  connid_from_lem = rw (there cq_data refl) (ap (λ (m : ℕ). connid_at r (m + flagged f 1 8)) raw_end_lem ∙ connid_placed f bs k r a.row rule)

  told : PacketTold bs k f p
  unfolding packet_in header_in cq_data_in connid_in has_flag
  told =
      record {
        kind = ap (λ (y : Packet). y.header.kind) q ∙ row_kind k r a.row;
        shape = ap (λ (y : Packet). y.shape) q ∙ shape_in_words k r a.row;
        tagged = ap (λ (y : Packet). y.tagged) q ∙ tagged_in_words k r a.row;
        fields = ap (λ (y : Packet). y.header.fields) q ∙ fields_in_words bs k r a.row;
        raw_address = λ b. (ap (λ (y : Packet). y.header.raw_address) q ∙ there raw_address refl ∙ eq-eqb (bit_of f 0) 1 b, raw_bytes b, raw_length_lem b);
        no_raw_address = λ b. (
          ap (λ (y : Packet). y.header.raw_address) q ∙ there raw_address refl ∙ ne_eqb (bit_of f 0) 1 (λ x. omega arith),
          no_raw_bytes b,
        );
        cq_data = λ b.
            ap (λ (y : Packet). y.header.cq_data) q
            ∙ ap (λ (t : Bool). cq_data_in t bs (after_raw r f bs)) (there cq_data refl)
            ∙ set f 1 (Some (le_at 8 bs (after_raw r f bs))) None b
            ∙ ap (λ (m : ℕ). Some (le_at 8 bs m)) raw_end_lem;
        no_cq_data = λ b.
            ap (λ (y : Packet). y.header.cq_data) q
            ∙ ap (λ (t : Bool). cq_data_in t bs (after_raw r f bs)) (there cq_data refl)
            ∙ clear f 1 (Some (le_at 8 bs (after_raw r f bs))) None b;
        connid = λ b.
            ap (λ (y : Packet). y.header.connid) q
            ∙ ap (λ (t : Bool). connid_in t bs (connid_at r (after_raw r f bs + cq_data_length r f))) (there connid refl)
            ∙ set f 15 (Some (le_at 4 bs (connid_at r (after_raw r f bs + cq_data_length r f)))) None b
            ∙ ap (λ (m : ℕ). Some (le_at 4 bs m)) connid_from_lem;
        no_connid = λ b.
            ap (λ (y : Packet). y.header.connid) q
            ∙ ap (λ (t : Bool). connid_in t bs (connid_at r (after_raw r f bs + cq_data_length r f))) (there connid refl)
            ∙ clear f 15 (Some (le_at 4 bs (connid_at r (after_raw r f bs + cq_data_length r f)))) None b;
        rest = ap (λ (y : Packet). bytes_at bs y.«data») q ∙ part_rest bs (data_from r f bs) ∙ ap (λ (m : ℕ). drop m bs) (row_head bs r a.row a.flags);
      }

pub read_tells_its_bytes : ReadTellsItsBytes
unfolding ReadTellsItsBytes
read_tells_its_bytes which limit bs p e = let (r, a, q) = as_read limit bs p (any_read which limit bs p e) in told limit bs p r a q

-- ---- the values

-- a header that is there where its flag is
by_flag : (f i : ℕ) {A : Type 0} (x a b : A) → (bit_of f i ≡ 1 → x ≡ a) → (bit_of f i ≡ 0 → x ≡ b) → x ≡ pick (eqb (bit_of f i) 1) a b
by_flag f i x a b p q = go (ℕ_discrete (bit_of f i) 1)
  where
    go : Dec (bit_of f i ≡ 1) → x ≡ pick (eqb (bit_of f i) 1) a b
    go (yes e) = p e ∙ sym (set f i a b e)
    go (no e) = let z : bit_of f i ≡ 0 = omega (arith, e) in q z ∙ sym (clear f i a b z)

module _ (bs : List ℕ) (p : Packet) (r : TypeRow) (row : row_of (type_in bs) ≡ Some r) (t : PacketTold bs (type_in bs) (flags_in bs) p) where
  own_told_lem : own_numbers (row_of p.header.kind) p.header.fields ≡ own_told bs (type_in bs)
  unfolding own_numbers
  own_told_lem =
      ap₂ (λ (k : ℕ) (v : Fields). own_numbers (row_of k) v) t.kind t.fields
      ∙ ap (λ (o : Option TypeRow). own_numbers o (fields_told bs (type_in bs))) row
      ∙ own_in_words bs (type_in bs) r row

  address_told : pick p.header.raw_address (Some (bytes_at bs p.raw_address)) None
      ≡ pick (eqb (bit_of (flags_in bs) 0) 1) (Some (part bs (header_length (type_in bs) + 4) (le_at 4 bs (header_length (type_in bs))))) None
  address_told =
      by_flag (flags_in bs) 0 _ _ _ (λ e. let (there, bytes, n) = t.raw_address e in pick_true _ _ there ∙ ap Some bytes)
      (λ e. pick_false _ _ (t.no_raw_address e).0)

  values_told_lem : values_in p bs ≡ values_told (type_in bs) (flags_in bs) bs
  unfolding values_in values
  values_told_lem =
      λ i. record {
        kind = t.kind i;
        own = own_told_lem i;
        raw_address = address_told i;
        cq_data = by_flag (flags_in bs) 1 _ _ _ t.cq_data t.no_cq_data i;
        connid = by_flag (flags_in bs) 15 _ _ _ t.connid t.no_connid i;
        body = t.rest i;
      }

pub read_says_its_bytes : ReadSaysItsBytes
unfolding ReadSaysItsBytes ReadTellsItsBytes
read_says_its_bytes which limit bs v e =
    let (p, y, same) = read_gives bs _ v e in
    let (r, a, q) = as_read limit bs p (any_read which limit bs p y) in
    sym same ∙ values_told_lem bs p r a.row (read_tells_its_bytes which limit bs p y)
