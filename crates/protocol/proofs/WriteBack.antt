-- A packet that was read is written again: each section's bytes are the packet's own, and the blank ones zero.
use Prim.Native.Nat.{ℕ, ◌+◌, ◌-◌, ◌≤◌, ◌<◌}
use borrow.Author.Tests.{eq-eqb, eqb-true, ne_eqb}
use lib.Dec.{eqb, lit<}
use lib.ListN.{length, get_or, drop, replicate, length-replicate, take-append-drop}
use mathlib.Core.Bool.{Bool, true, false, not}
use mathlib.Core.List.{List, [], ◌∷◌, ◌++◌, append_assoc}
use mathlib.Core.Logic.{inl, inr, ⊎_elim}
use mathlib.Core.Path.{◌≡◌, refl, sym, ap, ap₂, ◌∙◌}
use native.Mathlib.Omega.{arith}
use Rattle.std.specs.Prelude.{Option, Some, None, Ok}
use Rattle.laws.specs.Choose.{pick}
use Rattle.laws.specs.Parts.{part, store_at}
use Rattle.protocol.specs.ByType.{column}
use Rattle.protocol.specs.Arrays.{array_allowed, array_count, array_length, has_array}
use Rattle.protocol.specs.FieldNumbers.{count_in, field_in, fields_in}
use Rattle.protocol.specs.Flags.{flags_fit, has_flag}
use Rattle.protocol.specs.Optional.{connid, cq_data, flagged, flags_of, options_fit, raw_address}
use Rattle.protocol.specs.Layout.{count, credit_request, has, layout, msg_id, msg_length, multiuse, padding, place_of, recv_id, recv_length, seg_length, seg_offset, send_id, tag, widths}
use Rattle.protocol.specs.Options.{connid_bytes, connid_in, connid_or_zero, cq_data_bytes, cq_data_in, raw_address_bytes}
use Rattle.protocol.specs.Reading.{header_in, packet_in}
use Rattle.protocol.specs.RoundTrip.{blanked, blanked_as}
use Rattle.protocol.specs.Rules.{ConnidPlace, Sound}
use Rattle.protocol.specs.Sections.{array_span, connid_at, raw_span, span}
use Rattle.protocol.specs.SectionsInTurn.{after_array, after_raw, connid_length, cq_data_length, raw_length}
use Rattle.protocol.specs.Types.{row_of}
use Rattle.protocol.specs.Values.{bytes_at}
use Rattle.protocol.specs.Writing.{base_bytes, mandatory_bytes, packet_bytes, write_of}
use Rattle.protocol.specs.declared.table.TypeRow.{TypeRow}
use Rattle.protocol.specs.declared.types.Packet.{Packet}
use Rattle.protocol.specs.declared.types.Span.{Span}
use Rattle.wire.specs.LittleEndian.{le_at, le_bytes}
use Rattle.laws.proofs.Choosing.{clashing, pick_false, pick_true, tested}
use Rattle.laws.proofs.Storing.{length_part, length_store, part_add, part_drop, part_rest, store_back, store_nothing}
use Rattle.protocol.proofs.Accepted.{ReadAs, WrittenAs, connid_from, data_from, packet_of, write_as}
use Rattle.protocol.proofs.ArrayLaws.{count_back}
use Rattle.protocol.proofs.FlagLaws.{flags_again, options_again}
use Rattle.protocol.proofs.KeptFields.{NumbersKept, fields_again, is_blank, length_zeroed_fields, zeroed_fields}
use Rattle.protocol.proofs.LayoutLaws.{has_place}
use Rattle.protocol.proofs.OptionLaws.{cq_data_again, has_connid_lem, has_cq_data_lem, raw_again}
use Rattle.protocol.proofs.RowLaws.{after_no_array, connid_after, connid_within, number_here, number_placed}
use Rattle.protocol.proofs.StepLaws.{packet_in_steps}
use Rattle.protocol.proofs.TableRule.{no_array, row_kind, rows_say, sound}
use Rattle.protocol.proofs.TypeSentences.{connid_in_words, header_in_words, request_in_words}
use Rattle.wire.proofs.Laws.{bytes_again, bytes_again_wide, bytes_none}
use Rattle.protocol.specs.Limits.{packet_limit}

-- the padding of a connid behind the other headers
unfoldable blank_of : Option ℕ → TypeRow → Packet → Span
blank_of None r p = span 0 0
blank_of (Some c) r p = span (p.«data».at - (r.connid - 4)) (r.connid - 4)

-- the packet with this padding zero
abbrev padded : Option ℕ → TypeRow → Packet → List ℕ → List ℕ
padded c r p bs = store_at bs (blank_of c r p).at (replicate (blank_of c r p).size 0)

-- and the fields that no value is read from
abbrev zeroed : ℕ → TypeRow → Packet → List ℕ → List ℕ
zeroed f r p bs = zeroed_fields (flagged r f connid) (layout r) 4 (padded p.header.connid r p bs)

-- the bytes that the array takes
abbrev array_size : TypeRow → List ℕ → ℕ
array_size r bs = pick (has_array r) (array_length r (count_in r bs)) 0

-- the bytes between the base header and a connid behind the other headers
abbrev middle : TypeRow → ℕ → List ℕ → ℕ
middle r f bs = widths (layout r) + array_size r bs + raw_length r f bs + cq_data_length r f

-- type, version and flags
base_again : (bs : List ℕ) → ((i : ℕ) → get_or bs i 0 < 256) → 4 ≤ length bs → get_or bs 1 0 ≡ 4 → base_bytes (get_or bs 0 0) (le_at 2 bs 2) ≡ part bs 0 4
unfolding base_bytes part
base_again [] b h e = absurd (omega arith)
base_again (x ∷ []) b h e = absurd (omega arith)
base_again (x ∷ y ∷ l) b h e = rw (bytes_again 2 (x ∷ y ∷ l) 2 b h, e)

-- of every row that keeps the table's rule, with an array or without, whose count tells it
module _ (bs : List ℕ) (b : (i : ℕ) → get_or bs i 0 < 256) (r : TypeRow) (rule : Sound r) (f : ℕ)
    (fits : data_from r f bs ≤ length bs) (told : has_array r ≡ true → r.less ≤ count_in r bs) where
  header_fits : 4 + widths (layout r) ≤ length bs
  unfolding after_raw after_array
  header_fits = omega (arith, rule.header, fits)

  -- the array's bytes
  abbrev arr : List ℕ
  arr = bytes_at bs (array_span r bs r.header)

  array_again : arr ≡ part bs r.header (array_size r bs)
  unfolding array_span part
  array_again =
      ⊎_elim (λ e. ap (bytes_at bs) (pick_true _ _ e) ∙ ap (part bs r.header) (sym (pick_true _ _ e)))
      (λ e. ap (bytes_at bs) (pick_false _ _ e) ∙ ap (part bs r.header) (sym (pick_false _ _ e)))
      (tested (has_array r))

  length_array : length arr ≡ array_size r bs
  unfolding after_raw after_array
  length_array = ap length array_again ∙ length_part bs r.header (array_size r bs) (omega (arith, fits))

  count_kept : has count (layout r) ≡ true → array_count r (length arr) ≡ field_in (layout r) 4 bs count
  unfolding count_in
  count_kept m =
      let there : has_array r ≡ true =
      ap not (sym rule.counted) ∙ ap not (ne_eqb (place_of r count) 0 (λ z. has_place (layout r) 4 count (lit< tt) m (rule.placed count ∙ z))) in
      ap (array_count r) (length_array ∙ pick_true _ _ there) ∙ count_back r (count_in r bs) there (told there) ∙ number_here r bs count rule

  -- the fields, with a connid in multiuse where it is flagged
  numbers_kept : NumbersKept (flagged r f connid) (layout r) 4 bs (array_count r (length arr)) (packet_of r f bs).header
  unfolding packet_in header_in fields_in pick
  numbers_kept msg_id m = refl
  numbers_kept recv_id m = refl
  numbers_kept send_id m = refl
  numbers_kept msg_length m = refl
  numbers_kept seg_length m = refl
  numbers_kept recv_length m = refl
  numbers_kept seg_offset m = refl
  numbers_kept credit_request m = refl
  numbers_kept tag m = refl
  numbers_kept padding m = refl
  numbers_kept count m = count_kept m
  numbers_kept multiuse m = ⊎_elim there plain (tested (flagged r f connid))
    where
      place : place_of r multiuse ≡ 0 → ⊥
      place z = has_place (layout r) 4 multiuse (lit< tt) m (rule.placed multiuse ∙ z)

      at : ℕ
      at = connid_at r (connid_from r f bs)

      there : flagged r f connid ≡ true
          → connid_or_zero (connid_in (flagged r f connid) bs at) ≡ pick (is_blank (flagged r f connid) multiuse) 0 (field_in (layout r) 4 bs multiuse)
      there e =
          unfold connid_in connid_or_zero pick in
          rw e (ap (le_at 4 bs) (connid_within r (connid_from r f bs) place) ∙ sym (number_placed r bs multiuse rule place))

      plain : flagged r f connid ≡ false
          → connid_or_zero (connid_in (flagged r f connid) bs at) ≡ pick (is_blank (flagged r f connid) multiuse) 0 (field_in (layout r) 4 bs multiuse)
      plain e = unfold connid_in connid_or_zero pick in rw e

  middle_again : (z : List ℕ)
      → part bs 4 (widths (layout r))
      ++ (arr
      ++ (raw_address_bytes (flagged r f raw_address) (bytes_at bs (raw_span (flagged r f raw_address) bs (after_array r bs)))
      ++ (cq_data_bytes (cq_data_in (flagged r f cq_data) bs (after_raw r f bs)) ++ z)))
      ≡ part bs 4 (middle r f bs) ++ z
  middle_again z =
      let l : after_array r bs ≡ r.header + array_size r bs = unfold after_array in refl in
      let k : after_raw r f bs ≡ after_array r bs + raw_length r f bs = unfold after_raw in refl in
      let n : 4 + widths (layout r) ≡ r.header = sym rule.header in
      let a : 4 + (widths (layout r) + array_size r bs) ≡ after_array r bs = omega (arith, n, l) in
      let m : 4 + (widths (layout r) + array_size r bs + raw_length r f bs) ≡ after_raw r f bs = omega (arith, n, l, k) in
      rw (
        array_again,
        raw_again bs b r f (omega (arith, k, fits)),
        cq_data_again bs b r f (after_raw r f bs) (omega (arith, fits)),
        part_add,
        part_add,
        part_add,
        n,
        a,
        m,
      ) (simp append_assoc)

  -- the packet as it is written again with the connid c behind the other headers: its own bytes, but for the padding
  abbrev Again : Option ℕ → Packet → Type 0
  Again c p =
      (part bs 0 4 ++ (part bs 4 (middle r f bs) ++ (connid_bytes r c ++ drop p.«data».at bs)) ≡ padded c r p bs)
      × ((blank_of c r p).at + (blank_of c r p).size ≤ length bs)

  module _ (p : Packet) (d : p.«data».at ≡ data_from r f bs) where
    all_again : p.«data».at ≡ 4 + middle r f bs → part bs 0 4 ++ (part bs 4 (middle r f bs) ++ drop p.«data».at bs) ≡ bs
    unfolding part
    all_again x = rw (x, part_drop bs 4 (middle r f bs)) (take-append-drop 4 bs)

    absent_again : flagged r f connid ≡ false → Again None p
    unfolding connid_bytes connid_length after_raw after_array blank_of pick
    absent_again e =
        let x : p.«data».at ≡ 4 + middle r f bs = omega (arith, rw e at d, rule.header) in
        (all_again x ∙ sym (store_nothing bs 0), omega arith)

    present_again : (n : ℕ) → flagged r f connid ≡ true → ConnidPlace (place_of r multiuse) r.connid
        → n ≡ le_at 4 bs (connid_at r (connid_from r f bs))
        → Again (Some n) p
    unfolding connid_bytes connid_length after_raw after_array blank_of pick
    present_again x e (inl m) q =
        let d = rw e at d in
        let fits = rw e at fits in
        let h = rule.header in
        let i : connid_at r (connid_from r f bs) ≡ 4 + middle r f bs = connid_after r _ m.0 ∙ omega arith in
        let n : r.connid ≡ 4 + (r.connid - 4) = omega arith in
        let c = ap₂ le_bytes n (q ∙ ap (le_at 4 bs) i) ∙ bytes_again_wide 4 (r.connid - 4) bs _ b (omega arith) in
        let z : p.«data».at - (r.connid - 4) ≡ 4 + middle r f bs + 4 = omega arith in
        let y : p.«data».at ≡ 4 + middle r f bs + 4 + (r.connid - 4) = omega arith in
        (rw (c, z, y) (store_back bs 4 (middle r f bs) 4 _ _ (length-replicate (r.connid - 4) 0)), omega arith)
    present_again x e (inr m) q =
        let y : p.«data».at ≡ 4 + middle r f bs = omega (arith, rw e at d, rule.header, m.1) in
        let gone : le_bytes r.connid x ≡ [] = ap₂ le_bytes m.1 refl ∙ bytes_none _ in
        let z : replicate {A = ℕ} (r.connid - 4) 0 ≡ [] = ap (λ n. replicate {A = ℕ} (n - 4) 0) m.1 in
        (rw (gone, z, store_nothing) (all_again y), omega (arith, d, fits, m.1))

    connid_again : Again (connid_in (flagged r f connid) bs (connid_at r (connid_from r f bs))) p
    unfolding connid_in pick
    connid_again =
        ⊎_elim (λ e. rw e (present_again _ e rule.connid_place refl)) (λ e. rw e (absent_again e)) (tested (flagged r f connid))

-- by the type's number: CTSDATA has no raw address and no CQ data before its connid
module _ (f : ℕ) (bs : List ℕ) where
  padding_at : (r : TypeRow) → row_of 4 ≡ Some r → flagged r f connid ≡ true → data_from r f bs - 4 ≡ 28
  unfolding after_raw cq_data_length connid_length flagged pick
  padding_at r e t =
      let q : r.request ≡ false = (request_in_words 4 r e).1 (inr refl) in
      let h : r.header ≡ 24 = header_in_words 4 r e in
      let c : r.connid ≡ 8 = connid_in_words 4 r e in
      let a = after_no_array r bs (no_array 4 r e) in
      rw (a, t, h, c, q)

  -- it alone has padding behind its connid
  padding_size : (k : ℕ) (r : TypeRow) → row_of k ≡ Some r → r.connid - 4 ≡ column 0 ((4, 4) ∷ []) k
  unfolding pick
  padding_size = rows_say (λ k r. r.connid - 4) (column 0 ((4, 4) ∷ [])) refl

  padding_zeroed : (x k : ℕ) (r : TypeRow) → row_of k ≡ Some r → flagged r f connid ≡ true
      → padded (Some x) r (packet_of r f bs) bs ≡ column bs ((4, store_at bs 28 (replicate 4 0)) ∷ []) k
  unfolding blank_of packet_in
  padding_zeroed x k r e t = ⊎_elim there none (tested (eqb 4 k))
    where
      there : eqb 4 k ≡ true → padded (Some x) r (packet_of r f bs) bs ≡ column bs ((4, store_at bs 28 (replicate 4 0)) ∷ []) k
      there y =
          let n : r.connid - 4 ≡ 4 = padding_size k r e ∙ pick_true _ _ y in
          let at = padding_at r (ap row_of (eqb-true 4 k y) ∙ e) t in
          rw (n, at) (sym (pick_true _ _ y))

      none : eqb 4 k ≡ false → padded (Some x) r (packet_of r f bs) bs ≡ column bs ((4, store_at bs 28 (replicate 4 0)) ∷ []) k
      none y =
          let n : r.connid - 4 ≡ 0 = padding_size k r e ∙ pick_false _ _ y in
          rw n (store_nothing bs _ ∙ sym (pick_false _ _ y))

  -- of the fields, CTS's multiuse alone is blank
  none_zeroed : (l : List ℕ) (k : ℕ) (r : TypeRow) → row_of k ≡ Some r → zeroed_fields true (layout r) 4 l ≡ l
  unfolding layout pick
  none_zeroed l = rows_say (λ k r. zeroed_fields true (layout r) 4 l) (λ k. l) refl

  multiuse_zeroed : (l : List ℕ) (k : ℕ) (r : TypeRow) → row_of k ≡ Some r
      → zeroed_fields false (layout r) 4 l ≡ column l ((3, store_at l 4 (replicate 4 0)) ∷ []) k
  unfolding layout pick
  multiuse_zeroed l = rows_say (λ k r. zeroed_fields false (layout r) 4 l) (column l ((3, store_at l 4 (replicate 4 0)) ∷ [])) refl

  module _ (k : ℕ) (r : TypeRow) (e : row_of k ≡ Some r) where
    zeroed_flagged : flagged r f connid ≡ true → zeroed f r (packet_of r f bs) bs ≡ blanked_as k f bs
    unfolding packet_in header_in connid_in flagged has_flag
    zeroed_flagged t =
        ap (λ (u : Bool). zeroed_fields u (layout r) 4 (padded (packet_of r f bs).header.connid r (packet_of r f bs) bs)) t
        ∙ none_zeroed _ k r e
        ∙ ap (λ (c : Option ℕ). padded c r (packet_of r f bs) bs) (pick_true _ _ t)
        ∙ padding_zeroed _ k r e t
        ∙ sym (pick_true _ _ t)

    zeroed_plain : flagged r f connid ≡ false → zeroed f r (packet_of r f bs) bs ≡ blanked_as k f bs
    unfolding packet_in header_in connid_in flagged has_flag blank_of pick
    zeroed_plain t = rw (t, store_nothing) (multiuse_zeroed bs k r e)

    zeroed_in_words : zeroed f r (packet_of r f bs) bs ≡ blanked_as k f bs
    zeroed_in_words = ⊎_elim zeroed_flagged zeroed_plain (tested (flagged r f connid))

-- the packet p that was read from bs, of such a row
module _ (bs : List ℕ) (r : TypeRow) (rule : Sound r) (b : (i : ℕ) → get_or bs i 0 < 256) (kind : r.kind ≡ get_or bs 0 0) (based : 4 ≤ length bs)
    (version : get_or bs 1 0 ≡ 4) (flags : flags_fit r (le_at 2 bs 2) ≡ true) (fits : data_from r (le_at 2 bs 2) bs ≤ length bs)
    (told : has_array r ≡ true → r.less ≤ count_in r bs) where
  abbrev p : Packet
  p = packet_of r (le_at 2 bs 2) bs

  flags_written : flags_of r p.header ≡ le_at 2 bs 2
  unfolding packet_in header_in
  flags_written = flags_again r (le_at 2 bs 2) rule flags _ refl (has_cq_data_lem _ bs _) (has_connid_lem _ bs _)

  options_written : options_fit r p.header ≡ true
  unfolding packet_in header_in
  options_written = options_again r (le_at 2 bs 2) rule flags _ refl (has_cq_data_lem _ bs _)

  array_given : array_allowed r (length (bytes_at bs (array_span r bs r.header))) ≡ true
  unfolding array_allowed packet_in
  array_given =
      ⊎_elim (λ e. rw e) (λ e.
      let z : length (bytes_at bs (array_span r bs r.header)) ≡ 0 =
      length_array bs b r rule (le_at 2 bs 2) fits told ∙ pick_false _ _ e in
      rw (e, z)) (tested (has_array r))

  packet_zeroed : (packet_bytes r p.header (bytes_at bs (array_span r bs r.header)) (bytes_at bs p.raw_address) (bytes_at bs p.«data») ≡ zeroed (le_at 2 bs 2) r p bs)
      × (length (zeroed (le_at 2 bs 2) r p bs) ≡ length bs)
  unfolding mandatory_bytes packet_in header_in
  packet_zeroed =
      let f = le_at 2 bs 2 in
      let base = ap₂ base_bytes kind flags_written ∙ base_again bs b based version in
      let (e, inside) = connid_again bs b r rule f fits told p refl in
      let room = header_fits bs b r rule f fits told in
      let n : length (padded p.header.connid r p bs) ≡ length bs = length_store bs _ _ (rw length-replicate inside) in
      let again = fields_again (flagged r f connid) (layout r) (array_count r (length (bytes_at bs (array_span r bs r.header)))) p.header bs (part bs 0 4)
      (bytes_at bs (array_span r bs r.header)
      ++ (raw_address_bytes p.header.raw_address (bytes_at bs p.raw_address)
      ++ (cq_data_bytes p.header.cq_data ++ (connid_bytes r p.header.connid ++ drop p.«data».at bs))))
      4 rule.once b room (length_part bs 0 4 (omega (arith, room))) (numbers_kept bs b r rule f fits told) in (
        packet_in_steps r p.header _ _ _ rule options_written array_given ∙ rw (base, part_rest bs) (simp append_assoc
            (again ∙ ap (zeroed_fields (flagged r f connid) (layout r) 4)
            (ap (λ (l : List ℕ). part bs 0 4 ++ l) (middle_again bs b r rule f fits told _) ∙ e))),
        length_zeroed_fields (flagged r f connid) (layout r) _ 4 (omega (arith, room, n)) ∙ n,
      )

-- and of the table
module _ (limit : ℕ) (bs : List ℕ) (r : TypeRow) (a : ReadAs limit bs r) (b : (i : ℕ) → get_or bs i 0 < 256) where
  abbrev q : Packet
  q = packet_of r (le_at 2 bs 2) bs

  rule_of : Sound r
  rule_of = sound (get_or bs 0 0) r a.row

  none : has_array r ≡ false
  none = ap not (eq-eqb r.unit 0 (no_array (get_or bs 0 0) r a.row))

  row_again : row_of q.header.kind ≡ Some r
  unfolding packet_in header_in
  row_again = ap row_of (row_kind (get_or bs 0 0) r a.row) ∙ a.row

  no_bytes : bytes_at bs (array_span r bs r.header) ≡ []
  unfolding packet_in array_span part
  no_bytes = ap (bytes_at bs) (pick_false _ _ none)

  packet_again : (packet_bytes r q.header [] (bytes_at bs q.raw_address) (bytes_at bs q.«data») ≡ blanked bs)
      × (length (blanked bs) ≡ length bs)
  packet_again =
      let (again, n) = packet_zeroed bs r rule_of b (row_kind (get_or bs 0 0) r a.row) a.based a.version a.flags a.inside (λ e. clashing _ e none) in
      let e = zeroed_in_words (le_at 2 bs 2) bs (get_or bs 0 0) r a.row in
      (ap (λ (l : List ℕ). packet_bytes r q.header l (bytes_at bs q.raw_address) (bytes_at bs q.«data»)) (sym no_bytes) ∙ again ∙ e, ap length (sym e) ∙ n)

  written_again : (out : List ℕ) → length bs ≤ packet_limit → length bs ≤ length out
      → WrittenAs q.header (bytes_at bs q.raw_address) (bytes_at bs q.«data») out r
  unfolding packet_in header_in
  written_again out small room =
      let n = ap length packet_again.0 ∙ packet_again.1 in
      record {
        row = row_again;
        options = options_again r (le_at 2 bs 2) rule_of a.flags _ refl (has_cq_data_lem _ bs _);
        lengths = rw (length_part bs q.«data».at q.«data».size (omega arith)) a.lengths;
        allowed = rw n small;
        room = rw n room;
      }

  pub write_back : (out : List ℕ) → length bs ≤ packet_limit → length bs ≤ length out
      → write_of q.header (bytes_at bs q.raw_address) (bytes_at bs q.«data») out
      ≡ record { answer = Ok (length bs); out = store_at out 0 (blanked bs) }
  write_back out small room =
      let (again, n) = packet_again in
      write_as _ _ _ out r (written_again out small room) ∙ rw (again, n)
