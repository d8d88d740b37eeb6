-- A packet that was written is read: its flags, its sections, its own fields and its optional headers.
use Prim.Native.Nat.{ℕ, ◌+◌, ◌-◌, ◌^◌, ◌≤◌, ◌<◌}
use borrow.Author.Tests.{eq-eqb, not-true}
use lib.ListN.{length, length-append}
use lib.Seq.{drop-append_seam}
use mathlib.Core.Bool.{true, false}
use mathlib.Core.List.{List, [], ◌∷◌, ◌++◌, append_assoc, map}
use mathlib.Core.Logic.{inl, inr, ⊎_elim}
use mathlib.Core.Path.{◌≡◌, refl, sym, ap, ◌∙◌, subst}
use native.Mathlib.Omega.{arith}
use Rattle.std.specs.Prelude.{Some, None}
use Rattle.laws.specs.Choose.{pick}
use Rattle.laws.specs.Parts.{part}
use Rattle.protocol.specs.Arrays.{array_allowed, array_count, array_length, array_whole, has_array}
use Rattle.protocol.specs.FieldNumbers.{count_in, fields_in, field_in, number_in, field_number}
use Rattle.protocol.specs.Flags.{flags_fit}
use Rattle.protocol.specs.Optional.{connid, cq_data, flagged, flags_of, options_fit, raw_address}
use Rattle.protocol.specs.Layout.{Field, count, has, layout, multiuse, own_fields, place_of}
use Rattle.protocol.specs.Options.{connid_bytes, connid_in, connid_or_zero, cq_data_bytes, cq_data_in, raw_address_bytes}
use Rattle.protocol.specs.Reading.{header_in, packet_in}
use Rattle.protocol.specs.RoundTrip.{Numbers, RowTells}
use Rattle.protocol.specs.Rules.{ConnidPlace, Sound}
use Rattle.protocol.specs.Sections.{array_span, connid_at, raw_span}
use Rattle.protocol.specs.SectionsInTurn.{after_array, after_raw}
use Rattle.protocol.specs.Types.{row_of}
use Rattle.protocol.specs.Values.{bytes_at, own_numbers, values, values_in}
use Rattle.protocol.specs.Writing.{base_bytes, mandatory_bytes, packet_bytes}
use Rattle.protocol.specs.declared.table.TypeRow.{TypeRow}
use Rattle.protocol.specs.declared.types.Fields.{Fields}
use Rattle.protocol.specs.declared.types.Header.{Header}
use Rattle.protocol.specs.declared.types.Packet.{Packet}
use Rattle.wire.specs.LittleEndian.{le_at}
use Rattle.laws.proofs.Choosing.{clashing, pick_false, pick_true, tested}
use Rattle.laws.proofs.Storing.{part_middle, part_rest}
use Rattle.protocol.proofs.Accepted.{ReadAs, WrittenAs, connid_from, data_from, packet_of}
use Rattle.protocol.proofs.ArrayLaws.{count_small, no_array_given, none_allowed, none_whole, told_back}
use Rattle.protocol.proofs.FlagLaws.{connid_flag_lem, cq_data_flag_lem, flags_fit_lem, flags_small, raw_address_flag_lem}
use Rattle.protocol.proofs.LayoutLaws.{fields_read, number_read, place_has}
use Rattle.protocol.proofs.OptionLaws.{after_raw_lem, connid_behind, connid_length_lem, connid_there, cq_data_length_lem, cq_data_read, raw_read}
use Rattle.protocol.proofs.RowLaws.{connid_after, connid_within, header_bounds, number_here, number_placed}
use Rattle.protocol.proofs.StepLaws.{packet_in_steps, whole_bytes}
use Rattle.protocol.proofs.TableRule.{no_array, row_kind, sound}
use Rattle.protocol.proofs.TypeSentences.{lengths_same}
use Rattle.protocol.proofs.WritingLaws.{length_base, length_mandatory, length_packet}
use Rattle.wire.proofs.Laws.{le_behind}
use Rattle.protocol.specs.Limits.{packet_limit}

-- the headers of a written packet up to the array, up to the raw address, up to the CQ data, and all
abbrev to_array : TypeRow → Header → List ℕ → List ℕ
to_array r h arr = mandatory_bytes r h (length arr) ++ arr

abbrev to_raw : TypeRow → Header → List ℕ → List ℕ → List ℕ
to_raw r h arr raw = to_array r h arr ++ raw_address_bytes h.raw_address raw

abbrev to_cq_data : TypeRow → Header → List ℕ → List ℕ → List ℕ
to_cq_data r h arr raw = to_raw r h arr raw ++ cq_data_bytes h.cq_data

abbrev headers : TypeRow → Header → List ℕ → List ℕ → List ℕ
headers r h arr raw = to_cq_data r h arr raw ++ connid_bytes r h.connid

own_numbers_lem : (k : ℕ) (r : TypeRow) (v : Fields) → row_of k ≡ Some r → own_numbers (row_of k) v ≡ map (number_in v) (own_fields r)
unfolding own_numbers
own_numbers_lem k r v e = rw e

-- of every row that keeps the table's rule, with an array or without
module _ (h : Header) (arr raw body : List ℕ) (r : TypeRow) (rule : Sound r) (x : Numbers h) (fits : options_fit r h ≡ true)
    (given : array_allowed r (length arr) ≡ true) (members : array_whole r (length arr) ≡ true)
    (allowed : length (packet_bytes r h arr raw body) ≤ packet_limit) where
  abbrev f : ℕ
  f = flags_of r h

  abbrev whole : List ℕ
  whole = whole_bytes r h arr raw body

  pub same : packet_bytes r h arr raw body ≡ whole
  same = packet_in_steps r h arr raw body rule fits given

  length_headers : length (to_array r h arr) ≡ r.header + length arr
  length_headers = rw (length-append, length_mandatory r h (length arr) rule)

  headers_and_body : length whole ≡ length (headers r h arr raw) + length body
  headers_and_body = simp length-append (omega (arith, length_mandatory r h (length arr) rule))

  count_fits : array_count r (length arr) < 256 ^ 4
  count_fits = count_small r (length arr) rule (omega (arith, length_packet r h arr raw body rule fits given, allowed))

  -- what is read from the mandatory header

  flags_read : le_at 2 whole 2 ≡ f
  unfolding mandatory_bytes base_bytes
  flags_read = simp append_assoc (le_behind 2 f (r.kind ∷ 4 ∷ []) _ 2 (flags_small r h rule) refl)

  own_read : map (number_in (fields_in (layout r) 4 whole)) (own_fields r) ≡ map (number_in h.fields) (own_fields r)
  unfolding mandatory_bytes own_fields
  own_read = simp append_assoc (fields_read (layout r) (array_count r (length arr)) h (base_bytes r.kind f) _ 4 count_fits x (length_base _ _))

  field_read : (g : Field) → has g (layout r) ≡ true → field_in (layout r) 4 whole g ≡ field_number (array_count r (length arr)) h g
  unfolding mandatory_bytes
  field_read g m = simp append_assoc (number_read (layout r) (array_count r (length arr)) h (base_bytes r.kind f) _ 4 g count_fits x (length_base _ _) m)

  count_read : has count (layout r) ≡ true → field_in (layout r) 4 whole count ≡ array_count r (length arr)
  unfolding pick
  count_read m = field_read count m

  -- where the sections lie

  array_length_lem : pick (has_array r) (array_length r (count_in r whole)) 0 ≡ length arr
  unfolding count_in
  array_length_lem = ⊎_elim there none (tested (has_array r))
    where
      there : has_array r ≡ true → pick (has_array r) (array_length r (count_in r whole)) 0 ≡ length arr
      there e =
          let place : place_of r count ≡ 0 → ⊥ = λ z. clashing _ (sym rule.counted ∙ eq-eqb _ 0 z) (not-true _ e) in
          let m = place_has (layout r) 4 count (λ z. place (sym (rule.placed count) ∙ z)) in
          let told : count_in r whole ≡ array_count r (length arr) = number_here r whole count rule ∙ count_read m in
          pick_true _ _ e ∙ ap (array_length r) told ∙ told_back r (length arr) e members

      none : has_array r ≡ false → pick (has_array r) (array_length r (count_in r whole)) 0 ≡ length arr
      none e = pick_false _ _ e ∙ sym (ap length (no_array_given r arr given e))

  after_array_lem : after_array r whole ≡ length (to_array r h arr)
  unfolding after_array
  after_array_lem = omega (arith, array_length_lem, length_headers)

  address_small : length (raw_address_bytes h.raw_address raw) < 256 ^ 4
  address_small = omega (arith, length_packet r h arr raw body rule fits given, allowed)

  abbrev behind : List ℕ
  behind = cq_data_bytes h.cq_data ++ (connid_bytes r h.connid ++ body)

  parts : whole ≡ to_array r h arr ++ (raw_address_bytes h.raw_address raw ++ behind)
  parts = simp append_assoc

  after_address : after_raw r f whole ≡ length (to_raw r h arr raw)
  after_address =
      ap (after_raw r f) parts
      ∙ after_raw_lem r f raw (to_array r h arr) behind _ refl _ (raw_address_flag_lem r h rule fits) address_small (ap (after_array r) (sym parts) ∙ after_array_lem)
      ∙ sym (length-append (to_array r h arr) (raw_address_bytes h.raw_address raw))

  connid_from_lem : connid_from r f whole ≡ length (to_cq_data r h arr raw)
  connid_from_lem = rw (after_address, cq_data_length_lem r h rule fits, length-append (to_raw r h arr raw))

  data_from_lem : data_from r f whole ≡ length (headers r h arr raw)
  data_from_lem = rw (connid_from_lem, connid_length_lem r h rule, length-append (to_cq_data r h arr raw))

  -- what is read from them

  array_read : bytes_at whole (array_span r whole r.header) ≡ arr
  unfolding array_span part
  array_read =
      ⊎_elim (λ e.
      let n : array_length r (count_in r whole) ≡ length arr = sym (pick_true _ _ e) ∙ array_length_lem in
      ap (bytes_at whole) (pick_true _ _ e)
      ∙ ap (part whole r.header) n
      ∙ simp append_assoc (part_middle (mandatory_bytes r h (length arr)) arr _ _ _ (length_mandatory r h (length arr) rule) refl))
      (λ e. ap (bytes_at whole) (pick_false _ _ e) ∙ sym (no_array_given r arr given e))
      (tested (has_array r))

  multiuse_read : has multiuse (layout r) ≡ true → field_in (layout r) 4 whole multiuse ≡ connid_or_zero h.connid
  unfolding pick
  multiuse_read m = field_read multiuse m

  address_read : pick (flagged r f raw_address) (Some (bytes_at whole (raw_span (flagged r f raw_address) whole (after_array r whole)))) None
      ≡ pick h.raw_address (Some raw) None
  address_read =
      rw (after_array_lem, parts) (raw_read r f raw (to_array r h arr) behind _ refl _ (raw_address_flag_lem r h rule fits) address_small)

  cq_read : cq_data_in (flagged r f cq_data) whole (after_raw r f whole) ≡ h.cq_data
  cq_read =
      rw after_address (simp append_assoc (simp append_assoc at
      (cq_data_read _ h.cq_data (to_raw r h arr raw) (connid_bytes r h.connid ++ body) _ (cq_data_flag_lem r h rule fits) x.cq_data refl)))

  connid_read : ConnidPlace (place_of r multiuse) r.connid
      → connid_in (flagged r f connid) whole (connid_at r (connid_from r f whole)) ≡ h.connid
  connid_read (inl m) =
      rw (connid_after r _ m.0, connid_from_lem) (simp append_assoc (simp append_assoc at
      (connid_behind r _ h.connid (to_cq_data r h arr raw) body _ m.1 (connid_flag_lem r h rule) x.connid refl)))
  connid_read (inr m) =
      let there = place_has (layout r) 4 multiuse (λ z. m.0 (sym (rule.placed multiuse) ∙ z)) in
      rw (connid_within r _ m.0) (connid_there _ h.connid _ _ (connid_flag_lem r h rule)
      (sym (number_placed r whole multiuse rule m.0) ∙ multiuse_read there))

  body_read : part whole (data_from r f whole) (length whole - data_from r f whole) ≡ body
  body_read = rw (part_rest whole, data_from_lem) (drop-append_seam (headers r h arr raw) body)

  -- the packet is taken up to its rule on lengths, and tells what was written

  abbrev taken : Packet
  taken = packet_of r (le_at 2 whole 2) whole

  pub flags_taken_lem : flags_fit r (le_at 2 whole 2) ≡ true
  flags_taken_lem = rw flags_read (flags_fit_lem r h rule fits)

  pub inside : data_from r (le_at 2 whole 2) whole ≤ length whole
  inside = rw flags_read (omega (arith, data_from_lem, headers_and_body))

  rest : length whole - data_from r (le_at 2 whole 2) whole ≡ length body
  rest = rw flags_read (omega (arith, data_from_lem, headers_and_body))

  based : 4 ≤ length whole
  based = omega (arith, ap length same, length_packet r h arr raw body rule fits given, header_bounds r rule)

  pub whole_tells : RowTells r h arr raw body whole taken
  unfolding packet_in header_in
  whole_tells =
      rw flags_read record {
        own = own_read;
        array = array_read;
        raw_address = address_read;
        cq_data = cq_read;
        connid = connid_read rule.connid_place;
        rest = body_read;
      }

-- a packet that is written by the table is taken, and its values are those that were written
module _ (h : Header) (raw body out : List ℕ) (r : TypeRow) (w : WrittenAs h raw body out r) (x : Numbers h) where
  rule_of : Sound r
  rule_of = sound h.kind r w.row

  members_of : array_whole r 0 ≡ true
  members_of = none_whole r (no_array h.kind r w.row)

  bytes : List ℕ
  bytes = whole_bytes r h [] raw body

  tells : RowTells r h [] raw body bytes (packet_of r (le_at 2 bytes 2) bytes)
  unfolding bytes
  tells = whole_tells h [] raw body r rule_of x w.options (none_allowed r) members_of w.allowed

  whole_reads : (limit : ℕ) → length bytes ≤ limit → ReadAs limit bytes r
  unfolding bytes
  whole_reads limit l =
      record {
        allowed = l;
        based = based h [] raw body r rule_of x w.options (none_allowed r) members_of w.allowed;
        version = unfold mandatory_bytes base_bytes in refl;
        row = unfold mandatory_bytes base_bytes in ap row_of (row_kind h.kind r w.row) ∙ w.row;
        flags = flags_taken_lem h [] raw body r rule_of x w.options (none_allowed r) members_of w.allowed;
        inside = inside h [] raw body r rule_of x w.options (none_allowed r) members_of w.allowed;
        lengths = rw (rest h [] raw body r rule_of x w.options (none_allowed r) members_of w.allowed)
            (lengths_same _ _ _ h.kind r w.row (own_read h [] raw body r rule_of x w.options (none_allowed r) members_of w.allowed) ∙ w.lengths);
      }

  whole_values : values_in (packet_of r (le_at 2 bytes 2) bytes) bytes ≡ values h raw body
  unfolding values_in values packet_in header_in
  whole_values =
      let k = row_kind h.kind r w.row in
      let own = own_numbers_lem r.kind r _ (ap row_of k ∙ w.row) ∙ tells.own ∙ sym (own_numbers_lem h.kind r h.fields w.row) in
      λ i. record {
        kind = k i;
        own = own i;
        raw_address = tells.raw_address i;
        cq_data = tells.cq_data i;
        connid = tells.connid i;
        body = tells.rest i;
      }

  same_bytes : packet_bytes r h [] raw body ≡ bytes
  unfolding bytes
  same_bytes = packet_in_steps r h [] raw body rule_of w.options (none_allowed r)

  pub written_reads : (limit : ℕ) → length (packet_bytes r h [] raw body) ≤ limit → ReadAs limit (packet_bytes r h [] raw body) r
  written_reads limit l = subst (λ (bs : List ℕ). ReadAs limit bs r) (sym same_bytes) (whole_reads limit (rw same_bytes at l))

  pub written_values : values_in (packet_of r (le_at 2 (packet_bytes r h [] raw body) 2) (packet_bytes r h [] raw body)) (packet_bytes r h [] raw body)
      ≡ values h raw body
  written_values = subst (λ (bs : List ℕ). values_in (packet_of r (le_at 2 bs 2) bs) bs ≡ values h raw body) (sym same_bytes) whole_values
