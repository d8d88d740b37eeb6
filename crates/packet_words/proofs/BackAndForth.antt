-- Reader and writer on words undo each other: what specs/RoundTrip.antt states.
use Prim.Native.Nat.{ℕ, ◌%◌, ◌^◌, ◌≤◌, ◌<◌}
use borrow.Author.Tests.{le-leb, lt-ltb, ltb-true, ltb-false, not-false}
use lib.Dec.{eqb, ltb, lit<}
use lib.ListN.{length, get_or}
use mathlib.Core.Bool.{Bool, true, false, not}
use mathlib.Core.List.{List, [], ◌∷◌, map}
use mathlib.Core.Logic.{⊎_elim}
use mathlib.Core.Path.{◌≡◌, refl, sym, ap, ap₂, ◌∙◌}
use native.Mathlib.Nat.{mod-eq_of_lt, mod-lt}
use native.Mathlib.Omega.{arith}
use Rattle.std.specs.Prelude.{Option, Some, None, Ok, unwrap_or}
use Rattle.laws.specs.Choose.{pick}
use Rattle.protocol.specs.Checks.{gives, refused}
use Rattle.protocol.specs.FieldNumbers.{number_in}
use Rattle.protocol.specs.Sentences.{ReadTellsItsBytes}
use Rattle.protocol.specs.Layout.{Field, width}
use Rattle.protocol.specs.Optional.{options_fit}
use Rattle.protocol.specs.Options.{connid_or_zero}
use Rattle.protocol.specs.RoundTrip.{Numbers}
use Rattle.protocol.specs.Says.{written_says}
use Rattle.protocol.specs.Types.{every_row, row_of}
use Rattle.protocol.specs.Values.{Values, values_in}
use Rattle.protocol.specs.Values as packets
use Rattle.protocol.specs.WriterSentences.{writer_checks}
use Rattle.protocol.specs.Writing.{WriteLeaves, write_of}
use Rattle.protocol.specs.declared.table.TypeRow.{TypeRow}
use Rattle.protocol.specs.declared.types.Fields.{Fields}
use Rattle.protocol.specs.declared.types.Header.{Header}
use Rattle.protocol.specs.declared.types.Packet.{Packet}
use Rattle.laws.proofs.Choosing.{and_intro, and_left, and_right, branch, or_left}
use Rattle.laws.proofs.Comparing.{le_or_lt}
use Rattle.protocol.proofs.Accepted.{WrittenAs, as_read, as_written}
use Rattle.protocol.proofs.BytesHold.{read_tells_its_bytes}
use Rattle.protocol.proofs.FirstFailing.{judged_ap}
use Rattle.protocol.proofs.FoundRows.{pick_not, row_at, row_out}
use Rattle.protocol.proofs.ReadNumbers.{read_numbers}
use Rattle.protocol.proofs.RoundTrips.{length_is_packets, reads_what_was_written, writes_what_was_read}
use Rattle.protocol.proofs.Sayings.{read_gives, written_gives}
use Rattle.protocol.proofs.WriterHolds.{refusing, write_failing, write_judged, written}
use Rattle.packet_words.specs.Order.{few_words, wrong_numbers, wrong_option, wrong_type}
use Rattle.packet_words.specs.ReaderSentences.{ReadsIntoWords}
use Rattle.packet_words.specs.RoundTrip.{ReadsWordsWritten, WritesWordsRead}
use Rattle.packet_words.specs.Says.{own_by_type, put_says, words_say}
use Rattle.packet_words.specs.Writing.{connid_fits, connid_number, connid_word, cq_data_word, fields_fit, words_fields, words_header, field_word, put_as, raw_address_word, type_word, write_from, put_typed}
use Rattle.packet_words.proofs.OrderHolds.{given, held, numbers_held, put, row_said}
use Rattle.packet_words.proofs.Rows.{row_small}
use Rattle.packet_words.proofs.WordsTold.{own_numbers_lem, reads_into_words, same_values}
use Rattle.protocol.specs.Limits.{packet_limit}

-- ---- the header that the words say has their values

-- a field that holds its number says it
number_said : (v : List ℕ) (f : Field) → field_word v f < 256 ^ width f → number_in (words_fields v) f ≡ field_word v f
number_said v Field.msg_id h = mod-eq_of_lt h
number_said v Field.recv_id h = mod-eq_of_lt h
number_said v Field.send_id h = mod-eq_of_lt h
number_said v Field.msg_length h = refl
number_said v Field.seg_length h = refl
number_said v Field.recv_length h = refl
number_said v Field.seg_offset h = refl
number_said v Field.credit_request h = mod-eq_of_lt h
number_said v Field.tag h = refl
number_said v Field.multiuse h = refl
number_said v Field.padding h = refl
number_said v Field.count h = refl

own_said : (v : List ℕ) (fs : List Field) → fields_fit v fs ≡ true → map (number_in (words_fields v)) fs ≡ map (field_word v) fs
unfolding fields_fit
own_said v [] e = refl
own_said v (f ∷ fs) e =
    ap₂ (λ (n : ℕ) (ns : List ℕ). n ∷ ns) (number_said v f (ltb-true (field_word v f) (256 ^ width f) (and_left _ (fields_fit v fs) e)))
    (own_said v fs (and_right (ltb (field_word v f) (256 ^ width f)) _ e))

connid_said : (t : Bool) (d : ℕ) → pick t true (ltb d (2 ^ 32)) ≡ true
    → pick t None (Some (d % 2 ^ 32)) ≡ pick t None (Some d)
unfolding pick
connid_said true d h = refl
connid_said false d h = ap Some (mod-eq_of_lt (ltb-true d (2 ^ 32) h))

header_said : (v raw body : List ℕ) → type_word v < 256 → held v ≡ true → packets.values (words_header v) raw body ≡ words_say v raw body
unfolding packets.values words_say
header_said v raw body small fit =
    let type : type_word v % 256 ≡ type_word v = mod-eq_of_lt small in
    same_values _ _ type
    (own_numbers_lem (type_word v % 256) (words_fields v)
    ∙ ap (λ (k : ℕ). map (number_in (words_fields v)) (own_by_type k)) type
    ∙ own_said v (own_by_type (type_word v)) (and_left _ (connid_fits v) fit))
    (sym (pick_not (eqb (raw_address_word v) 0) _ _)) refl
    (connid_said (eqb (connid_word v) 0) (connid_number v) (and_right (fields_fit v (own_by_type (type_word v))) _ fit)) refl

-- each number of that header fits its field
numbers_said : (v : List ℕ) → ((i : ℕ) → get_or v i 0 < 2 ^ 64) → Numbers (words_header v)
unfolding connid_or_zero
numbers_said v words =
    record {
      fields = small;
      cq_data = branch (λ (q : Option ℕ). unwrap_or q 0 < 256 ^ 8) (eqb (cq_data_word v) 0) _ _ (λ x. lit< tt) (λ x. words 14);
      connid = branch (λ (q : Option ℕ). connid_or_zero q < 256 ^ 4) (eqb (connid_word v) 0) _ _ (λ x. lit< tt) (λ x. mod-lt (connid_number v) (lit< tt));
    }
  where
    small : (f : Field) → number_in (words_fields v) f < 256 ^ width f
    small Field.msg_id = mod-lt (get_or v 1 0) (lit< tt)
    small Field.recv_id = mod-lt (get_or v 2 0) (lit< tt)
    small Field.send_id = mod-lt (get_or v 3 0) (lit< tt)
    small Field.msg_length = words 4
    small Field.seg_length = words 5
    small Field.recv_length = words 6
    small Field.seg_offset = words 7
    small Field.credit_request = mod-lt (get_or v 8 0) (lit< tt)
    small Field.tag = words 9
    small Field.multiuse = lit< tt
    small Field.padding = lit< tt
    small Field.count = lit< tt

-- ---- words that pass their checks are left to the packet writer

module _ (v raw body out : List ℕ) (size : ℕ) where
  passed_on : (r : TypeRow) → 19 ≤ length v → row_of (type_word v) ≡ Some r → options_fit r (words_header v) ≡ true → held v ≡ true
      → write_from v raw body out size ≡ put v raw body out size (write_of (words_header v) raw body out)
  unfolding write_from put_typed pick
  passed_on r long row options fit = rw (le-leb 19 (length v) long, row, options, numbers_held v r row ∙ fit)

  -- what it writes is written
  written_on : (r : TypeRow) → WrittenAs (words_header v) raw body out r → 19 ≤ length v → type_word v < 256 → held v ≡ true
      → (left : List ℕ) (n : ℕ)
      → (write_of (words_header v) raw body out).out ≡ left
      → (write_of (words_header v) raw body out).answer ≡ Ok n
      → write_from v raw body out size ≡ record { refusal = 0; out = left; size = n }
  written_on r w long small fit left n o a = passed_on r long row w.options fit ∙ ap₂ (put_as size) o a
    where
      row : row_of (type_word v) ≡ Some r
      row = ap row_of (sym (mod-eq_of_lt small)) ∙ w.row

  -- and its answer says the same
  put_says_lem : put_says (put v raw body out size (write_of (words_header v) raw body out)) ≡ written_says (write_of (words_header v) raw body out).answer
  unfolding pick
  put_says_lem =
      ap (λ (o : WriteLeaves). put_says (put v raw body out size o)) (write_judged h raw body out)
      ∙ judged_ap (λ (o : WriteLeaves). put_says (put v raw body out size o)) (write_failing h raw body out) (refusing h raw body out) all writer_checks
      ∙ sym (judged_ap (λ (o : WriteLeaves). written_says o.answer) (write_failing h raw body out) (refusing h raw body out) all writer_checks)
      ∙ ap (λ (o : WriteLeaves). written_says o.answer) (sym (write_judged h raw body out))
    where
      h : Header
      h = words_header v

      all : WriteLeaves
      all = written h raw body out (row_of h.kind)

-- ---- reading what was written

pub reads_words_written : ReadsWordsWritten
unfolding ReadsWordsWritten ReadsIntoWords
reads_words_written v raw body out values size n words enough z =
    let h = words_header v in
    let pass = given v raw body out size n z in
    let (r, row) = row_out _ (pass wrong_type) in
    let options = not-false _ (sym (row_at _ r (λ q. not (options_fit q (words_header v))) row) ∙ pass wrong_option) in
    let fit = not-false _ (or_left (not (held v)) _ (pass wrong_numbers)) in
    let long = ltb-false (length v) 19 (pass few_words) in
    let on = passed_on v raw body out size r long row options fit in
    let answer : written_says (write_of h raw body out).answer ≡ gives n = sym (put_says_lem v raw body out size) ∙ ap put_says (sym on) ∙ z in
    let written = written_gives _ n answer in
    let (q, w, l) = as_written h raw body out n written in
    let read = reads_what_was_written h raw body out packet_limit n (numbers_said v words) (omega (arith, w.allowed)) answer in
    let (a, c, rest) = length_is_packets h raw body out n r (row_said v r row) answer in
    rw (written_on v raw body out size q w long (row_small _ r row) fit _ n refl written)
    ((reads_into_words _ values).0 enough ∙ read ∙ ap gives (header_said v raw body (row_small _ r row) fit), rest)

-- ---- writing what was read

-- fields with numbers that are read hold them
fields_held : (v : List ℕ) (a : Fields) → ((f : Field) → number_in a f < 256 ^ width f) → (fs : List Field)
    → map (field_word v) fs ≡ map (number_in a) fs
    → fields_fit v fs ≡ true
unfolding fields_fit
fields_held v a small [] e = refl
fields_held v a small (f ∷ fs) e =
    let first : field_word v f ≡ number_in a f = cc in
    let rest : map (field_word v) fs ≡ map (number_in a) fs = cc in
    and_intro _ (fields_fit v fs) (lt-ltb (field_word v f) (256 ^ width f) (rw first (small f))) (fields_held v a small fs rest)

connid_held : (t : Bool) (d : ℕ) (q : Option ℕ) → connid_or_zero q < 256 ^ 4 → pick t None (Some d) ≡ q
    → pick t true (ltb d (2 ^ 32)) ≡ true
unfolding pick connid_or_zero
connid_held true d q h e = refl
connid_held false d q h e = lt-ltb d (2 ^ 32) (rw (← e) at h)

-- words that say what was read have its type and hold its numbers
module _ (v raw body bs : List ℕ) (p : Packet) (same : values_in p bs ≡ words_say v raw body) where
  type_read : p.header.kind ≡ type_word v
  unfolding values_in packets.values words_say
  type_read = ap (λ (w : Values). w.kind) same

  held_read : Numbers p.header → held v ≡ true
  unfolding values_in packets.values words_say
  held_read numbers =
      let own = own_numbers_lem p.header.kind fields ∙ ap (λ (k : ℕ). map (number_in fields) (own_by_type k)) type_read in
      and_intro _ _ (fields_held v fields numbers.fields (own_by_type (type_word v)) (sym (ap (λ (w : Values). w.own) same) ∙ own))
      (connid_held (eqb (connid_word v) 0) (connid_number v) _ numbers.connid (sym (ap (λ (w : Values). w.connid) same)))
    where
      fields : Fields
      fields = p.header.fields

pub writes_words_read : WritesWordsRead
unfolding WritesWordsRead ReadsIntoWords ReadTellsItsBytes
writes_words_read bs values v raw body out size b room long z =
    let h = words_header v in
    let said = sym ((reads_into_words bs values).0 (⊎_elim (λ l. l) few (le_or_lt 19 (length values)))) ∙ z in
    let (p, e, same) = read_gives bs _ (words_say v raw body) said in
    let kind = (read_tells_its_bytes every_row packet_limit bs p e).kind in
    let small : type_word v < 256 = omega (arith, b 0, type_read v raw body bs p same) in
    let fit = held_read v raw body bs p same (read_numbers bs b packet_limit p e) in
    let (q, a, y) = as_read packet_limit bs p e in
    let (answer, left) = writes_what_was_read every_row packet_limit bs h raw body out b a.allowed room (said ∙ ap gives (sym (header_said v raw body small fit))) in
    let written = written_gives _ (length bs) answer in
    let (r, w, l) = as_written h raw body out (length bs) written in
    written_on v raw body out size r w long small fit _ (length bs) left written
  where
    few : length values < 19 → 19 ≤ length values
    few l =
        let x : refused 21 ≡ gives (words_say v raw body) = sym ((reads_into_words bs values).1 l) ∙ z in
        let y : ◌≡◌ {A = ℕ} 0 1 = cc in
        absurd (omega arith)
