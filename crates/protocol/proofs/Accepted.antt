-- What the reader and the writer accept, as a record of facts: from their answer, and back to it.
use Prim.Native.Nat.{ℕ, ◌-◌, ◌≤◌, ◌<◌}
use borrow.Author.Tests.{ltb-false, eqb-true, le-ltb, eq-eqb, not-false}
use lib.ListN.{length, get_or}
use mathlib.Core.Bool.{true, false, not}
use mathlib.Core.List.{List, []}
use mathlib.Core.Path.{◌≡◌, sym, ap, ap₂, ◌∙◌, subst}
use native.Mathlib.Omega.{arith}
use Rattle.std.specs.Prelude.{Option, Some, Result, Ok, Err}
use Rattle.laws.specs.Choose.{pick}
use Rattle.laws.specs.Parts.{store_at}
use Rattle.protocol.specs.ByType.{fields_told}
use Rattle.protocol.specs.FieldNumbers.{fields_in}
use Rattle.protocol.specs.Flags.{flags_fit}
use Rattle.protocol.specs.Optional.{options_fit}
use Rattle.protocol.specs.Sentences.{ReaderCheck, check_at, head_in, header_cut, no_base, over_limit, reader_checks, wrong_flags, wrong_lengths, wrong_type, wrong_version}
use Rattle.protocol.specs.Layout.{layout}
use Rattle.protocol.specs.Lengths.{lengths_fit}
use Rattle.protocol.specs.Reading.{read_of}
use Rattle.protocol.specs.Types.{admit, every_row, row_of}
use Rattle.protocol.specs.WriterSentences.{WriterCheck, broken_lengths, misplaced_header, no_type, over_longest, packet_length, short_buffer, writer_check_at, writer_checks}
use Rattle.protocol.specs.Writing.{WriteLeaves, packet_bytes, write_of}
use Rattle.protocol.specs.declared.table.TypeRow.{TypeRow}
use Rattle.protocol.specs.declared.types.Fields.{Fields}
use Rattle.protocol.specs.declared.types.Header.{Header}
use Rattle.protocol.specs.declared.types.Packet.{Packet}
use Rattle.protocol.specs.declared.refusals.Refusal.{Refusal}
use Rattle.wire.specs.LittleEndian.{le_at}
use Rattle.protocol.proofs.FirstFailing.{all_pass, judged_ap, none_of}
use Rattle.protocol.proofs.FoundRows.{is_unknown, row_at, row_out}
use Rattle.protocol.proofs.OrderHolds.{failing, is_judged, passed_as, placed, refusal_of, row_head}
use Rattle.protocol.proofs.TypeSentences.{fields_in_words}
pub use Rattle.protocol.proofs.WholePacket.{connid_from, data_from, packet_of}
use Rattle.protocol.proofs.SentencesHold.{of_row}
use Rattle.protocol.proofs.WriterHolds.{length_in_words, refusing, write_failing, write_judged, write_placed, write_refusal_of, written}
use Rattle.protocol.specs.Limits.{packet_limit}

-- bs are a packet of type r that the reader takes
pub record ReadAs (limit : ℕ) (bs : List ℕ) (r : TypeRow) : Type 0 where
  pub allowed : length bs ≤ limit
  pub based : 4 ≤ length bs
  pub version : get_or bs 1 0 ≡ 4
  pub row : row_of (get_or bs 0 0) ≡ Some r
  pub flags : flags_fit r (le_at 2 bs 2) ≡ true
  pub inside : data_from r (le_at 2 bs 2) bs ≤ length bs
  pub lengths : lengths_fit r.shape (fields_in (layout r) 4 bs) (length bs - data_from r (le_at 2 bs 2) bs) ≡ true

pub read_as : (limit : ℕ) (bs : List ℕ) (r : TypeRow) → ReadAs limit bs r → read_of every_row limit bs ≡ Ok (packet_of r (le_at 2 bs 2) bs)
unfolding admit pick
read_as limit bs r a =
    is_judged true limit bs
    ∙ none_of wrong_lengths (failing true limit bs) (λ c. Err (refusal_of c)) (Ok (passed_as true limit bs (row_of k))) reader_checks
    (λ i l. pass (check_at i))
    ∙ ap (λ (o : Option TypeRow). Ok (passed_as true limit bs o)) a.row
  where
    k : ℕ
    k = get_or bs 0 0

    fit : lengths_fit r.shape (fields_told bs k) (length bs - head_in bs) ≡ true
    fit =
        ap₂ (λ (v : Fields) (m : ℕ). lengths_fit r.shape v (length bs - m)) (sym (fields_in_words bs k r a.row)) (sym (row_head bs r a.row a.flags))
        ∙ a.lengths

    pass : (c : ReaderCheck) → failing true limit bs c ≡ false
    pass over_limit = le-ltb limit (length bs) a.allowed
    pass no_base = le-ltb (length bs) 4 a.based
    pass wrong_version = ap not (eq-eqb (get_or bs 1 0) 4 a.version)
    pass wrong_type = ap (λ (o : Option TypeRow). is_unknown (admit every_row o)) a.row
    pass wrong_flags = row_at _ r (λ q. not (flags_fit q (le_at 2 bs 2))) a.row ∙ ap not a.flags
    pass header_cut = le-ltb (length bs) (head_in bs) (rw (row_head bs r a.row a.flags) at a.inside)
    pass wrong_lengths = row_at _ r (λ q. not (lengths_fit q.shape (fields_told bs k) (length bs - head_in bs))) a.row ∙ ap not fit

no_packet : (k : Refusal) (p : Packet) → Err k ≡ Ok p → ⊥
no_packet k p e = let z : ◌≡◌ {A = ℕ} 0 1 = cc in omega arith

pub as_read : (limit : ℕ) (bs : List ℕ) (p : Packet)
    → read_of every_row limit bs ≡ Ok p
    → (r : TypeRow) × ReadAs limit bs r × (p ≡ packet_of r (le_at 2 bs 2) bs)
as_read limit bs p e = accepted (of_row true (row_of k) _ (row_out _ (pass wrong_type)).1).0
  where
    k : ℕ
    k = get_or bs 0 0

    tests : ((i : ℕ) → i < 7 → failing true limit bs (check_at i) ≡ false) × (◌≡◌ {A = Result Packet Refusal} (Ok (passed_as true limit bs (row_of k))) (Ok p))
    tests =
        all_pass wrong_lengths (failing true limit bs) (λ c. Err (refusal_of c)) (Ok (passed_as true limit bs (row_of k))) reader_checks
        (Ok p)
        (λ c. no_packet _ p)
        (sym (is_judged true limit bs) ∙ e)

    pass : (c : ReaderCheck) → failing true limit bs c ≡ false
    pass c = let (i, l, same) = placed c in ap (failing true limit bs) (sym same) ∙ tests.0 i l

    accepted : {r : TypeRow} → row_of k ≡ Some r → (r : TypeRow) × ReadAs limit bs r × (p ≡ packet_of r (le_at 2 bs 2) bs)
    accepted {r} x = (
      r,
      record {
        allowed = ltb-false limit (length bs) (pass over_limit);
        based = ltb-false (length bs) 4 (pass no_base);
        version = eqb-true _ _ (not-false _ (pass wrong_version));
        row = x;
        flags = fits;
        inside = subst (λ (m : ℕ). m ≤ length bs) (sym (row_head bs r x fits)) (ltb-false _ _ (pass header_cut));
        lengths = ap₂ (λ (v : Fields) (m : ℕ). lengths_fit r.shape v (length bs - m)) (fields_in_words bs k r x) (row_head bs r x fits)
            ∙ not-false _ (sym (row_at _ r (λ q. not (lengths_fit q.shape (fields_told bs k) (length bs - head_in bs))) x) ∙ pass wrong_lengths);
      },
      same,
    )
      where
        fits : flags_fit r (le_at 2 bs 2) ≡ true
        fits = not-false _ (sym (row_at _ r (λ q. not (flags_fit q (le_at 2 bs 2))) x) ∙ pass wrong_flags)

        same : p ≡ packet_of r (le_at 2 bs 2) bs
        same =
            let y : Ok (packet_of r (le_at 2 bs 2) bs) ≡ Ok p =
            ap (λ (o : Option TypeRow). Ok (passed_as true limit bs o)) (sym x) ∙ tests.1 in
            cc

-- a packet of the type r is written
pub record WrittenAs (h : Header) (raw body out : List ℕ) (r : TypeRow) : Type 0 where
  pub row : row_of h.kind ≡ Some r
  pub options : options_fit r h ≡ true
  pub lengths : lengths_fit r.shape h.fields (length body) ≡ true
  pub allowed : length (packet_bytes r h [] raw body) ≤ packet_limit
  pub room : length (packet_bytes r h [] raw body) ≤ length out

pub write_as : (h : Header) (raw body out : List ℕ) (r : TypeRow)
    → WrittenAs h raw body out r
    → write_of h raw body out ≡ record { answer = Ok (length (packet_bytes r h [] raw body)); out = store_at out 0 (packet_bytes r h [] raw body) }
write_as h raw body out r a =
    write_judged h raw body out
    ∙ none_of short_buffer (write_failing h raw body out) (refusing h raw body out) (written h raw body out (row_of h.kind)) writer_checks
    (λ i l. pass (writer_check_at i))
    ∙ ap (written h raw body out) a.row
    ∙ ap (λ (m : ℕ). record { answer = Ok m; out = store_at out 0 (packet_bytes r h [] raw body) }) (sym size)
  where
    size : length (packet_bytes r h [] raw body) ≡ packet_length h (length raw) (length body)
    size = length_in_words h raw body r a.row a.options

    pass : (c : WriterCheck) → write_failing h raw body out c ≡ false
    pass no_type = ap is_unknown a.row
    pass misplaced_header = row_at _ r (λ q. not (options_fit q h)) a.row ∙ ap not a.options
    pass broken_lengths = row_at _ r (λ q. not (lengths_fit q.shape h.fields (length body))) a.row ∙ ap not a.lengths
    pass over_longest = le-ltb packet_limit (packet_length h (length raw) (length body)) (omega (arith, size, a.allowed))
    pass short_buffer = le-ltb (length out) (packet_length h (length raw) (length body)) (omega (arith, size, a.room))

no_length : (k : Refusal) (n : ℕ) → Err k ≡ Ok n → ⊥
no_length k n e = let z : ◌≡◌ {A = ℕ} 0 1 = cc in omega arith

pub as_written : (h : Header) (raw body out : List ℕ) (n : ℕ)
    → (write_of h raw body out).answer ≡ Ok n
    → (r : TypeRow) × WrittenAs h raw body out r × (n ≡ length (packet_bytes r h [] raw body))
as_written h raw body out n e = accepted (row_out _ (pass no_type))
  where
    total : ℕ
    total = packet_length h (length raw) (length body)

    kept : WriteLeaves
    kept = written h raw body out (row_of h.kind)

    tests : ((i : ℕ) → i < 5 → write_failing h raw body out (writer_check_at i) ≡ false) × (◌≡◌ {A = Result ℕ Refusal} (Ok total) (Ok n))
    tests =
        all_pass short_buffer (write_failing h raw body out) (λ c. Err (write_refusal_of c))
        (Ok total)
        writer_checks
        (Ok n)
        (λ c. no_length _ n)
        (sym (judged_ap (λ (o : WriteLeaves). o.answer) (write_failing h raw body out) (refusing h raw body out) kept writer_checks)
        ∙ ap (λ (o : WriteLeaves). o.answer) (sym (write_judged h raw body out))
        ∙ e)

    pass : (c : WriterCheck) → write_failing h raw body out c ≡ false
    pass c = let (i, l, same) = write_placed c in ap (write_failing h raw body out) (sym same) ∙ tests.0 i l

    accepted : (r : TypeRow) × (row_of h.kind ≡ Some r) → (r : TypeRow) × WrittenAs h raw body out r × (n ≡ length (packet_bytes r h [] raw body))
    accepted (r, x) =
        let fits = not-false _ (sym (row_at _ r (λ q. not (options_fit q h)) x) ∙ pass misplaced_header) in
        let size = length_in_words h raw body r x fits in
        let answered : total ≡ n = cc tests.1 in (
          r,
          record {
            row = x;
            options = fits;
            lengths = not-false _ (sym (row_at _ r (λ q. not (lengths_fit q.shape h.fields (length body))) x) ∙ pass broken_lengths);
            allowed = omega (arith, size, ltb-false packet_limit (total) (pass over_longest));
            room = omega (arith, size, ltb-false (length out) (total) (pass short_buffer));
          },
          omega (arith, size, answered),
        )
