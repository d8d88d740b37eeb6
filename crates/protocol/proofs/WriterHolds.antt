-- The writer's refusals come in 01's order: the statements of specs/WriterSentences.antt.
use Prim.Native.Nat.{ℕ, ◌<◌}
use borrow.Author.Tests.{ltb-true, ltb-false, not-true, not-false}
use lib.Dec.{ltb, lit<}
use lib.ListN.{length}
use mathlib.Core.Bool.{Bool, true, false, not, and-true, true≢false}
use mathlib.Core.List.{List, [], ◌∷◌}
use mathlib.Core.Logic.{◌⊎◌, ◌↔◌, inl, inr, ⊎_elim}
use mathlib.Core.Path.{◌≡◌, refl, sym, ap, ◌∙◌, subst}
use native.Mathlib.Omega.{arith}
use Rattle.std.specs.Prelude.{Option, Some, None, Ok, Err, is_some}
use Rattle.laws.specs.Choose.{pick}
use Rattle.laws.specs.Parts.{store_at}
use Rattle.protocol.specs.ByType.{CtsOrData, Known, LengthRule}
use Rattle.protocol.specs.Checks.{gives, refused}
use Rattle.protocol.specs.Optional.{options_fit}
use Rattle.protocol.specs.Sentences.{TypesAreTheTables}
use Rattle.protocol.specs.Lengths.{lengths_fit}
use Rattle.protocol.specs.Options.{connid_bytes, cq_data_bytes}
use Rattle.protocol.specs.Refusals.{above_limit, bad_flags, bad_length, bad_type, no_room}
use Rattle.protocol.specs.declared.refusals.Refusal.{Refusal}
use Rattle.protocol.specs.Says.{written_says}
use Rattle.protocol.specs.Types.{admit, every_row, row_of}
use Rattle.protocol.specs.WriterSentences.{Misplaced, RefusedWriteChangesNothing, WriteFails, WriteRefusedByFirstToFail, WriterCheck, WrittenIfNoneFails, broken_lengths, connid_takes, cq_data_takes, misplaced_header, no_type, over_longest, packet_length, short_buffer, write_refused_as, writer_check_at, writer_checks}
use Rattle.protocol.specs.Writing.{WriteLeaves, packet_bytes, write_as, write_bytes, write_of, write_typed}
use Rattle.protocol.specs.declared.table.TypeRow.{TypeRow}
use Rattle.protocol.specs.declared.types.Header.{Header}
use Rattle.laws.proofs.Choosing.{clashing, tested}
use Rattle.protocol.proofs.ArrayLaws.{none_allowed, none_whole}
use Rattle.protocol.proofs.FirstFailing.{given_if_none, judged, judged_ap, FirstIn, first_or_none, none_of, of_first, refused_by_first}
use Rattle.protocol.proofs.FlagLaws.{connid_fits_lem, every_option_fits, fits_connid}
use Rattle.protocol.proofs.OptionLaws.{length_raw}
use Rattle.protocol.proofs.FoundRows.{is_unknown_lem, is_unknown, of_row, pick_not, row_in, row_out}
use Rattle.protocol.proofs.TableRule.{no_array, sound}
use Rattle.protocol.proofs.TypeSentences.{connid_in_words, header_in_words, lengths_in_words, request_in_words, unknown_lengths, unknown_type}
use Rattle.protocol.proofs.SentencesHold.{types_are_the_tables}
use Rattle.protocol.proofs.WritingLaws.{length_packet}
use Rattle.wire.proofs.Laws.{length_le}
use Rattle.protocol.specs.Limits.{packet_limit}

-- ---- the packet's length

cq_data_takes_lem : (q : Option ℕ) → length (cq_data_bytes q) ≡ cq_data_takes q
unfolding cq_data_bytes
cq_data_takes_lem None = refl
cq_data_takes_lem (Some d) = rw length_le

connid_takes_lem : (k : ℕ) (r : TypeRow) (q : Option ℕ) → row_of k ≡ Some r → length (connid_bytes r q) ≡ connid_takes k q
unfolding connid_bytes
connid_takes_lem k r None e = refl
connid_takes_lem k r (Some c) e = rw length_le (connid_in_words k r e)

pub length_in_words : (h : Header) (raw body : List ℕ) (r : TypeRow) → row_of h.kind ≡ Some r → options_fit r h ≡ true
    → length (packet_bytes r h [] raw body) ≡ packet_length h (length raw) (length body)
length_in_words h raw body r e t =
    let a = header_in_words h.kind r e in
    let b = length_raw h.raw_address raw in
    let c = cq_data_takes_lem h.cq_data in
    let d = connid_takes_lem h.kind r h.connid e in
    omega (arith, length_packet r h [] raw body (sound h.kind r e) t (none_allowed r))

-- ---- an optional header that the type can't have

abbrev pub Neither : Header → Type 0
Neither h = (h.raw_address ≡ false) × (is_some h.cq_data ≡ false)

module _ (h : Header) (k : ℕ) (r : TypeRow) (e : row_of k ≡ Some r) where
  pub options_taken : options_fit r h ≡ true → CtsOrData k → Neither h
  options_taken t c = fits_connid r h (sound k r e) ((request_in_words k r e).1 c) t

  pub options_refused : options_fit r h ≡ false → CtsOrData k × (Neither h → ⊥)
  options_refused t = (
    (request_in_words k r e).0 (⊎_elim (λ q. clashing _ (every_option_fits r h (sound k r e) q) t) (λ q. q) (tested r.request)),
    λ n. clashing _ (connid_fits_lem r h (sound k r e) n.0 n.1) t,
  )

misplaced : (h : Header) → CtsOrData h.kind → (Neither h → ⊥) → Misplaced h
misplaced h c n = (c, go (tested h.raw_address) h.cq_data refl)
  where
    go : (h.raw_address ≡ true) ⊎ (h.raw_address ≡ false) → (q : Option ℕ) → h.cq_data ≡ q
        → (h.raw_address ≡ true) ⊎ ((d : ℕ) × (h.cq_data ≡ Some d))
    go (inl x) q e = inl x
    go (inr x) (Some d) e = inr (d, e)
    go (inr x) None e = absurd (n (x, ap is_some e))

well_placed : (h : Header) → Neither h → Misplaced h → ⊥
well_placed h (a, b) (c, inl x) = true≢false (sym x ∙ a)
well_placed h (a, b) (c, inr (d, x)) = true≢false (ap is_some (sym x) ∙ b)

-- each check stands in the list
pub write_placed : (c : WriterCheck) → (i : ℕ) × (i < 5) × (writer_check_at i ≡ c)
write_placed no_type = (0, lit< tt, refl)
write_placed misplaced_header = (1, lit< tt, refl)
write_placed broken_lengths = (2, lit< tt, refl)
write_placed over_longest = (3, lit< tt, refl)
write_placed short_buffer = (4, lit< tt, refl)

-- what it is refused as
abbrev pub write_refusal_of : WriterCheck → Refusal
write_refusal_of no_type = bad_type
write_refusal_of misplaced_header = bad_flags
write_refusal_of broken_lengths = bad_length
write_refusal_of over_longest = above_limit
write_refusal_of short_buffer = no_room

module _ (h : Header) (raw body out : List ℕ) where
  abbrev k : ℕ
  k = h.kind

  abbrev n : ℕ
  n = packet_length h (length raw) (length body)

  -- ---- the writer is such a list

  -- with the type's row o
  abbrev pub fails_as : Option TypeRow → WriterCheck → Bool
  fails_as o no_type = is_unknown o
  fails_as o misplaced_header = of_row o (λ r. not (options_fit r h))
  fails_as o broken_lengths = of_row o (λ r. not (lengths_fit r.shape h.fields (length body)))
  fails_as o over_longest = ltb packet_limit n
  fails_as o short_buffer = ltb (length out) n

  abbrev pub bytes_as : Option TypeRow → List ℕ
  bytes_as None = []
  bytes_as (Some r) = packet_bytes r h [] raw body

  abbrev pub written : Option TypeRow → WriteLeaves
  written o = record { answer = Ok n; out = store_at out 0 (bytes_as o) }

  abbrev pub refusing : WriterCheck → WriteLeaves
  refusing c = record { answer = Err (write_refusal_of c); out = out }

  abbrev judged_as : Option TypeRow → List WriterCheck → WriteLeaves
  judged_as o = judged (fails_as o) refusing (written o)

  bytes_judged : (r : TypeRow) → row_of k ≡ Some r → options_fit r h ≡ true
      → write_bytes (packet_bytes r h [] raw body) out ≡ judged_as (Some r) (over_longest ∷ short_buffer ∷ [])
  unfolding write_bytes
  bytes_judged r e t = ap sized (length_in_words h raw body r e t)
    where
      sized : ℕ → WriteLeaves
      sized m =
          pick (ltb packet_limit m) (refusing over_longest)
          (pick (ltb (length out) m) (refusing short_buffer) (record { answer = Ok m; out = store_at out 0 (packet_bytes r h [] raw body) }))

  typed_judged : (o : Option TypeRow) → row_of k ≡ o → write_typed o h [] raw body out ≡ judged_as o writer_checks
  unfolding write_typed write_as
  typed_judged None e = unfold pick in refl
  typed_judged (Some r) e =
      unfold pick in
      rw (none_allowed r, none_whole r (no_array k r e), and-true (options_fit r h))
      (⊎_elim (λ t. rw t (pick_not (lengths_fit r.shape h.fields (length body)) _ _
      ∙ ap (λ (x : WriteLeaves). pick (not (lengths_fit r.shape h.fields (length body))) (refusing broken_lengths) x) (bytes_judged r e t)))
      (λ t. rw t)
      (tested (options_fit r h)))

  pub write_judged : write_of h raw body out ≡ judged_as (row_of k) writer_checks
  unfolding write_of
  write_judged = typed_judged (row_of k) refl

  -- ---- a test that fails is a check that fails

  abbrev pub write_failing : WriterCheck → Bool
  write_failing = fails_as (row_of k)

  options_fail : (o : Option TypeRow) → row_of k ≡ o → fails_as o misplaced_header ≡ true → Misplaced h
  options_fail None e t = absurd (true≢false (sym t))
  options_fail (Some r) e t =
      let (c, x) = options_refused h k r e (not-true (options_fit r h) t) in
      misplaced h c x

  options_pass : (o : Option TypeRow) → row_of k ≡ o → fails_as o misplaced_header ≡ false → Misplaced h → ⊥
  options_pass None e t (c, x) = unknown_type k e (⊎_elim (λ y. inl (y, refl)) (λ y. inr (inl y)) c)
  options_pass (Some r) e t w = well_placed h (options_taken h k r e (not-false (options_fit r h) t) w.0) w

  lengths_pass : (o : Option TypeRow) → row_of k ≡ o → fails_as o broken_lengths ≡ false → LengthRule k h.fields (length body)
  lengths_pass None e t = unknown_lengths k h.fields (length body) e
  lengths_pass (Some r) e t = (lengths_in_words h.fields (length body) k r e).0 (not-false _ t)

  known : (r : TypeRow) → row_of k ≡ Some r → Known true k
  unfolding TypesAreTheTables admit pick
  known r e = (types_are_the_tables true k).0 (r, ap (admit every_row) e)

  holds : (c : WriterCheck) → write_failing c ≡ true → WriteFails h raw body out c
  holds no_type e = unknown_type k (is_unknown_lem (row_of k) e)
  holds misplaced_header e = options_fail (row_of k) refl e
  holds broken_lengths e = let (r, x, t) = row_in _ _ e in λ w. clashing _ ((lengths_in_words h.fields (length body) k r x).1 w) (not-true _ t)
  holds over_longest e = ltb-true _ _ e
  holds short_buffer e = ltb-true _ _ e

  passes : (c : WriterCheck) → write_failing c ≡ false → WriteFails h raw body out c → ⊥
  passes no_type e w = let (r, x) = row_out _ e in w (known r x)
  passes misplaced_header e w = options_pass (row_of k) refl e w
  passes broken_lengths e w = w (lengths_pass (row_of k) refl e)
  passes over_longest e w = omega (arith, ltb-false packet_limit n e)
  passes short_buffer e w = omega (arith, ltb-false (length out) n e)

  -- ---- in words

  is_said : written_says (write_of h raw body out).answer ≡ judged write_failing (λ c. refused (write_refused_as c)) (gives n) writer_checks
  is_said =
      ap (λ (o : WriteLeaves). written_says o.answer) write_judged
      ∙ judged_ap (λ (o : WriteLeaves). written_says o.answer) write_failing refusing (written (row_of k)) writer_checks

  -- the lent buffer
  leaves : (write_of h raw body out).out ≡ judged write_failing (λ c. out) (store_at out 0 (bytes_as (row_of k))) writer_checks
  leaves = ap (λ (o : WriteLeaves). o.out) write_judged ∙ judged_ap (λ (o : WriteLeaves). o.out) write_failing refusing (written (row_of k)) writer_checks

pub write_refused_by_first_to_fail : WriteRefusedByFirstToFail
unfolding WriteRefusedByFirstToFail
write_refused_by_first_to_fail h raw body out m =
    let w = refused_by_first short_buffer (write_failing h raw body out) (WriteFails h raw body out) write_refused_as (n h raw body out) writer_checks
    (holds h raw body out) (passes h raw body out) m in
    (λ e. w.0 (sym (is_said h raw body out) ∙ e), λ x. is_said h raw body out ∙ w.1 x)

pub written_if_none_fails : WrittenIfNoneFails
unfolding WrittenIfNoneFails
written_if_none_fails h raw body out m = (given, asked)
  where
    words : (judged (write_failing h raw body out) (λ c. refused (write_refused_as c)) (gives (n h raw body out)) writer_checks ≡ gives m)
        ↔ ((n h raw body out ≡ m) × ((i : ℕ) → i < 5 → WriteFails h raw body out (writer_check_at i) → ⊥))
    words = given_if_none short_buffer (write_failing h raw body out) (WriteFails h raw body out) write_refused_as (n h raw body out) writer_checks
        (holds h raw body out) (passes h raw body out) m

    given : written_says (write_of h raw body out).answer ≡ gives m → (m ≡ n h raw body out) × ((c : WriterCheck) → WriteFails h raw body out c → ⊥)
    given e =
        let (same, none-fails) = words.0 (sym (is_said h raw body out) ∙ e) in
        (sym same, λ c x. let (i, l, at) = write_placed c in none-fails i l (subst (WriteFails h raw body out) (sym at) x))

    asked : (m ≡ n h raw body out) × ((c : WriterCheck) → WriteFails h raw body out c → ⊥) → written_says (write_of h raw body out).answer ≡ gives m
    asked (same, none-fails) = is_said h raw body out ∙ words.1 (sym same, λ i l. none-fails (writer_check_at i))

pub refused_write_changes_nothing : RefusedWriteChangesNothing
unfolding RefusedWriteChangesNothing WriteRefusedByFirstToFail
refused_write_changes_nothing h raw body out m e =
    go (first_or_none short_buffer (write_failing h raw body out) (λ c. out) stored writer_checks)
  where
    stored : List ℕ
    stored = store_at out 0 (bytes_as h raw body out (row_of h.kind))

    go : ((i : ℕ) × FirstIn short_buffer (write_failing h raw body out) (λ c. out) stored writer_checks i)
        ⊎ ((i : ℕ) → i < 5 → write_failing h raw body out (writer_check_at i) ≡ false)
        → (write_of h raw body out).out ≡ out
    go (inl (i, f)) = leaves h raw body out ∙ of_first short_buffer (write_failing h raw body out) (λ c. out) stored writer_checks i f
    go (inr f) =
        let x = none_of short_buffer (write_failing h raw body out) (λ c. refused (write_refused_as c)) (gives (n h raw body out)) writer_checks f in
        let y : gives (n h raw body out) ≡ refused m = sym x ∙ sym (is_said h raw body out) ∙ e in
        let z : ◌≡◌ {A = ℕ} 0 1 = cc in
        absurd (omega arith)
