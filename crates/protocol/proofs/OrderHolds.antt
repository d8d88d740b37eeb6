-- The reader's refusals come in 01's order: a packet is refused by the first of the checks that fails, and read if none does.
use Prim.Native.Nat.{ℕ, ◌-◌, ◌<◌}
use borrow.Author.Tests.{ltb-true, ltb-false, eqb-true, eqb-false, not-true, not-false}
use lib.Dec.{ltb, eqb, lit<}
use lib.ListN.{length, get_or}
use mathlib.Core.Bool.{Bool, true, false, not, ◌||◌}
use mathlib.Core.List.{List, [], ◌∷◌}
use mathlib.Core.Logic.{◌↔◌, ⊎_elim}
use mathlib.Core.Path.{◌≡◌, refl, sym, ap, ap₂, ◌∙◌, subst}
use native.Mathlib.Omega.{arith}
use Rattle.std.specs.Prelude.{Option, Some, None, Result, Ok, Err}
use Rattle.laws.specs.Choose.{pick}
use Rattle.protocol.specs.ByType.{FlagRule, LengthRule, fields_told}
use Rattle.protocol.specs.Checks.{gives, refused}
use Rattle.protocol.specs.Flags.{flags_fit, has_flag}
use Rattle.protocol.specs.Sentences.{ReaderCheck, ReadFails, ReadIfNoneFails, RefusedByFirstToFail, TypesAreTheTables, check_at, flags_in, head_in, header_cut, no_base, over_limit, reader_checks, refused_as, type_in, wrong_flags, wrong_lengths, wrong_type, wrong_version}
use Rattle.protocol.specs.Lengths.{lengths_fit}
use Rattle.protocol.specs.Reading.{header_in, packet_in, read_flags, read_lengths, read_of, read_sections, read_typed}
use Rattle.protocol.specs.Refusals.{above_limit, bad_flags, bad_length, bad_type, bad_version, cut_short}
use Rattle.protocol.specs.Says.{read_says}
use Rattle.protocol.specs.Optional.{connid, cq_data, raw_address}
use Rattle.protocol.specs.Sections.{extent_of}
use Rattle.protocol.specs.SectionsInTurn.{after_raw, connid_length, cq_data_length, sections_behind, sections_from}
use Rattle.protocol.specs.Types.{admit, reader_rows, row, row_of}
use Rattle.protocol.specs.Values.{Values, values_in}
use Rattle.protocol.specs.declared.table.Shape.TheVariants.{Cts}
use Rattle.protocol.specs.declared.table.TypeRow.{TypeRow}
use Rattle.protocol.specs.declared.types.Fields.{Fields}
use Rattle.protocol.specs.declared.types.Packet.{Packet}
use Rattle.laws.proofs.Choosing.{clashing, pick_ap, tested}
use Rattle.protocol.proofs.WholePacket.{data_from, packet_of}
use Rattle.protocol.proofs.FirstFailing.{given_if_none, judged, judged_ap, refused_by_first}
use Rattle.protocol.proofs.FoundRows.{is_unknown, of_row, pick_not, row_in, row_out}
use Rattle.protocol.proofs.FlagSentences.{flagged_by_flag, flags_in_words}
use Rattle.protocol.proofs.StepLaws.{extent_in_steps}
use Rattle.protocol.proofs.TableRule.{no_array}
use Rattle.protocol.proofs.RowLaws.{after_no_array}
use Rattle.protocol.proofs.TypeSentences.{connid_in_words, fields_in_words, header_in_words, lengths_in_words, unknown_flags, unknown_lengths}
use Rattle.protocol.proofs.SentencesHold.{types_are_the_tables}
use Rattle.protocol.specs.declared.refusals.Refusal.{Refusal}

-- where a packet's headers end by its row, and by its type number
pub row_head : (bs : List ℕ) (r : TypeRow) → row_of (type_in bs) ≡ Some r → flags_fit r (flags_in bs) ≡ true → data_from r (flags_in bs) bs ≡ head_in bs
unfolding after_raw cq_data_length connid_length has_flag
row_head bs r e t =
    let there = flagged_by_flag (flags_in bs) (type_in bs) r e ((flags_in_words (type_in bs) r (flags_in bs) e).0 t) in
    rw (after_no_array r bs (no_array (type_in bs) r e), there raw_address refl, there cq_data refl, there connid refl, header_in_words (type_in bs) r e, connid_in_words (type_in bs) r e)

-- each check stands in the list
pub placed : (c : ReaderCheck) → (i : ℕ) × (i < 7) × (check_at i ≡ c)
placed over_limit = (0, lit< tt, refl)
placed no_base = (1, lit< tt, refl)
placed wrong_version = (2, lit< tt, refl)
placed wrong_type = (3, lit< tt, refl)
placed wrong_flags = (4, lit< tt, refl)
placed header_cut = (5, lit< tt, refl)
placed wrong_lengths = (6, lit< tt, refl)

-- what it is refused as
abbrev pub refusal_of : ReaderCheck → Refusal
refusal_of over_limit = above_limit
refusal_of no_base = cut_short
refusal_of wrong_version = bad_version
refusal_of wrong_type = bad_type
refusal_of wrong_flags = bad_flags
refusal_of header_cut = cut_short
refusal_of wrong_lengths = bad_length

module _ (all : Bool) (limit : ℕ) (bs : List ℕ) where
  abbrev k : ℕ
  k = type_in bs

  abbrev f : ℕ
  f = flags_in bs

  -- ---- the reader is such a list

  -- with the type's row o
  abbrev pub fails_as : Option TypeRow → ReaderCheck → Bool
  fails_as o over_limit = ltb limit (length bs)
  fails_as o no_base = ltb (length bs) 4
  fails_as o wrong_version = not (eqb (get_or bs 1 0) 4)
  fails_as o wrong_type = is_unknown (admit (reader_rows all) o)
  fails_as o wrong_flags = of_row o (λ r. not (flags_fit r f))
  fails_as o header_cut = ltb (length bs) (head_in bs)
  fails_as o wrong_lengths = of_row o (λ r. not (lengths_fit r.shape (fields_told bs k) (length bs - head_in bs)))

  abbrev pub passed_as : Option TypeRow → Packet
  passed_as None = packet_of (row 0 Cts 0 0 0 0 false false false 0 0) f bs
  passed_as (Some r) = packet_of r f bs

  abbrev judged_as : Option TypeRow → List ReaderCheck → Result Packet Refusal
  judged_as o = judged (fails_as o) (λ c. Err (refusal_of c)) (Ok (passed_as o))

  sections_judged : (r : TypeRow) → row_of k ≡ Some r → flags_fit r f ≡ true
      → read_sections r f bs (extent_of r f bs) ≡ judged_as (Some r) (header_cut ∷ wrong_lengths ∷ [])
  unfolding sections_behind sections_from after_raw read_sections read_lengths packet_in header_in
  sections_judged r e t =
      ap (read_sections r f bs) (extent_in_steps r f bs)
      ∙ pick_ap (read_sections r f bs) (ltb (length bs) (data_from r f bs)) None _
      ∙ ap₂ whole (row_head bs r e t) (fields_in_words bs k r e)
      ∙ ap (λ (x : Result Packet Refusal). pick (ltb (length bs) (head_in bs)) (Err cut_short) x) (pick_not (lengths_fit _ _ _) _ _)
    where
      whole : ℕ → Fields → Result Packet Refusal
      whole m v =
          pick (ltb (length bs) m) (Err cut_short)
          (pick (lengths_fit r.shape v (length bs - m)) (Ok (packet_of r f bs)) (Err bad_length))

  typed_judged : (o : Option TypeRow) → row_of k ≡ o → read_typed (admit (reader_rows all) o) bs ≡ judged_as o (wrong_type ∷ wrong_flags ∷ header_cut ∷ wrong_lengths ∷ [])
  unfolding admit read_typed read_flags
  typed_judged None e = unfold pick in refl
  typed_judged (Some r) e = go (all || r.served)
    where
      rest : Result Packet Refusal
      rest = judged_as (Some r) (wrong_flags ∷ header_cut ∷ wrong_lengths ∷ [])

      go : (t : Bool) → read_typed (pick t (Some r) None) bs ≡ pick (is_unknown (pick t (Some r) None)) (Err bad_type) rest
      go true = unfold pick in ⊎_elim (λ t. rw t (sections_judged r e t)) (λ t. rw t) (tested (flags_fit r f))
      go false = unfold pick in refl

  pub is_judged : read_of (reader_rows all) limit bs ≡ judged_as (row_of k) reader_checks
  unfolding read_of
  is_judged =
      ap (λ (x : Result Packet Refusal). pick (ltb limit (length bs)) (Err above_limit) (pick (ltb (length bs) 4) (Err cut_short) x))
      (pick_not (eqb (get_or bs 1 0) 4) _ _
      ∙ ap (λ (x : Result Packet Refusal). pick (not (eqb (get_or bs 1 0) 4)) (Err bad_version) x) (typed_judged (row_of k) refl))

  -- ---- a test that fails is a check that fails

  abbrev pub failing : ReaderCheck → Bool
  failing = fails_as (row_of k)

  holds : (c : ReaderCheck) → failing c ≡ true → ReadFails all limit bs c
  holds over_limit e = ltb-true _ _ e
  holds no_base e = ltb-true _ _ e
  holds wrong_version e = eqb-false _ _ (not-true _ e)
  holds wrong_type e =
      unfold TypesAreTheTables in
      λ w. clashing (is_unknown (admit (reader_rows all) (row_of k))) e (ap is_unknown ((types_are_the_tables all k).1 w).1)
  holds wrong_flags e = let (r, x, t) = row_in _ _ e in λ w. clashing _ ((flags_in_words k r f x).1 w) (not-true _ t)
  holds header_cut e = ltb-true _ _ e
  holds wrong_lengths e = let (r, x, t) = row_in _ _ e in λ w. clashing _ ((lengths_in_words (fields_told bs k) _ k r x).1 w) (not-true _ t)

  flags_hold : (o : Option TypeRow) → row_of k ≡ o → fails_as o wrong_flags ≡ false → FlagRule k f
  flags_hold None x e = unknown_flags k f x
  flags_hold (Some r) x e = (flags_in_words k r f x).0 (not-false _ e)

  lengths_hold : (o : Option TypeRow) → row_of k ≡ o → fails_as o wrong_lengths ≡ false → LengthRule k (fields_told bs k) (length bs - head_in bs)
  lengths_hold None x e = unknown_lengths k (fields_told bs k) _ x
  lengths_hold (Some r) x e = (lengths_in_words (fields_told bs k) _ k r x).0 (not-false _ e)

  passes : (c : ReaderCheck) → failing c ≡ false → ReadFails all limit bs c → ⊥
  passes over_limit e w = omega (arith, ltb-false limit (length bs) e)
  passes no_base e w = omega (arith, ltb-false (length bs) 4 e)
  passes wrong_version e w = w (eqb-true _ _ (not-false _ e))
  passes wrong_type e w = unfold TypesAreTheTables in w ((types_are_the_tables all k).0 (row_out _ e))
  passes wrong_flags e w = w (flags_hold (row_of k) refl e)
  passes header_cut e w = omega (arith, ltb-false (length bs) (head_in bs) e)
  passes wrong_lengths e w = w (lengths_hold (row_of k) refl e)

  -- ---- in words

  abbrev passed : Values
  passed = values_in (passed_as (row_of k)) bs

  is_said : read_says bs (read_of (reader_rows all) limit bs) ≡ judged failing (λ c. refused (refused_as c)) (gives passed) reader_checks
  is_said =
      ap (read_says bs) is_judged
      ∙ judged_ap (read_says bs) failing (λ c. Err (refusal_of c)) (Ok (passed_as (row_of k))) reader_checks

pub refused_by_first_to_fail : RefusedByFirstToFail
unfolding RefusedByFirstToFail
refused_by_first_to_fail all limit bs n =
    let w = refused_by_first wrong_lengths (failing all limit bs) (ReadFails all limit bs) refused_as (passed all limit bs) reader_checks
    (holds all limit bs) (passes all limit bs) n in
    (λ e. w.0 (sym (is_said all limit bs) ∙ e), λ x. is_said all limit bs ∙ w.1 x)

pub read_if_none_fails : ReadIfNoneFails
unfolding ReadIfNoneFails
read_if_none_fails all limit bs = (given, asked)
  where
    words : (v : Values) → (judged (failing all limit bs) (λ c. refused (refused_as c)) (gives (passed all limit bs)) reader_checks ≡ gives v)
        ↔ ((passed all limit bs ≡ v) × ((i : ℕ) → i < 7 → ReadFails all limit bs (check_at i) → ⊥))
    words = given_if_none wrong_lengths (failing all limit bs) (ReadFails all limit bs) refused_as (passed all limit bs) reader_checks
        (holds all limit bs) (passes all limit bs)

    given : (v : Values) × (read_says bs (read_of (reader_rows all) limit bs) ≡ gives v) → (c : ReaderCheck) → ReadFails all limit bs c → ⊥
    given (v, e) c x =
        let (i, l, same) = placed c in
        ((words v).0 (sym (is_said all limit bs) ∙ e)).1 i l (subst (ReadFails all limit bs) (sym same) x)

    asked : ((c : ReaderCheck) → ReadFails all limit bs c → ⊥) → (v : Values) × (read_says bs (read_of (reader_rows all) limit bs) ≡ gives v)
    asked none-fails = (passed all limit bs, is_said all limit bs ∙ (words _).1 (refl, λ i l. none-fails (check_at i)))
