-- The writer's refusals from words come in 01's order: what specs/Order.antt states.
use Prim.Native.Nat.{ℕ, ◌%◌, ◌^◌, ◌≤◌, ◌<◌}
use borrow.Author.Tests.{eqb-true, eqb-false, ltb-true, ltb-false, ne_eqb, not-true, not-false}
use lib.Dec.{leb, ltb, eqb, lit<}
use lib.ListN.{length}
use mathlib.Core.Bool.{Bool, true, false, not, ◌&&◌, ◌||◌, true≢false}
use mathlib.Core.List.Memᴰ
use mathlib.Core.List.{List, [], ◌∷◌, Memᴰ}
use mathlib.Core.Logic.{◌⊎◌, inl, inr, ⊎_elim}
use mathlib.Core.Path.{◌≡◌, refl, sym, ap, ap₂, ◌∙◌, subst}
use native.Mathlib.Nat.{mod-eq_of_lt}
use native.Mathlib.Omega.{arith}
use Rattle.std.specs.Prelude.{Option, Some, None}
use Rattle.laws.specs.Choose.{pick}
use Rattle.laws.specs.Parts.{store_at}
use Rattle.protocol.specs.ByType.{Known, LengthRule}
use Rattle.protocol.specs.Checks.{Said, gives, refused}
use Rattle.protocol.specs.Optional.{options_fit}
use Rattle.protocol.specs.Sentences.{TypesAreTheTables}
use Rattle.protocol.specs.Layout.{Field, width}
use Rattle.protocol.specs.Lengths.{lengths_fit}
use Rattle.protocol.specs.Types.{admit, every_row, row_of}
use Rattle.protocol.specs.WriterSentences.{connid_takes, cq_data_takes, packet_length, writer_checks}
use Rattle.protocol.specs.Writing.{WriteLeaves, write_of}
use Rattle.protocol.specs.declared.table.TypeRow.{TypeRow}
use Rattle.protocol.specs.declared.types.Header.{Header}
use Rattle.packet_words.specs.Order.{PutCheck, PutFails, PutIfNoneFails, PutRefusedByFirstToFail, RefusedPutChangesNothing, TooLarge, few_words, fields_said, no_room, over_limit, put_check_at, put_checks, put_length, put_refused_as, wrong_numbers, wrong_option, wrong_type}
use Rattle.packet_words.specs.Says.{own_by_type, put_says}
use Rattle.packet_words.specs.Writing.{Put, connid_fits, connid_number, connid_word, cq_data_word, fields_fit, words_fields, words_header, field_word, words_fit, put_as, raw_address_word, refused_put, type_word, write_from, put_typed}
use Rattle.laws.proofs.Choosing.{and_left, and_right, clashing, or_cases, or_left, or_right, pick_ap, pick_cases, pick_false, pick_true, tested}
use Rattle.laws.proofs.Comparing.{beyond, not_beyond}
use Rattle.protocol.proofs.FirstFailing.{FirstIn, all_pass, first_or_none, given_if_none, judged, judged_ap, none_of, of_first, refused_by_first}
use Rattle.protocol.proofs.FoundRows.{is_unknown_lem, is_unknown, of_row, pick_not, row_in, row_out}
use Rattle.protocol.proofs.TypeSentences.{lengths_in_words, unknown_lengths, unknown_type}
use Rattle.protocol.proofs.SentencesHold.{types_are_the_tables}
use Rattle.protocol.proofs.WriterHolds.{bytes_as, options_refused, options_taken, refusing, write_failing, write_judged, written}
use Rattle.packet_words.proofs.Fitting.{cq_said}
use Rattle.packet_words.proofs.Rows.{own_fields_lem, own_of, row_small}
use Rattle.protocol.specs.Limits.{packet_limit}

-- a conjunction that fails fails in a part
and_cases : (a b : Bool) → (a && b) ≡ false → (a ≡ false) ⊎ (b ≡ false)
and_cases true b e = inr e
and_cases false b e = inl refl

module _ (v : List ℕ) where
  -- ---- numbers

  too_large : (fs : List Field) → fields_fit v fs ≡ false → (f : Field) × Memᴰ f fs × (256 ^ width f ≤ field_word v f)
  unfolding fields_fit
  too_large [] e = absurd (true≢false e)
  too_large (g ∷ fs) e =
      ⊎_elim (λ x. (g, Memᴰ.head refl, ltb-false _ _ x)) (λ x. let (f, m, n) = too_large fs x in (f, Memᴰ.tail m, n))
      (and_cases (ltb (field_word v g) (256 ^ width g)) (fields_fit v fs) e)

  each_fits : (fs : List Field) → fields_fit v fs ≡ true → (f : Field) → Memᴰ f fs → field_word v f < 256 ^ width f
  unfolding fields_fit
  each_fits [] e f m = absurd (Memᴰ.not-nil m)
  each_fits (g ∷ fs) e f m =
      ⊎_elim
      (λ x. rw x (ltb-true (field_word v g) (256 ^ width g) (and_left _ (fields_fit v fs) e)))
      (each_fits fs (and_right (ltb (field_word v g) (256 ^ width g)) (fields_fit v fs) e) f)
      (Memᴰ.cases_cons m)

  -- by the type's number
  abbrev pub held : Bool
  held = fields_fit v (own_by_type (type_word v)) && connid_fits v

  numbers_large : held ≡ false → TooLarge v
  numbers_large x =
      ⊎_elim (λ y. inl (too_large (own_by_type (type_word v)) y)) (λ y. inr (connid_large (pick_cases (eqb (connid_word v) 0) true _ false y)))
      (and_cases (fields_fit v (own_by_type (type_word v))) (connid_fits v) x)
    where
      connid_large : ((eqb (connid_word v) 0 ≡ true) × (true ≡ false)) ⊎ ((eqb (connid_word v) 0 ≡ false) × (ltb (connid_number v) (2 ^ 32) ≡ false))
          → (connid_word v ≡ 0 → ⊥) × (2 ^ 32 ≤ connid_number v)
      connid_large (inl y) = absurd (true≢false y.1)
      connid_large (inr y) = (eqb-false _ _ y.0, ltb-false _ _ y.1)

  numbers_fit : held ≡ true → TooLarge v → ⊥
  numbers_fit x (inl (f, m, n)) =
      omega (arith, each_fits (own_by_type (type_word v)) (and_left (fields_fit v (own_by_type (type_word v))) (connid_fits v) x) f m)
  numbers_fit x (inr (t, n)) =
      let y : ltb (connid_number v) (2 ^ 32) ≡ true =
      sym (pick_false true _ (ne_eqb (connid_word v) 0 t)) ∙ and_right (fields_fit v (own_by_type (type_word v))) (connid_fits v) x in
      omega (arith, ltb-true (connid_number v) (2 ^ 32) y)

  module _ (r : TypeRow) (e : row_of (type_word v) ≡ Some r) where
    pub numbers_held : words_fit r v ≡ held
    unfolding words_fit
    numbers_held = ap (λ (fs : List Field). fields_fit v fs && connid_fits v) (ap own_of (sym e) ∙ own_fields_lem (type_word v))

    pub type_small : type_word v % 256 ≡ type_word v
    type_small = mod-eq_of_lt (row_small _ r e)

    pub row_said : row_of (words_header v).kind ≡ Some r
    row_said = ap row_of type_small ∙ e

    -- ---- optional headers

    abbrev Misplaced : Type 0
    Misplaced = PutFails v [] [] [] wrong_option

    options_out : options_fit r (words_header v) ≡ false → Misplaced
    options_out x =
        let (c, n) = options_refused (words_header v) (type_word v) r e x in (
          c,
          ⊎_elim (λ y. ⊎_elim (λ z. absurd (n (rw y, cq_said v ∙ rw z))) (λ z. inr (eqb-false _ _ z)) (tested (eqb (cq_data_word v) 0))) (λ y. inl (eqb-false _ _ y))
              (tested (eqb (raw_address_word v) 0)),
        )

    options_in : options_fit r (words_header v) ≡ true → Misplaced → ⊥
    options_in x (y, there) =
        let (a, b) = options_taken (words_header v) (type_word v) r e x y in
        ⊎_elim (λ n. n (eqb-true _ _ (not-false _ a))) (λ n. n (eqb-true _ _ (not-false _ (sym (cq_said v) ∙ b)))) there

    -- ---- the packet's length

    length_said : (m n : ℕ) → packet_length (words_header v) m n ≡ put_length v m n
    length_said m n =
        rw (type_small, ← pick_not (eqb (raw_address_word v) 0), pick_ap cq_data_takes (eqb (cq_data_word v) 0))
        (rw (pick_ap (connid_takes (type_word v)) (eqb (connid_word v) 0)))

-- the rule on lengths speaks of numbers that are never cut
rule_said : (v : List ℕ) (n : ℕ) → LengthRule (type_word v) (words_fields v) n → LengthRule (type_word v) (fields_said v) n
rule_said v n w = record { cts = w.cts; ctsdata = w.ctsdata; medium = w.medium; long = w.long }

rule_in : (v : List ℕ) (n : ℕ) → LengthRule (type_word v) (fields_said v) n → LengthRule (type_word v) (words_fields v) n
rule_in v n w = record { cts = w.cts; ctsdata = w.ctsdata; medium = w.medium; long = w.long }

known_row : (k : ℕ) (r : TypeRow) → row_of k ≡ Some r → Known true k
unfolding TypesAreTheTables admit pick
known_row k r e = (types_are_the_tables true k).0 (r, ap (admit every_row) e)

-- each check stands in the list
placed : (c : PutCheck) → (i : ℕ) × (i < 6) × (put_check_at i ≡ c)
placed few_words = (0, lit< tt, refl)
placed wrong_type = (1, lit< tt, refl)
placed wrong_option = (2, lit< tt, refl)
placed wrong_numbers = (3, lit< tt, refl)
placed over_limit = (4, lit< tt, refl)
placed no_room = (5, lit< tt, refl)

module _ (v raw body out : List ℕ) (size : ℕ) where
  abbrev k : ℕ
  k = type_word v

  abbrev n : ℕ
  n = put_length v (length raw) (length body)

  -- ---- the writer is a list of checks

  -- with the type's row o
  abbrev broken : Option TypeRow → Bool
  broken o = of_row o (λ r. not (lengths_fit r.shape (words_fields v) (length body)))

  abbrev fails_as : Option TypeRow → PutCheck → Bool
  fails_as o few_words = ltb (length v) 19
  fails_as o wrong_type = is_unknown o
  fails_as o wrong_option = of_row o (λ r. not (options_fit r (words_header v)))
  fails_as o wrong_numbers = not (held v) || broken o
  fails_as o over_limit = ltb packet_limit n
  fails_as o no_room = ltb (length out) n

  abbrev refuse : PutCheck → Put
  refuse c = refused_put (put_refused_as c) out size

  abbrev passed_as : Option TypeRow → Put
  passed_as o = record { refusal = 0; out = store_at out 0 (bytes_as (words_header v) raw body out o); size = n }

  abbrev judged_as : Option TypeRow → List PutCheck → Put
  judged_as o = judged (fails_as o) refuse (passed_as o)

  -- what the packet writer leaves, as the writer from words says it
  abbrev pub put : WriteLeaves → Put
  put o = put_as size o.out o.answer

  -- the packet writer's checks on lengths and room are the last
  passed_on : (r : TypeRow) → row_of k ≡ Some r → options_fit r (words_header v) ≡ true
      → put (write_of (words_header v) raw body out)
      ≡ pick (broken (Some r)) (refuse wrong_numbers) (judged_as (Some r) (over_limit ∷ no_room ∷ []))
  passed_on r e x =
      ap put (write_judged h raw body out)
      ∙ judged_ap put (write_failing h raw body out) (refusing h raw body out) (written h raw body out (row_of h.kind)) writer_checks
      ∙ ap₂ (λ (o : Option TypeRow) (m : ℕ). tests o m) (row_said v r e) (length_said v r e (length raw) (length body))
      ∙ pick_false _ _ refl
      ∙ pick_false _ _ (ap not x)
    where
      h : Header
      h = words_header v

      -- for the row o, with a packet of m bytes
      tests : Option TypeRow → ℕ → Put
      tests o m =
          pick (is_unknown o) (refuse wrong_type)
          (pick (of_row o (λ q. not (options_fit q h))) (refuse wrong_option)
          (pick (broken o) (refuse wrong_numbers)
          (pick (ltb packet_limit m) (refuse over_limit)
          (pick (ltb (length out) m) (refuse no_room) (record { refusal = 0; out = store_at out 0 (bytes_as h raw body out o); size = m })))))

  row_judged : (r : TypeRow) → row_of k ≡ Some r
      → put_typed (Some r) v raw body out size ≡ judged_as (Some r) (wrong_option ∷ wrong_numbers ∷ over_limit ∷ no_room ∷ [])
  unfolding put_typed pick
  row_judged r e = go (tested (options_fit r (words_header v))) (tested (words_fit r v))
    where
      go : (options_fit r (words_header v) ≡ true) ⊎ (options_fit r (words_header v) ≡ false) → (words_fit r v ≡ true) ⊎ (words_fit r v ≡ false)
          → put_typed (Some r) v raw body out size ≡ judged_as (Some r) (wrong_option ∷ wrong_numbers ∷ over_limit ∷ no_room ∷ [])
      go (inr x) y = rw x
      go (inl x) (inr y) = rw (x, y, sym (numbers_held v r e) ∙ y)
      go (inl x) (inl y) = rw (x, y, sym (numbers_held v r e) ∙ y) (passed_on r e x)

  pick_beyond : {A : Type 0} (m n : ℕ) (a b : A) → pick (leb m n) a b ≡ pick (ltb n m) b a
  pick_beyond m n a b =
      ⊎_elim (λ x. pick_true a b x ∙ sym (pick_false b a (beyond m n x))) (λ x. pick_false a b x ∙ sym (pick_true b a (not_beyond m n x)))
      (tested (leb m n))

  is_judged : write_from v raw body out size ≡ judged_as (row_of k) put_checks
  unfolding write_from
  is_judged =
      pick_beyond 19 (length v) _ _
      ∙ ap (λ (p : Put). pick (ltb (length v) 19) (refuse few_words) p) (go (row_of k) refl)
    where
      go : (o : Option TypeRow) → row_of k ≡ o
          → put_typed o v raw body out size ≡ judged_as o (wrong_type ∷ wrong_option ∷ wrong_numbers ∷ over_limit ∷ no_room ∷ [])
      go None e = unfold put_typed in unfold pick in refl
      go (Some r) e = row_judged r e ∙ sym (pick_false (refuse wrong_type) _ refl)

  -- ---- a test that fails is a check that fails

  abbrev failing : PutCheck → Bool
  failing = fails_as (row_of k)

  rule_passes : (o : Option TypeRow) → row_of k ≡ o → broken o ≡ false → LengthRule k (fields_said v) (length body)
  rule_passes None e t = unknown_lengths k (fields_said v) (length body) e
  rule_passes (Some r) e t = rule_said v (length body) ((lengths_in_words (words_fields v) (length body) k r e).0 (not-false _ t))

  options_pass : (o : Option TypeRow) → row_of k ≡ o → fails_as o wrong_option ≡ false → PutFails v raw body out wrong_option → ⊥
  options_pass None e t w = unknown_type k e (⊎_elim (λ y. inl (y, refl)) (λ y. inr (inl y)) w.0)
  options_pass (Some r) e t w = options_in v r e (not-false _ t) w

  holds : (c : PutCheck) → failing c ≡ true → PutFails v raw body out c
  holds few_words e = ltb-true _ _ e
  holds wrong_type e = unknown_type k (is_unknown_lem (row_of k) e)
  holds wrong_option e = let (r, x, t) = row_in _ _ e in options_out v r x (not-true _ t)
  holds wrong_numbers e =
      ⊎_elim (λ x. inl (numbers_large v (not-true _ x)))
      (λ x.
      let (r, y, t) = row_in _ _ x in
      inr (λ w. clashing _ ((lengths_in_words (words_fields v) (length body) k r y).1 (rule_in v (length body) w)) (not-true _ t)))
      (or_cases (not (held v)) (broken (row_of k)) e)
  holds over_limit e = ltb-true _ _ e
  holds no_room e = ltb-true _ _ e

  passes : (c : PutCheck) → failing c ≡ false → PutFails v raw body out c → ⊥
  passes few_words e w = omega (arith, ltb-false (length v) 19 e)
  passes wrong_type e w = let (r, x) = row_out _ e in w (known_row k r x)
  passes wrong_option e w = options_pass (row_of k) refl e w
  passes wrong_numbers e w =
      ⊎_elim (numbers_fit v (not-false _ (or_left _ (broken (row_of k)) e))) (λ x. x (rule_passes (row_of k) refl (or_right (not (held v)) _ e))) w
  passes over_limit e w = omega (arith, ltb-false packet_limit n e)
  passes no_room e w = omega (arith, ltb-false (length out) n e)

  -- ---- in words

  abbrev refuse_said : PutCheck → Said ℕ
  refuse_said c = refused (put_refused_as c)

  is_said : put_says (write_from v raw body out size) ≡ judged failing refuse_said (gives n) put_checks
  unfolding pick
  is_said = ap put_says is_judged ∙ judged_ap put_says failing refuse (passed_as (row_of k)) put_checks

  -- a writer that gives a length: its tests pass, and the packet writer is left to write
  pub given : (m : ℕ) → put_says (write_from v raw body out size) ≡ gives m → (c : PutCheck) → failing c ≡ false
  given m e c =
      let (i, l, at) = placed c in
      ap failing (sym at)
      ∙ (all_pass no_room failing refuse_said (gives n) put_checks (gives m) (λ c x. let z : ◌≡◌ {A = ℕ} 0 1 = cc in omega arith) (sym is_said ∙ e)).0 i l

pub put_refused_by_first_to_fail : PutRefusedByFirstToFail
unfolding PutRefusedByFirstToFail
put_refused_by_first_to_fail v raw body out size m =
    let w = refused_by_first no_room (failing v raw body out size) (PutFails v raw body out) put_refused_as (n v raw body out size) put_checks
    (holds v raw body out size) (passes v raw body out size) m in
    (λ e. w.0 (sym (is_said v raw body out size) ∙ e), λ x. is_said v raw body out size ∙ w.1 x)

pub put_if_none_fails : PutIfNoneFails
unfolding PutIfNoneFails
put_if_none_fails v raw body out size m =
    let w = given_if_none no_room (failing v raw body out size) (PutFails v raw body out) put_refused_as (n v raw body out size) put_checks
    (holds v raw body out size) (passes v raw body out size) m in (
      λ e.
          let (same, none) = w.0 (sym (is_said v raw body out size) ∙ e) in
          (sym same, λ c x. let (i, l, at) = placed c in none i l (subst (PutFails v raw body out) (sym at) x)),
      λ x. is_said v raw body out size ∙ w.1 (sym x.0, λ i l. x.1 (put_check_at i)),
    )

pub refused_put_changes_nothing : RefusedPutChangesNothing
unfolding RefusedPutChangesNothing
refused_put_changes_nothing v raw body out size m e =
    go (first_or_none no_room fails (refuse v raw body out size) passed put_checks)
  where
    fails : PutCheck → Bool
    fails = failing v raw body out size

    passed : Put
    passed = passed_as v raw body out size (row_of (type_word v))

    go : ((i : ℕ) × FirstIn no_room fails (refuse v raw body out size) passed put_checks i) ⊎ ((i : ℕ) → i < 6 → fails (put_check_at i) ≡ false)
        → write_from v raw body out size ≡ refused_put m out size
    go (inl (i, f)) =
        let x = of_first no_room fails (refuse_said v raw body out size) (gives (n v raw body out size)) put_checks i f in
        let y : refused (put_refused_as (put_check_at i)) ≡ refused m = sym x ∙ sym (is_said v raw body out size) ∙ e in
        let z : put_refused_as (put_check_at i) ≡ m = cc in
        is_judged v raw body out size
        ∙ of_first no_room fails (refuse v raw body out size) passed put_checks i f
        ∙ ap (λ (j : ℕ). refused_put j out size) z
    go (inr f) =
        let x = none_of no_room fails (refuse_said v raw body out size) (gives (n v raw body out size)) put_checks f in
        let y : gives (n v raw body out size) ≡ refused m = sym x ∙ sym (is_said v raw body out size) ∙ e in
        let z : ◌≡◌ {A = ℕ} 0 1 = cc in
        absurd (omega arith)
