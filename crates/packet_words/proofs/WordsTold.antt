-- The reader into words says what the packet reader says: what specs/ReaderSentences.antt states.
use Prim.Native.Nat.{ℕ, ◌≤◌, ◌<◌}
use borrow.Author.Tests.{le-leb, lt-leb, ne_eqb}
use lib.Dec.{eqb, lit<}
use lib.ListN.{length, get_or, drop, get_or-append}
use mathlib.Core.Bool.{Bool, true, false}
use mathlib.Core.List.{List, [], ◌∷◌, map}
use mathlib.Core.Logic.{⊎_elim}
use mathlib.Core.Path.{◌≡◌, refl, sym, ap, ap₂, ◌∙◌}
use native.Mathlib.Omega.{arith}
use Rattle.std.specs.Prelude.{Option, Some, None, Result, Ok, Err}
use Rattle.laws.specs.Choose.{pick}
use Rattle.laws.specs.Parts.{part, store_at}
use Rattle.protocol.specs.Checks.{gives, refused}
use Rattle.protocol.specs.FieldNumbers.{number_in}
use Rattle.protocol.specs.Sentences.{RefusedByFirstToFail}
use Rattle.protocol.specs.Sentences as reader
use Rattle.protocol.specs.Layout.{Field}
use Rattle.protocol.specs.Reading.{read_of}
use Rattle.protocol.specs.Says.{read_says}
use Rattle.protocol.specs.Types.{every_row, row_of}
use Rattle.protocol.specs.Values.{Values, own_numbers, values_in}
use Rattle.protocol.specs.Values as packets
use Rattle.protocol.specs.declared.types.Fields.{Fields}
use Rattle.protocol.specs.declared.types.Packet.{Packet}
use Rattle.protocol.specs.declared.refusals.Refusal.{Refusal}
use Rattle.laws.proofs.Choosing.{pick_false, pick_true}
use Rattle.laws.proofs.Comparing.{le_or_lt}
use Rattle.laws.proofs.Storing.{store_start}
use Rattle.protocol.proofs.OrderHolds.{refused_by_first_to_fail}
use Rattle.words.specs.Presence.{bool_bit, option_bit, option_value}
use Rattle.packet_words.specs.ReaderSentences.{ReadsIntoWords, RefusedReadChangesNothing}
use Rattle.packet_words.specs.Says.{own_by_type, took_says, words_data, words_raw_address, words_say}
use Rattle.packet_words.specs.Values.{read_into, took_as, value_words}
use Rattle.packet_words.specs.Writing.{field_word, type_word}
use Rattle.packet_words.proofs.Rows.{own_fields_lem, own_of}
use Rattle.protocol.specs.Limits.{packet_limit}
use Rattle.protocol.specs.declared.table.TypeRow.{TypeRow}
use Rattle.protocol.specs.Refusals.{number}

-- ---- values

-- two packets' values are equal in each part
pub same_values : (a b : Values) → a.kind ≡ b.kind → a.own ≡ b.own → a.raw_address ≡ b.raw_address → a.cq_data ≡ b.cq_data
    → a.connid ≡ b.connid
    → a.body ≡ b.body
    → a ≡ b
same_values a b k o r q c d = λ i. record { kind = k i; own = o i; raw_address = r i; cq_data = q i; connid = c i; body = d i }

-- the numbers of the type's own fields, by its number
pub own_numbers_lem : (k : ℕ) (v : Fields) → own_numbers (row_of k) v ≡ map (number_in v) (own_by_type k)
own_numbers_lem k v = go (row_of k) ∙ ap (map (number_in v)) (own_fields_lem k)
  where
    go : (o : Option TypeRow) → own_numbers o v ≡ map (number_in v) (own_of o)
    go None = unfold own_numbers in refl
    go (Some r) = unfold own_numbers in refl

-- ---- the words of a packet that was read

bit_told : (t : Bool) (raw : List ℕ) → ◌≡◌ {A = Option (List ℕ)} (pick (eqb (bool_bit t) 0) None (Some raw)) (pick t (Some raw) None)
unfolding pick
bit_told true raw = refl
bit_told false raw = refl

cq_told : (q : Option ℕ) → pick (eqb (option_bit q) 0) None (Some (option_value q)) ≡ q
unfolding pick
cq_told None = refl
cq_told (Some d) = refl

connid_told : (q : Option ℕ) → pick (eqb (option_bit q) 0) None (Some (option_value q)) ≡ q
unfolding pick
connid_told None = refl
connid_told (Some d) = refl

module _ (values : List ℕ) (p : Packet) where
  abbrev words_of : List ℕ
  words_of = store_at values 0 (value_words p)

  word_at : (i : ℕ) → i < 19 → get_or words_of i 0 ≡ get_or (value_words p) i 0
  word_at i h =
      rw (← store_start values (value_words p) (length (value_words p)) refl)
      (get_or-append (value_words p) (drop (length (value_words p)) values) 0 i (unfold value_words in h))

  field_word_lem : (f : Field) → field_word words_of f ≡ number_in p.header.fields f
  unfolding value_words
  field_word_lem Field.msg_id = word_at 1 (lit< tt)
  field_word_lem Field.recv_id = word_at 2 (lit< tt)
  field_word_lem Field.send_id = word_at 3 (lit< tt)
  field_word_lem Field.msg_length = word_at 4 (lit< tt)
  field_word_lem Field.seg_length = word_at 5 (lit< tt)
  field_word_lem Field.recv_length = word_at 6 (lit< tt)
  field_word_lem Field.seg_offset = word_at 7 (lit< tt)
  field_word_lem Field.credit_request = word_at 8 (lit< tt)
  field_word_lem Field.tag = word_at 9 (lit< tt)
  field_word_lem Field.multiuse = refl
  field_word_lem Field.padding = refl
  field_word_lem Field.count = refl

  own_words : (fs : List Field) → map (field_word words_of) fs ≡ map (number_in p.header.fields) fs
  own_words [] = refl
  own_words (f ∷ fs) = ap₂ (λ (n : ℕ) (ns : List ℕ). n ∷ ns) (field_word_lem f) (own_words fs)

  words_told : (bs : List ℕ) → words_say words_of (words_raw_address words_of bs) (words_data words_of bs) ≡ values_in p bs
  unfolding words_say values_in packets.values value_words
  words_told bs =
      same_values _ _ kind
      (own_words (own_by_type (type_word words_of)) ∙ ap (λ (k : ℕ). map (number_in p.header.fields) (own_by_type k)) kind ∙ sym (own_numbers_lem p.header.kind _))
      (ap₂ (λ (n : ℕ) (raw : List ℕ). pick (eqb n 0) None (Some raw)) (word_at 10 (lit< tt)) (ap₂ (part bs) (word_at 11 (lit< tt)) (word_at 12 (lit< tt)))
      ∙ bit_told p.header.raw_address _)
      (ap₂ (λ (n d : ℕ). pick (eqb n 0) None (Some d)) (word_at 13 (lit< tt)) (word_at 14 (lit< tt)) ∙ cq_told p.header.cq_data)
      (ap₂ (λ (n d : ℕ). pick (eqb n 0) None (Some d)) (word_at 15 (lit< tt)) (word_at 16 (lit< tt)) ∙ connid_told p.header.connid)
      (ap₂ (part bs) (word_at 17 (lit< tt)) (word_at 18 (lit< tt)))
    where
      kind : type_word words_of ≡ p.header.kind
      kind = word_at 0 (lit< tt)

-- ---- refusals

some_number : (c : reader.ReaderCheck) → 0 < reader.refused_as c
some_number reader.over_limit = lit< tt
some_number reader.no_base = lit< tt
some_number reader.wrong_version = lit< tt
some_number reader.wrong_type = lit< tt
some_number reader.wrong_flags = lit< tt
some_number reader.header_cut = lit< tt
some_number reader.wrong_lengths = lit< tt

-- no refusal has the number 0
no_refusal : (bs : List ℕ) (k : Refusal) → read_of every_row packet_limit bs ≡ Err k → number k ≡ 0 → ⊥
unfolding RefusedByFirstToFail
no_refusal bs k e z =
    let (i, l, same, f) = (refused_by_first_to_fail true packet_limit bs (number k)).0 (ap (read_says bs) e) in
    omega (arith, some_number (reader.check_at i))

module _ (bs values : List ℕ) where
  enough : 19 ≤ length values → read_into bs values ≡ took_as values (read_of every_row packet_limit bs)
  unfolding read_into
  enough l = pick_true _ _ (le-leb 19 (length values) l)

  few : length values < 19 → read_into bs values ≡ record { refusal = 21; values = values }
  unfolding read_into
  few l = pick_false _ _ (lt-leb 19 (length values) l)

  same_said : (o : Result Packet Refusal) → read_of every_row packet_limit bs ≡ o → took_says bs (took_as values o) ≡ read_says bs o
  unfolding took_says
  same_said (Err k) e = pick_false _ _ (ne_eqb (number k) 0 (no_refusal bs k e))
  same_said (Ok p) e = pick_true _ _ refl ∙ ap gives (words_told values p bs)

pub reads_into_words : ReadsIntoWords
unfolding ReadsIntoWords
reads_into_words bs values = (
  λ l. ap (took_says bs) (enough bs values l) ∙ same_said bs values (read_of every_row packet_limit bs) refl,
  λ l. ap (took_says bs) (few bs values l) ∙ (unfold took_says in pick_false _ _ refl),
)

pub refused_read_changes_nothing : RefusedReadChangesNothing
unfolding RefusedReadChangesNothing ReadsIntoWords
refused_read_changes_nothing bs values n e = ⊎_elim (λ l. read l (read_of every_row packet_limit bs) refl) short (le_or_lt 19 (length values))
  where
    short : length values < 19 → read_into bs values ≡ record { refusal = n; values = values }
    short l =
        let x : refused 21 ≡ refused n = sym ((reads_into_words bs values).1 l) ∙ e in
        let same : 21 ≡ n = cc in
        few bs values l ∙ ap (λ (k : ℕ). record { refusal = k; values = values }) same

    read : 19 ≤ length values → (o : Result Packet Refusal) → read_of every_row packet_limit bs ≡ o → read_into bs values ≡ record { refusal = n; values = values }
    read l (Err k) y =
        let x : refused (number k) ≡ refused n = sym ((reads_into_words bs values).0 l ∙ ap (read_says bs) y) ∙ e in
        let same : number k ≡ n = cc in
        enough bs values l ∙ ap (took_as values) y ∙ ap (λ (k : ℕ). record { refusal = k; values = values }) same
    read l (Ok p) y =
        let x : gives (values_in p bs) ≡ refused n = sym ((reads_into_words bs values).0 l ∙ ap (read_says bs) y) ∙ e in
        let z : ◌≡◌ {A = ℕ} 0 1 = cc in
        absurd (omega arith)
