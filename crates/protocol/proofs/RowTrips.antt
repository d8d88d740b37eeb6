-- What is written as a row says is read as it says, of every row that keeps the table's rule, with a counted array or without: the last two
-- statements of specs/RoundTrip.antt.
use Prim.Native.Nat.{ℕ, ◌≤◌}
use borrow.Author.Tests.{le-ltb, ltb-false}
use lib.ListN.{length}
use mathlib.Core.Bool.{true}
use mathlib.Core.List.{List}
use mathlib.Core.Path.{◌≡◌, sym, ap, ◌∙◌, subst}
use native.Mathlib.Nat.{zero-add}
use native.Mathlib.Omega.{arith}
use Rattle.std.specs.Prelude.{Result, Ok, Err}
use Rattle.laws.specs.Parts.{part, store_at}
use Rattle.protocol.specs.Arrays.{array_allowed, array_whole}
use Rattle.protocol.specs.Flags.{flags_fit}
use Rattle.protocol.specs.Lengths.{lengths_fit}
use Rattle.protocol.specs.Optional.{options_fit}
use Rattle.protocol.specs.Reading.{read_flags, read_lengths, read_sections}
use Rattle.protocol.specs.Refusals.{above_limit, bad_flags, bad_length, no_room}
use Rattle.protocol.specs.RoundTrip.{RowLengthIsPackets, RowReadsWhatWasWritten, RowTells}
use Rattle.protocol.specs.SectionsInTurn.{after_raw, sections_behind, sections_from}
use Rattle.protocol.specs.Writing.{WriteLeaves, packet_bytes, write_as, write_bytes}
use Rattle.protocol.specs.declared.table.TypeRow.{TypeRow}
use Rattle.protocol.specs.declared.types.Header.{Header}
use Rattle.protocol.specs.declared.types.Packet.{Packet}
use Rattle.protocol.specs.declared.refusals.Refusal.{Refusal}
use Rattle.wire.specs.LittleEndian.{le_at}
use Rattle.laws.proofs.Choosing.{and_left, and_right, pick_ap, pick_false, pick_first, pick_second, pick_true}
use Rattle.laws.proofs.Storing.{drop_store, part_store}
use Rattle.protocol.proofs.Accepted.{data_from, packet_of}
use Rattle.protocol.proofs.ReadBack.{flags_taken_lem, inside, same, whole_tells}
use Rattle.protocol.proofs.Sayings.{written_gives}
use Rattle.protocol.proofs.StepLaws.{extent_in_steps, whole_bytes}
use Rattle.protocol.specs.Limits.{packet_limit}

no_length : (k : Refusal) (n : ℕ) → Err k ≡ Ok n → ⊥
no_length k n e = let z : ◌≡◌ {A = ℕ} 0 1 = cc in omega arith

-- what the writer's answer tells
record Taken (r : TypeRow) (h : Header) (arr raw body out : List ℕ) (n : ℕ) : Type 0 where
  pub options : options_fit r h ≡ true
  pub given : array_allowed r (length arr) ≡ true
  pub members : array_whole r (length arr) ≡ true
  pub allowed : length (packet_bytes r h arr raw body) ≤ packet_limit
  pub room : length (packet_bytes r h arr raw body) ≤ length out
  pub size : n ≡ length (packet_bytes r h arr raw body)
  pub left : (write_as r h arr raw body out).out ≡ store_at out 0 (packet_bytes r h arr raw body)

module _ (r : TypeRow) (h : Header) (arr raw body out : List ℕ) (n : ℕ) where
  abbrev bytes : List ℕ
  bytes = packet_bytes r h arr raw body

  taken : (write_as r h arr raw body out).answer ≡ Ok n → Taken r h arr raw body out n
  unfolding write_as write_bytes
  taken e =
      let answer : WriteLeaves → Result ℕ Refusal = λ o. o.answer in
      let (a, e) = pick_first _ _ _ _ (no_length bad_flags n) (sym (pick_ap answer _ _ _) ∙ e) in
      let (b, e) = pick_first _ _ _ _ (no_length bad_length n) (sym (pick_ap answer _ _ _) ∙ e) in
      let (c, e) = pick_second _ _ _ _ (no_length above_limit n) (sym (pick_ap answer _ _ _) ∙ e) in
      let (d, e) = pick_second _ _ _ _ (no_length no_room n) (sym (pick_ap answer _ _ _) ∙ e) in
      let size : length bytes ≡ n = cc in
      record {
        options = and_left _ (array_allowed r (length arr)) a;
        given = and_right (options_fit r h) _ a;
        members = and_left _ (lengths_fit r.shape h.fields (length body)) b;
        allowed = ltb-false packet_limit (length bytes) c;
        room = ltb-false (length out) (length bytes) d;
        size = sym size;
        left = ap (λ (o : WriteLeaves). o.out) (pick_true _ _ a ∙ pick_true _ _ b ∙ pick_false _ _ c ∙ pick_false _ _ d);
      }

pub row_length_is_packets : RowLengthIsPackets
unfolding part
row_length_is_packets r h arr raw body out n e =
    let t = taken r h arr raw body out n (written_gives _ n e) in
    let rest = rw zero-add at (drop_store out 0 (packet_bytes r h arr raw body) (omega (arith, t.room))) in
    (t.size, rw (t.left, t.size) (part_store out 0 (packet_bytes r h arr raw body) (omega (arith, t.room))), rw (t.left, t.size) rest)

-- a packet whose flags fit and whose headers are whole is read up to its rule on lengths
up_to_lengths : (r : TypeRow) (bs : List ℕ) → flags_fit r (le_at 2 bs 2) ≡ true → data_from r (le_at 2 bs 2) bs ≤ length bs
    → read_flags r bs ≡ read_lengths r (packet_of r (le_at 2 bs 2) bs)
unfolding read_flags read_sections sections_behind sections_from after_raw
up_to_lengths r bs t l =
    pick_true _ _ t
    ∙ ap (read_sections r (le_at 2 bs 2) bs) (extent_in_steps r (le_at 2 bs 2) bs ∙ pick_false _ _ (le-ltb (length bs) (data_from r (le_at 2 bs 2) bs) l))

pub row_reads_what_was_written : RowReadsWhatWasWritten
row_reads_what_was_written r h arr raw body out n s x e =
    let t = taken r h arr raw body out n (written_gives _ n e) in
    let whole = whole_bytes r h arr raw body in
    let flags = flags_taken_lem h arr raw body r s x t.options t.given t.members t.allowed in
    let fits = inside h arr raw body r s x t.options t.given t.members t.allowed in
    let tells = whole_tells h arr raw body r s x t.options t.given t.members t.allowed in
    let bytes = (row_length_is_packets r h arr raw body out n e).1 ∙ same h arr raw body r s x t.options t.given t.members t.allowed in
    subst (λ (bs : List ℕ). (p : Packet) × (read_flags r bs ≡ read_lengths r p) × RowTells r h arr raw body bs p) (sym bytes)
    (packet_of r (le_at 2 whole 2) whole, up_to_lengths r whole flags fits, tells)
