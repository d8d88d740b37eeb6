-- What a packet that was read says stands where 01's table puts it: the statement of specs/Sentences.antt on a packet's fields.
use Rattle.std.specs.Prelude.{Some, Ok}
use Rattle.std.proofs.Common.{◌≡◌, ℕ, ◌-◌, false, ◌||◌, eqb, leb, List, length, get_or, sym, refl, ap, ◌∙◌, subst, ⊎_elim, eqb-true}
use Rattle.laws.specs.Choose.{pick}
use Rattle.protocol.specs.ByType.{tagged_told}
use Rattle.protocol.specs.FieldNumbers.{field_in, fields_in}
use Rattle.protocol.specs.Layout.{layout, place_of, tag}
use Rattle.protocol.specs.Lengths.{lengths_fit}
use Rattle.protocol.specs.Reading.{header_in, packet_in, read_of}
use Rattle.protocol.specs.Types.{row, row_in, row_of, rows, served_row}
use Rattle.protocol.specs.declared.table.Shape.TheVariants.{Cts}
use Rattle.protocol.specs.declared.table.TypeRow.{TypeRow}
use Rattle.protocol.specs.declared.types.Packet.{Packet}
use Rattle.peer.specs.Sentences.{IncomingTold, ReadAsTheTableSays}
use Rattle.peer.specs.Incomings.{incoming_of}
use Rattle.peer.specs.PacketBytes.{type_number, type_said}
use Rattle.peer.specs.declared.types.Incoming.{Incoming}
use Rattle.wire.specs.LittleEndian.{le_at}
use Rattle.laws.proofs.Choosing.{and_right, clashing, or_cases}
use Rattle.protocol.proofs.Accepted.{ReadAs, as_read, data_from, packet_of}
use Rattle.protocol.proofs.RowLaws.{number_none}
use Rattle.protocol.proofs.Served.{any_read}
use Rattle.protocol.proofs.TableRule.{row_passes, rows_say, sound}
use Rattle.protocol.proofs.TypeSentences.{tagged_in_words}

-- a type that is not tagged has no tag
plain_untagged : (k : ℕ) (r : TypeRow) → row_of k ≡ Some r → r.tagged ≡ false → place_of r tag ≡ 0
plain_untagged k r e x =
    ⊎_elim (λ y. clashing r.tagged y x) (eqb-true (place_of r tag) 0)
    (or_cases r.tagged (eqb (place_of r tag) 0) (row_passes (λ q. q.tagged || eqb (place_of q tag) 0) refl k r e))

-- a row's shape and tagged give its type's number
numbered : (k : ℕ) (r : TypeRow) → row_of k ≡ Some r → type_number r.shape r.tagged ≡ k
unfolding pick
numbered = rows_say (λ k r. type_number r.shape r.tagged) (λ k. k) refl

module _ {g h : Incoming} (p : g ≡ h) where
  id_of : g.id ≡ h.id
  id_of = ap (λ (x : Incoming). x.id) p

  length_of : g.length ≡ h.length
  length_of = ap (λ (x : Incoming). x.length) p

  size_of : g.size ≡ h.size
  size_of = ap (λ (x : Incoming). x.size) p

  offset_of : g.offset ≡ h.offset
  offset_of = ap (λ (x : Incoming). x.offset) p

  send_id_of : g.send_id ≡ h.send_id
  send_id_of = ap (λ (x : Incoming). x.send_id) p

  credit_of : g.credit_request ≡ h.credit_request
  credit_of = ap (λ (x : Incoming). x.credit_request) p

  tag_of : g.tag ≡ h.tag
  tag_of = ap (λ (x : Incoming). x.tag) p

-- the rows of the table in their order
abbrev row_at : ℕ → TypeRow
row_at i = get_or rows i (row 0 Cts 0 0 0 0 false false false 0 0)

module _ (limit : ℕ) (bs : List ℕ) (q : Packet) (e : read_of served_row limit bs ≡ Ok q) where
  -- a packet of the type k is read as the row of this type has it
  read_by_row : (k : ℕ) (r : TypeRow) → row_of k ≡ Some r → get_or bs 0 0 ≡ k
      → ReadAs limit bs r × (incoming_of q ≡ incoming_of (packet_of r (le_at 2 bs 2) bs))
  read_by_row k r x y =
      let (s, a, p) = as_read limit bs q (any_read served_row limit bs q e) in
      let same : s ≡ r = cc (a.row, x, y) in
      (subst (ReadAs limit bs) same a, ap incoming_of p ∙ ap (λ (z : TypeRow). incoming_of (packet_of z (le_at 2 bs 2) bs)) same)

  as_row : (k i : ℕ) → row_of k ≡ Some (row_at i) → get_or bs 0 0 ≡ k → incoming_of q ≡ incoming_of (packet_of (row_at i) (le_at 2 bs 2) bs)
  as_row k i x y = (read_by_row k (row_at i) x y).1

  kind_read : type_said (incoming_of q) ≡ get_or bs 0 0
  unfolding incoming_of packet_in
  kind_read =
      let (r, a, p) = as_read limit bs q (any_read served_row limit bs q e) in
      ap (λ (x : Packet). type_number x.shape x.tagged) p ∙ numbered (get_or bs 0 0) r a.row

  tagged_read : (incoming_of q).tagged ≡ tagged_told (get_or bs 0 0)
  unfolding incoming_of packet_in
  tagged_read =
      let (r, a, p) = as_read limit bs q (any_read served_row limit bs q e) in
      ap (λ (x : Packet). x.tagged) p ∙ tagged_in_words (get_or bs 0 0) r a.row

  size_read : get_or bs 0 0 ≡ 4 → (incoming_of q).size ≡ le_at 8 bs 8
  unfolding row_of row_in pick incoming_of packet_in header_in fields_in field_in layout lengths_fit
  size_read x =
      let (a, p) = read_by_row 4 (row_at 1) refl x in
      let n : ℕ = length bs - data_from (row_at 1) (le_at 2 bs 2) bs in
      size_of p ∙ eqb-true n (le_at 8 bs 8) (and_right (leb 1 n) (eqb n (le_at 8 bs 8)) a.lengths)

  tag_read : tagged_told (get_or bs 0 0) ≡ false → (incoming_of q).tag ≡ 0
  unfolding incoming_of packet_in header_in fields_in
  tag_read x =
      let (r, a, p) = as_read limit bs q (any_read served_row limit bs q e) in
      ap (λ (y : Packet). y.header.fields.tag) p
      ∙ number_none r bs tag (sound (get_or bs 0 0) r a.row) (plain_untagged (get_or bs 0 0) r a.row (tagged_in_words (get_or bs 0 0) r a.row ∙ x))

  told : IncomingTold bs (incoming_of q)
  unfolding row_of row_in pick incoming_of packet_in header_in fields_in field_in layout
  told =
      record {
        kind = kind_read;
        tagged = tagged_read;
        ctsdata = λ x. let p = as_row 4 1 refl x in (id_of p, size_read x, offset_of p);
        eager = ⊎_elim (λ x. let p = as_row 64 2 refl x in (id_of p, length_of p ∙ sym (size_of p), offset_of p))
            (λ x. let p = as_row 65 3 refl x in (id_of p, length_of p ∙ sym (size_of p), offset_of p));
        medium = ⊎_elim (λ x. let p = as_row 66 4 refl x in (id_of p, length_of p, offset_of p))
            (λ x. let p = as_row 67 5 refl x in (id_of p, length_of p, offset_of p));
        long = ⊎_elim (λ x. let p = as_row 68 6 refl x in (id_of p, length_of p, offset_of p, send_id_of p, credit_of p))
            (λ x. let p = as_row 69 7 refl x in (id_of p, length_of p, offset_of p, send_id_of p, credit_of p));
        eager_tag = λ x. tag_of (as_row 65 3 refl x);
        tag = ⊎_elim (λ x. tag_of (as_row 67 5 refl x)) (λ x. tag_of (as_row 69 7 refl x));
        no_tag = tag_read;
      }

pub read_as_the_table_says : ReadAsTheTableSays
unfolding ReadAsTheTableSays
read_as_the_table_says = told
