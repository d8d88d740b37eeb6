-- A header with zeros outside its layout reads back as itself: the statement of specs/RoundTrip.antt, which senders and receivers share. Two
-- headers with the same values differ at most outside their type's layout, and what is read has zeros there.
use Prim.Native.Nat.{ℕ}
use borrow.Author.Tests.{eq-eqb, eqb-true, eqb-false}
use lib.Dec.{eqb}
use lib.ListN.{get_or}
use mathlib.Core.Bool.{Bool, true, false, false≢true}
use mathlib.Core.List.{List, [], ◌∷◌, map}
use mathlib.Core.Logic.{⊎_elim}
use mathlib.Core.Path.{◌≡◌, refl, sym, ap, ◌∙◌}
use native.Mathlib.Omega.{arith}
use Rattle.std.specs.Prelude.{Option, Some, None}
use Rattle.laws.specs.Choose.{pick}
use Rattle.protocol.specs.FieldNumbers.{fields_in, number_in}
use Rattle.protocol.specs.Layout.{Field, count, credit_request, has, is_own, layout, msg_id, msg_length, multiuse, ordinal, own_fields, padding, place_of, recv_id, recv_length, same_field, seg_length, seg_offset, select, send_id, tag}
use Rattle.protocol.specs.Reading.{header_in, packet_in, read_of}
use Rattle.protocol.specs.RoundTrip.{HeaderReadsBack, ZeroOutside}
use Rattle.protocol.specs.Rules.{Sound}
use Rattle.protocol.specs.Types.{admit, every_row, row_of}
use Rattle.protocol.specs.Values.{Values, bytes_at, own_numbers, values, values_in}
use Rattle.protocol.specs.Writing.{packet_bytes}
use Rattle.protocol.specs.declared.table.TypeRow.{TypeRow}
use Rattle.protocol.specs.declared.types.Header.{Header}
use Rattle.wire.specs.LittleEndian.{le_at}
use Rattle.laws.proofs.Choosing.{tested}
use Rattle.protocol.proofs.Accepted.{as_written, packet_of, read_as}
use Rattle.protocol.proofs.LayoutLaws.{map_has, place_has, read_none, same_field_lem}
use Rattle.protocol.proofs.ReadBack.{written_reads, written_values}
use Rattle.protocol.proofs.RoundTrips.{length_is_packets}
use Rattle.protocol.proofs.Sayings.{written_gives}
use Rattle.protocol.proofs.TableRule.{sound}
use Rattle.protocol.proofs.ValuesWritten.{address_same, connid_same, cq_same, kind_same, own_same}

-- ---- two headers

own_more : (gs : List Field) (g f : Field) → same_field g f ≡ false → has f (select is_own gs) ≡ true → has f (select is_own (g ∷ gs)) ≡ true
unfolding pick
own_more gs g f e m = go (is_own g)
  where
    go : (t : Bool) → has f (pick t (g ∷ select is_own gs) (select is_own gs)) ≡ true
    go true = rw e m
    go false = m

own_has : (gs : List Field) (f : Field) → is_own f ≡ true → has f gs ≡ true → has f (select is_own gs) ≡ true
unfolding pick
own_has [] f o m = absurd (false≢true m)
own_has (g ∷ gs) f o m =
    ⊎_elim (λ e. rw (same_field_lem g f e, o, eq-eqb (ordinal f) (ordinal f) refl)) (λ e. own_more gs g f e (own_has gs f o (rw e at m)))
    (tested (same_field g f))

-- two headers of the type r with the same own numbers and zeros outside its layout have the same fields
module _ (h g : Header) (r : TypeRow) (rule : Sound r) (own : map (number_in h.fields) (own_fields r) ≡ map (number_in g.fields) (own_fields r))
    (zero_h : ZeroOutside r h) (zero_g : ZeroOutside r g) where
  field_same : (f : Field) → is_own f ≡ true → number_in h.fields f ≡ number_in g.fields f
  unfolding own_fields
  field_same f o = ⊎_elim none there (tested (eqb (place_of r f) 0))
    where
      none : eqb (place_of r f) 0 ≡ true → number_in h.fields f ≡ number_in g.fields f
      none e = let z = eqb-true (place_of r f) 0 e in zero_h f z ∙ sym (zero_g f z)

      there : eqb (place_of r f) 0 ≡ false → number_in h.fields f ≡ number_in g.fields f
      there e =
          let m = place_has (layout r) 4 f (λ z. eqb-false (place_of r f) 0 e (sym (rule.placed f) ∙ z)) in
          map_has (number_in h.fields) (number_in g.fields) (select is_own (layout r)) f own (own_has (layout r) f o m)

  pub same_fields : h.fields ≡ g.fields
  same_fields = λ i. record {
    msg_id = field_same msg_id refl i;
    recv_id = field_same recv_id refl i;
    send_id = field_same send_id refl i;
    msg_length = field_same msg_length refl i;
    seg_length = field_same seg_length refl i;
    recv_length = field_same recv_length refl i;
    seg_offset = field_same seg_offset refl i;
    credit_request = field_same credit_request refl i;
    tag = field_same tag refl i;
  }

-- two headers with the same values and zeros outside their type's layout are the same
pub same_header : (h g : Header) (raw raw' body body' : List ℕ) (r : TypeRow) → values h raw body ≡ values g raw' body' → row_of h.kind ≡ Some r
    → ZeroOutside r h → ZeroOutside r g → h ≡ g
unfolding own_numbers
same_header h g raw raw' body body' r same row zero_h zero_g =
    let k = kind_same h g raw raw' body body' same in
    let row' : row_of g.kind ≡ Some r = ap row_of (sym k) ∙ row in
    let own : map (number_in h.fields) (own_fields r) ≡ map (number_in g.fields) (own_fields r) =
    rw (row, row') at (own_same h g raw raw' body body' same) in
    λ i. record {
      kind = k i;
      fields = same_fields h g r (sound h.kind r row) own zero_h zero_g i;
      raw_address = (address_same h g raw raw' body body' same).0 i;
      cq_data = cq_same h g raw raw' body body' same i;
      connid = connid_same h g raw raw' body body' same i;
    }

-- ---- what is read

-- what is read of a type has zeros outside its layout
zero_read : (r : TypeRow) (bs : List ℕ) → Sound r → ZeroOutside r (packet_of r (le_at 2 bs 2) bs).header
unfolding packet_in header_in fields_in
zero_read r bs rule msg_id e = read_none r bs msg_id rule e
zero_read r bs rule recv_id e = read_none r bs recv_id rule e
zero_read r bs rule send_id e = read_none r bs send_id rule e
zero_read r bs rule msg_length e = read_none r bs msg_length rule e
zero_read r bs rule seg_length e = read_none r bs seg_length rule e
zero_read r bs rule recv_length e = read_none r bs recv_length rule e
zero_read r bs rule seg_offset e = read_none r bs seg_offset rule e
zero_read r bs rule credit_request e = read_none r bs credit_request rule e
zero_read r bs rule tag e = read_none r bs tag rule e
zero_read r bs rule multiuse e = refl
zero_read r bs rule padding e = refl
zero_read r bs rule count e = refl

-- a reader that admits a packet's type reads it as the reader of all types does
pub admitted_read : (which : TypeRow → Bool) (limit : ℕ) (bs : List ℕ) (r : TypeRow) → row_of (get_or bs 0 0) ≡ Some r → which r ≡ true
    → read_of which limit bs ≡ read_of every_row limit bs
unfolding read_of admit pick
admitted_read which limit bs r row e = rw (row, e)

-- a raw address that both have is the same
same_raw : (a b : Bool) (x y : List ℕ) → ◌≡◌ {A = Option (List ℕ)} (pick a (Some x) None) (pick b (Some y) None) → b ≡ true → x ≡ y
unfolding pick
same_raw true b x y e t = let e = rw t at e in cc
same_raw false b x y e t = let e = rw t at e in let z : ◌≡◌ {A = ℕ} 0 1 = cc in absurd (omega arith)

pub header_reads_back : HeaderReadsBack
unfolding values_in values
header_reads_back which r h raw body out limit n row admits x zero l e =
    let (q, w, k) = as_written h raw body out n (written_gives _ n e) in
    let same : q ≡ r = cc w.row in
    let w = rw same at w in
    let (size, b, rest) = length_is_packets h raw body out n r row e in
    let bytes = packet_bytes r h [] raw body in
    let a = written_reads h raw body out r w x limit (omega (arith, size)) in
    let p = packet_of r (le_at 2 bytes 2) bytes in
    let v : values_in p bytes ≡ values h raw body = written_values h raw body out r w x in
    let zero_p = zero_read r bytes (sound h.kind r row) in
    let header = same_header h p.header raw (bytes_at bytes p.raw_address) body (bytes_at bytes p.«data») r (sym v) row zero zero_p in
    rw b (
      p,
      admitted_read which limit bytes r a.row admits ∙ read_as limit bytes r a,
      sym header,
      same_raw p.header.raw_address h.raw_address _ raw (ap (λ (y : Values). y.raw_address) v),
      ap (λ (y : Values). y.body) v,
    )
