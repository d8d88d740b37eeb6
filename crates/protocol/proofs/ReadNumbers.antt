-- Each number of a header that was read fits its field.
use Prim.Native.Nat.{ℕ, ◌+◌, ◌^◌, ◌<◌}
use lib.Dec.{lit<}
use lib.ListN.{get_or}
use mathlib.Core.Bool.{Bool}
use mathlib.Core.List.{List, [], ◌∷◌}
use mathlib.Core.Path.{◌≡◌}
use Rattle.std.specs.Prelude.{Option, Ok, unwrap_or}
use Rattle.protocol.specs.FieldNumbers.{field_in, fields_in, number_in}
use Rattle.protocol.specs.Layout.{Field, count, credit_request, layout, msg_id, msg_length, multiuse, padding, recv_id, recv_length, same_field, seg_length, seg_offset, send_id, tag, width}
use Rattle.protocol.specs.Options.{connid_in, connid_or_zero, cq_data_in}
use Rattle.protocol.specs.Reading.{header_in, packet_in, read_of}
use Rattle.protocol.specs.RoundTrip.{Numbers}
use Rattle.protocol.specs.declared.types.Packet.{Packet}
use Rattle.protocol.specs.Types.{every_row}
use Rattle.laws.proofs.Choosing.{pick_either}
use Rattle.protocol.proofs.Accepted.{as_read}
use Rattle.wire.proofs.Laws.{le_at_fits}

-- a field that is none of the type's is read as 0
none_small : (f : Field) → 0 < 256 ^ width f
none_small msg_id = lit< tt
none_small recv_id = lit< tt
none_small send_id = lit< tt
none_small msg_length = lit< tt
none_small seg_length = lit< tt
none_small recv_length = lit< tt
none_small seg_offset = lit< tt
none_small credit_request = lit< tt
none_small tag = lit< tt
none_small multiuse = lit< tt
none_small padding = lit< tt
none_small count = lit< tt

module _ (bs : List ℕ) (b : (i : ℕ) → get_or bs i 0 < 256) where
  number_small : (gs : List Field) (at : ℕ) (f : Field) → field_in gs at bs f < 256 ^ width f
  unfolding field_in
  number_small [] at f = none_small f
  number_small (g ∷ gs) at f =
      pick_either (λ (n : ℕ). n < 256 ^ width f) (same_field g f) (le_at_fits (width f) bs at b) (number_small gs (at + width g) f)

  field_small : (gs : List Field) (at : ℕ) (f : Field) → number_in (fields_in gs at bs) f < 256 ^ width f
  unfolding fields_in
  field_small gs at msg_id = number_small gs at msg_id
  field_small gs at recv_id = number_small gs at recv_id
  field_small gs at send_id = number_small gs at send_id
  field_small gs at msg_length = number_small gs at msg_length
  field_small gs at seg_length = number_small gs at seg_length
  field_small gs at recv_length = number_small gs at recv_length
  field_small gs at seg_offset = number_small gs at seg_offset
  field_small gs at credit_request = number_small gs at credit_request
  field_small gs at tag = number_small gs at tag
  field_small gs at multiuse = none_small multiuse
  field_small gs at padding = none_small padding
  field_small gs at count = none_small count

  cq_data_small : (there : Bool) (at : ℕ) → unwrap_or (cq_data_in there bs at) 0 < 256 ^ 8
  unfolding cq_data_in
  cq_data_small there at = pick_either (λ (q : Option ℕ). unwrap_or q 0 < 256 ^ 8) there (le_at_fits 8 bs at b) (lit< tt)

  connid_small : (there : Bool) (at : ℕ) → connid_or_zero (connid_in there bs at) < 256 ^ 4
  unfolding connid_in connid_or_zero
  connid_small there at = pick_either (λ (q : Option ℕ). connid_or_zero q < 256 ^ 4) there (le_at_fits 4 bs at b) (lit< tt)

  pub read_numbers : (limit : ℕ) (p : Packet) → read_of every_row limit bs ≡ Ok p → Numbers p.header
  unfolding packet_in header_in
  read_numbers limit p e =
      let (r, a, same) = as_read limit bs p e in
      rw same
      (record {
        fields = field_small (layout r) 4;
        cq_data = cq_data_small _ _;
        connid = connid_small _ _;
      })
