-- A grant's CTS is read as what it was written from: the statement of specs/CtsSentences.antt.
use Prim.Native.Nat.{ℕ, ◌^◌, ◌≤◌, ◌<◌}
use borrow.Author.Tests.{le-leb}
use lib.ListN.{take, replicate}
use mathlib.Core.List.{List, []}
use mathlib.Core.Path.{◌≡◌, refl, ap, subst}
use native.Mathlib.Omega.{arith}
use Rattle.std.specs.Prelude.{Ok}
use Rattle.protocol.specs.Arrays.{array_allowed, array_count, array_whole}
use Rattle.protocol.specs.Checks.{gives}
use Rattle.protocol.specs.Cts.{cts_bytes, cts_header}
use Rattle.protocol.specs.CtsSentences.{CtsReadBack, ReadsAsCts}
use Rattle.protocol.specs.FieldNumbers.{field_bytes, number_in}
use Rattle.protocol.specs.Layout.{Field, count, credit_request, layout, msg_id, msg_length, multiuse, own_fields, padding, recv_id, recv_length, seg_length, seg_offset, send_id, tag, width}
use Rattle.protocol.specs.Lengths.{lengths_fit}
use Rattle.protocol.specs.Optional.{flags_of, options_fit, sections_of}
use Rattle.protocol.specs.Options.{connid_or_zero}
use Rattle.protocol.specs.Reading.{read_of}
use Rattle.protocol.specs.RoundTrip.{Numbers}
use Rattle.protocol.specs.Says.{read_says, written_says}
use Rattle.protocol.specs.Types.{every_row, row_in, row_of}
use Rattle.protocol.specs.Values.{own_numbers, values}
use Rattle.protocol.specs.Writing.{WriteLeaves, base_bytes, mandatory_bytes, packet_bytes, write_as, write_bytes, write_of, write_typed}
use Rattle.laws.specs.Choose.{pick}
use Rattle.laws.specs.Parts.{part, store_at}
use Rattle.wire.specs.LittleEndian.{le_at, le_bytes, le_of}
use Rattle.protocol.proofs.RoundTrips.{reads_what_was_written}
use Rattle.protocol.specs.Limits.{packet_limit}

module _ (sender receiver amount : ℕ) (s : sender < 2 ^ 32) (r : receiver < 2 ^ 32) (some : 1 ≤ amount) (n : amount < 2 ^ 64) where
  bytes : List ℕ
  bytes = cts_bytes sender receiver amount

  numbers : Numbers (cts_header sender receiver amount)
  numbers =
      record {
        fields = λ f. go f;
        cq_data = omega arith;
        connid = unfold connid_or_zero in omega arith;
      }
    where
      go : (f : Field) → number_in (cts_header sender receiver amount).fields f < 256 ^ width f
      go msg_id = omega arith
      go recv_id = omega arith
      go send_id = omega arith
      go msg_length = omega arith
      go seg_length = omega arith
      go recv_length = omega arith
      go seg_offset = omega arith
      go credit_request = omega arith
      go tag = omega arith
      go multiuse = omega arith
      go padding = omega arith
      go count = omega arith

  -- as the writer writes it into 24 bytes
  written : write_of (cts_header sender receiver amount) [] [] (replicate 24 0) ≡ record { answer = Ok 24; out = bytes }
  unfolding bytes cts_bytes write_of write_typed write_as write_bytes row_of row_in options_fit array_allowed array_whole array_count flags_of lengths_fit pick store_at packet_bytes mandatory_bytes base_bytes field_bytes layout sections_of connid_or_zero le_bytes
  written = rw (le-leb 1 amount some)

  read_back : read_says bytes (read_of every_row packet_limit bytes) ≡ gives (values (cts_header sender receiver amount) [] [])
  unfolding bytes cts_bytes packet_bytes mandatory_bytes base_bytes le_bytes field_bytes layout pick sections_of
  read_back =
      subst (λ (o : WriteLeaves). read_says (take 24 o.out) (read_of every_row packet_limit (take 24 o.out)) ≡ gives (values (cts_header sender receiver amount) [] [])) written
      (reads_what_was_written (cts_header sender receiver amount) [] [] (replicate 24 0) packet_limit 24 numbers (omega arith) (ap (λ (o : WriteLeaves). written_says o.answer) written))

  cts_read : ReadsAsCts bytes sender receiver amount
  unfolding bytes cts_bytes packet_bytes mandatory_bytes base_bytes le_bytes field_bytes layout pick sections_of values own_numbers own_fields row_of row_in le_at le_of part flags_of connid_or_zero
  cts_read = record { size = refl; says = read_back; flags = refl; multiuse = refl }

pub cts_read_back : CtsReadBack
unfolding CtsReadBack bytes
cts_read_back = cts_read
