-- The CTS of a grant, as the packet writer writes it: it is never refused.
use Rattle.std.specs.Prelude.{Result, Ok}
use Rattle.std.proofs.Common.{◌≡◌, ℕ, ◌≤◌, List, [], length, refl, ap, ◌∙◌, arith, le-leb}
use Rattle.laws.specs.Choose.{pick}
use Rattle.laws.specs.Parts.{store_at}
use Rattle.protocol.specs.Cts.{cts_bytes, cts_header}
use Rattle.protocol.specs.FieldNumbers.{field_bytes}
use Rattle.protocol.specs.Layout.{layout}
use Rattle.protocol.specs.Lengths.{lengths_fit}
use Rattle.protocol.specs.Optional.{options_fit, sections_of}
use Rattle.protocol.specs.Types.{cts_row, row_in, row_of}
use Rattle.protocol.specs.Writing.{WriteLeaves, base_bytes, mandatory_bytes, packet_bytes, write_of}
use Rattle.wire.specs.LittleEndian.{le_bytes}
use Rattle.protocol.proofs.Accepted.{WrittenAs, write_as}
use Rattle.protocol.specs.declared.refusals.Refusal.{Refusal}

cts_length : (send recv n : ℕ) → length (cts_bytes send recv n) ≡ 24
unfolding cts_bytes packet_bytes mandatory_bytes base_bytes field_bytes layout sections_of le_bytes pick
cts_length send recv n = refl

written_as : (send recv n : ℕ) (out : List ℕ) → 24 ≤ length out → 1 ≤ n → WrittenAs (cts_header send recv n) [] [] out cts_row
unfolding cts_bytes
written_as send recv n out room one =
    record {
      row = unfold row_of row_in pick in refl;
      options = unfold options_fit in refl;
      lengths = unfold lengths_fit in le-leb 1 n one;
      allowed = omega (arith, cts_length send recv n);
      room = omega (arith, cts_length send recv n);
    }

pub cts_written : (send recv n : ℕ) (out : List ℕ) → 24 ≤ length out → 1 ≤ n
    → write_of (cts_header send recv n) [] [] out ≡ record { answer = Ok 24; out = store_at out 0 (cts_bytes send recv n) }
unfolding cts_bytes
cts_written send recv n out room one =
    write_as (cts_header send recv n) [] [] out cts_row (written_as send recv n out room one)
    ∙ ap (λ (k : ℕ). record { answer = Ok k; out = store_at out 0 (cts_bytes send recv n) }) (cts_length send recv n)

-- what the writer leaves in the buffer
pub cts_left : (send recv n : ℕ) (out : List ℕ) (a : Result ℕ Refusal) (l : List ℕ) → 24 ≤ length out → 1 ≤ n
    → record { answer = a; out = l } ≡ write_of (cts_header send recv n) [] [] out → l ≡ store_at out 0 (cts_bytes send recv n)
cts_left send recv n out a l room one e = ap (λ (x : WriteLeaves). x.out) (e ∙ cts_written send recv n out room one)
