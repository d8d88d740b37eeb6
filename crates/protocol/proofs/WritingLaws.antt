-- Laws of writing: how long a packet's bytes are, and what the limit says of it.
use Prim.Native.Nat.{ℕ, ◌+◌, ◌^◌, ◌≤◌, ◌<◌}
use borrow.Author.Tests.{ltb-true, ltb-false, lt-ltb}
use lib.Dec.{ltb}
use lib.ListN.{length, length-append}
use mathlib.Core.Bool.{true, false}
use mathlib.Core.List.{List}
use mathlib.Core.Logic.{⊎_elim}
use mathlib.Core.Path.{◌≡◌, sym, ap}
use native.Mathlib.Omega.{arith}
use Rattle.std.specs.Prelude.{Some, None}
use Rattle.laws.specs.Choose.{pick}
use Rattle.protocol.specs.Arrays.{array_allowed}
use Rattle.protocol.specs.Optional.{flagged, flags_of, options_fit, raw_address, sections_of}
use Rattle.protocol.specs.Options.{connid_bytes, cq_data_bytes, raw_address_bytes}
use Rattle.protocol.specs.Rules.{Sound}
use Rattle.protocol.specs.SectionsInTurn.{head_length}
use Rattle.protocol.specs.Totals.{limited_to, sizes, total_of}
use Rattle.protocol.specs.Writing.{base_bytes, mandatory_bytes, packet_bytes}
use Rattle.protocol.specs.declared.table.TypeRow.{TypeRow}
use Rattle.protocol.specs.declared.types.Header.{Header}
use Rattle.laws.proofs.Choosing.{pick_cases, pick_false, pick_true}
use Rattle.protocol.proofs.ArrayLaws.{given_size}
use Rattle.protocol.proofs.FlagLaws.{raw_address_flag_lem}
use Rattle.protocol.proofs.LayoutLaws.{length_fields}
use Rattle.protocol.proofs.OptionLaws.{connid_length_lem, cq_data_length_lem, length_raw}
use Rattle.protocol.proofs.ReadingLaws.{options_short}
use Rattle.protocol.proofs.RowLaws.{header_bounds}
use Rattle.protocol.proofs.StepLaws.{packet_in_steps, sizes_in_steps}
use Rattle.wire.proofs.Laws.{length_le}
use Rattle.protocol.specs.Limits.{packet_limit}

pub head_small : (r : TypeRow) (f : ℕ) → Sound r → head_length r f ≤ 80
unfolding head_length
head_small r f s = omega (arith, header_bounds r s, options_short r f s)

-- the length of a whole packet

pub length_base : (kind flags : ℕ) → length (base_bytes kind flags) ≡ 4
unfolding base_bytes
length_base kind flags = rw length_le

pub length_mandatory : (r : TypeRow) (h : Header) (n : ℕ) → Sound r → length (mandatory_bytes r h n) ≡ r.header
unfolding mandatory_bytes
length_mandatory r h n s = rw (length-append, length_base, length_fields) (sym s.header)

module _ (r : TypeRow) (h : Header) (arr raw body : List ℕ) (s : Sound r) (t : options_fit r h ≡ true) (u : array_allowed r (length arr) ≡ true) where
  pub length_packet : length (packet_bytes r h arr raw body)
      ≡ r.header
      + length arr
      + length (raw_address_bytes h.raw_address raw)
      + length (cq_data_bytes h.cq_data)
      + length (connid_bytes r h.connid)
      + length body
  length_packet = rw (packet_in_steps r h arr raw body s t u) (simp length-append (omega (arith, length_mandatory r h (length arr) s)))

  -- the raw address of a packet that the limit allows has a size that fits
  pub raw_fits : length (packet_bytes r h arr raw body) ≤ packet_limit → h.raw_address ≡ true → length raw < 2 ^ 32
  raw_fits k e = omega (arith, length_packet, length_raw h.raw_address raw, pick_true {A = ℕ} (4 + length raw) 0 e)

  -- what the writer computes is the packet's length
  pub total_is : total_of r (flags_of r h) (length arr) (length raw) (length body) ≡ limited_to (length (packet_bytes r h arr raw body))
  unfolding total_of
  total_is =
      let sum : r.header + sizes r (flags_of r h) (length arr) (length raw) (sections_of r) + length body ≡ length (packet_bytes r h arr raw body) =
      rw (sizes_in_steps, given_size r (length arr) u, raw_address_flag_lem r h s t, cq_data_length_lem r h s t, connid_length_lem r h s, length_packet, length_raw) (omega arith) in
      ap limited_to sum

-- what the limit answers

pub above_limit_lem : (n : ℕ) → packet_limit < n → limited_to n ≡ None
unfolding limited_to pick
above_limit_lem n h = rw (lt-ltb packet_limit n h)

-- and it is a sum of the headers without the raw address, the array and the raw address, where they are there, and the data
module _ (r : TypeRow) (f arr raw size : ℕ) (u : array_allowed r arr ≡ true) where
  pub total_with : flagged r f raw_address ≡ true → total_of r f arr raw size ≡ limited_to (head_length r f + arr + 4 + raw + size)
  unfolding total_of head_length
  total_with e = ap limited_to (omega (arith, sizes_in_steps r f arr raw, given_size r arr u, pick_true {A = ℕ} (4 + raw) 0 e))

  -- which an array or data above the limit make longer than it
  pub total_above : packet_limit < arr + size → total_of r f arr raw size ≡ None
  unfolding total_of
  total_above l = above_limit_lem _ (omega (arith, sizes_in_steps r f arr raw, given_size r arr u))

  pub total_without : flagged r f raw_address ≡ false → total_of r f arr raw size ≡ limited_to (head_length r f + arr + size)
  unfolding total_of head_length
  total_without e = ap limited_to (omega (arith, sizes_in_steps r f arr raw, given_size r arr u, pick_false {A = ℕ} (4 + raw) 0 e))

pub limited_above : (n : ℕ) → limited_to n ≡ None → packet_limit < n
unfolding limited_to
limited_above n e =
    ⊎_elim (λ w. ltb-true packet_limit n w.0) (λ w. let z : ◌≡◌ {A = ℕ} 0 1 = cc in absurd (omega arith))
    (pick_cases (ltb packet_limit n) None (Some n) None e)

pub limited_bytes : (n m : ℕ) → limited_to n ≡ Some m → (n ≡ m) × (n ≤ packet_limit)
unfolding limited_to
limited_bytes n m e =
    ⊎_elim (λ w. let z : ◌≡◌ {A = ℕ} 0 1 = cc in absurd (omega arith)) (λ w. (cc, ltb-false packet_limit n w.0))
    (pick_cases (ltb packet_limit n) None (Some n) (Some m) e)
