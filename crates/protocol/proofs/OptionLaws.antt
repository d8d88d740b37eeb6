-- Each optional header by itself: what was written is read, and what was read is written.
use Prim.Native.Nat.{ℕ, ◌+◌, ◌-◌, ◌^◌, ◌≤◌, ◌<◌}
use lib.ListN.{length, get_or, length-append}
use mathlib.Core.Bool.{Bool, true, false}
use mathlib.Core.List.{List, ◌++◌, append_assoc}
use mathlib.Core.Logic.{⊎_elim}
use mathlib.Core.Path.{◌≡◌, refl}
use native.Mathlib.Omega.{arith}
use Rattle.std.specs.Prelude.{Option, Some, None, is_some, unwrap_or}
use Rattle.laws.specs.Choose.{pick}
use Rattle.laws.specs.Parts.{part}
use Rattle.protocol.specs.Optional.{cq_data, flagged, flags_of, options_fit, raw_address}
use Rattle.protocol.specs.Options.{connid_bytes, connid_in, connid_or_zero, cq_data_bytes, cq_data_in, raw_address_bytes}
use Rattle.protocol.specs.Rules.{Sound}
use Rattle.protocol.specs.Sections.{raw_span}
use Rattle.protocol.specs.SectionsInTurn.{after_array, after_raw, connid_length, cq_data_length, raw_length}
use Rattle.protocol.specs.Values.{bytes_at}
use Rattle.protocol.specs.declared.table.TypeRow.{TypeRow}
use Rattle.protocol.specs.declared.types.Header.{Header}
use Rattle.wire.specs.LittleEndian.{le_at, le_bytes}
use Rattle.laws.proofs.Choosing.{tested}
use Rattle.laws.proofs.Storing.{length_part, part_add, part_middle}
use Rattle.protocol.proofs.FlagLaws.{connid_flag_lem, cq_data_flag_lem}
use Rattle.wire.proofs.Laws.{bytes_again, le_behind, le_behind_wide, length_le}

-- how long they are

pub length_raw : (there : Bool) (raw : List ℕ) → length (raw_address_bytes there raw) ≡ pick there (4 + length raw) 0
unfolding raw_address_bytes pick
length_raw true raw = rw (length-append, length_le)
length_raw false raw = refl

length_cq_data : (q : Option ℕ) → length (cq_data_bytes q) ≡ pick (is_some q) 8 0
unfolding cq_data_bytes pick
length_cq_data None = refl
length_cq_data (Some d) = rw length_le

length_connid : (r : TypeRow) (q : Option ℕ) → length (connid_bytes r q) ≡ pick (is_some q) r.connid 0
unfolding connid_bytes pick
length_connid r None = refl
length_connid r (Some c) = rw length_le

module _ (r : TypeRow) (h : Header) (s : Sound r) where
  pub cq_data_length_lem : options_fit r h ≡ true → cq_data_length r (flags_of r h) ≡ length (cq_data_bytes h.cq_data)
  unfolding cq_data_length
  cq_data_length_lem t = rw (length_cq_data, cq_data_flag_lem r h s t)

  pub connid_length_lem : connid_length r (flags_of r h) ≡ length (connid_bytes r h.connid)
  unfolding connid_length
  connid_length_lem = rw (length_connid, connid_flag_lem r h s)

-- a raw address that was written behind the bytes m
module _ (r : TypeRow) (f : ℕ) (raw m c : List ℕ) (at : ℕ) (p : length m ≡ at) where
  raw_size : length (raw_address_bytes true raw) < 256 ^ 4 → le_at 4 (m ++ (raw_address_bytes true raw ++ c)) at ≡ length raw
  unfolding raw_address_bytes pick
  raw_size x = rw append_assoc (le_behind 4 (length raw) m (raw ++ c) at (omega (arith, length_raw true raw)) p)

  raw_part : part (m ++ (raw_address_bytes true raw ++ c)) (at + 4) (length raw) ≡ raw
  unfolding raw_address_bytes pick
  raw_part =
      let q : length (m ++ le_bytes 4 (length raw)) ≡ at + 4 = rw (length-append, length_le, p) in
      rw (append_assoc, ← append_assoc m (le_bytes 4 (length raw)) (raw ++ c)) (part_middle (m ++ le_bytes 4 (length raw)) raw c _ _ q refl)

  pub after_raw_lem : (there : Bool) → flagged r f raw_address ≡ there → length (raw_address_bytes there raw) < 256 ^ 4
      → after_array r (m ++ (raw_address_bytes there raw ++ c)) ≡ at
      → after_raw r f (m ++ (raw_address_bytes there raw ++ c)) ≡ at + length (raw_address_bytes there raw)
  unfolding after_raw pick
  after_raw_lem true e x q = rw (e, q, raw_size x, length_raw true raw)
  after_raw_lem false e x q = rw (e, q, length_raw false raw)

  pub raw_read : (there : Bool) → flagged r f raw_address ≡ there → length (raw_address_bytes there raw) < 256 ^ 4
      → pick (flagged r f raw_address) (Some (bytes_at (m ++ (raw_address_bytes there raw ++ c)) (raw_span (flagged r f raw_address) (m ++ (raw_address_bytes there raw ++ c)) at))) None
      ≡ pick there (Some raw) None
  unfolding raw_span pick
  raw_read true e x = rw (e, raw_size x, raw_part)
  raw_read false e x = rw e

-- CQ data that were written
pub cq_data_read : (there : Bool) (q : Option ℕ) (a c : List ℕ) (at : ℕ)
    → there ≡ is_some q
    → unwrap_or q 0 < 256 ^ 8
    → length a ≡ at
    → cq_data_in there (a ++ (cq_data_bytes q ++ c)) at ≡ q
unfolding cq_data_in cq_data_bytes pick
cq_data_read there None a c at e x p = rw e
cq_data_read there (Some d) a c at e x p = rw (e, le_behind 8 d a c at x p)

-- a connid that was written behind the other optional headers
pub connid_behind : (r : TypeRow) (there : Bool) (q : Option ℕ) (a c : List ℕ) (at : ℕ)
    → 4 ≤ r.connid
    → there ≡ is_some q
    → connid_or_zero q < 256 ^ 4
    → length a ≡ at
    → connid_in there (a ++ (connid_bytes r q ++ c)) at ≡ q
unfolding connid_in connid_bytes connid_or_zero pick
connid_behind r there None a c at w e x p = rw e
connid_behind r there (Some d) a c at w e x p =
    let n : r.connid ≡ 4 + (r.connid - 4) = omega arith in
    rw (e, n, le_behind_wide 4 (r.connid - 4) d a c at x p)

-- a connid in multiuse
pub connid_there : (there : Bool) (q : Option ℕ) (bs : List ℕ) (at : ℕ) → there ≡ is_some q → le_at 4 bs at ≡ connid_or_zero q → connid_in there bs at ≡ q
unfolding connid_in connid_or_zero pick
connid_there there None bs at e x = rw e
connid_there there (Some d) bs at e x = rw (e, x)

-- an optional header that was read is there where it was said to be
pub has_cq_data_lem : (there : Bool) (bs : List ℕ) (at : ℕ) → is_some (cq_data_in there bs at) ≡ there
unfolding cq_data_in pick
has_cq_data_lem true bs at = refl
has_cq_data_lem false bs at = refl

pub has_connid_lem : (there : Bool) (bs : List ℕ) (at : ℕ) → is_some (connid_in there bs at) ≡ there
unfolding connid_in pick
has_connid_lem true bs at = refl
has_connid_lem false bs at = refl

-- the bytes of an optional header that was read
module _ (bs : List ℕ) (b : (i : ℕ) → get_or bs i 0 < 256) where
  pub raw_again : (r : TypeRow) (f : ℕ) → after_array r bs + raw_length r f bs ≤ length bs
      → raw_address_bytes (flagged r f raw_address) (bytes_at bs (raw_span (flagged r f raw_address) bs (after_array r bs))) ≡ part bs (after_array r bs) (raw_length r f bs)
  unfolding raw_address_bytes raw_span pick part
  raw_again r f h =
      ⊎_elim (λ e.
      let k : after_array r bs + (4 + le_at 4 bs (after_array r bs)) ≤ length bs = rw e at h in
      let m = length_part bs (after_array r bs + 4) (le_at 4 bs (after_array r bs)) (omega arith) in
      rw (e, part_add, m, bytes_again 4 bs (after_array r bs) b (omega arith)))
      (λ e. rw e)
      (tested (flagged r f raw_address))

  pub cq_data_again : (r : TypeRow) (f at : ℕ) → at + cq_data_length r f ≤ length bs
      → cq_data_bytes (cq_data_in (flagged r f cq_data) bs at) ≡ part bs at (cq_data_length r f)
  unfolding cq_data_bytes cq_data_in cq_data_length pick part
  cq_data_again r f at h = ⊎_elim (λ e. rw e (bytes_again 8 bs at b (rw e at h))) (λ e. rw e) (tested (flagged r f cq_data))
