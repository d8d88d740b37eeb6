-- A packet that was read is formed: an RTM's segment lies in its message, and a long message begins at its start and is never empty.
use Rattle.std.specs.Prelude.{Some, Ok}
use Rattle.std.proofs.Common.{◌≡◌, ℕ, ◌+◌, ◌-◌, ◌≤◌, Bool, true, false, not, ◌&&◌, ◌||◌, eqb, leb, List, length, get_or, sym, refl, ap, ◌∙◌, subst, ⊎_elim, arith, eqb-true, leb-true}
use borrow.Author.Tests.{not-true}
use Rattle.laws.specs.Choose.{pick}
use Rattle.protocol.specs.FieldNumbers.{fields_in}
use Rattle.protocol.specs.Layout.{layout, place_of, seg_offset}
use Rattle.protocol.specs.Lengths.{lengths_fit}
use Rattle.protocol.specs.Reading.{header_in, packet_in, read_of}
use Rattle.protocol.specs.Types.{row_of, served_row}
use Rattle.protocol.specs.Values.{bytes_at}
use Rattle.protocol.specs.declared.table.Shape.{Shape}
use Rattle.protocol.specs.declared.table.Shape.TheVariants.{Cts, CtsData, Eager, LongCts, Medium}
use Rattle.protocol.specs.declared.table.TypeRow.{TypeRow}
use Rattle.protocol.specs.declared.types.Fields.{Fields}
use Rattle.protocol.specs.declared.types.Packet.{Packet}
use Rattle.peer.specs.Formed.{Formed}
use Rattle.peer.specs.Incomings.{incoming_of, is_eager, is_long, is_rtm}
use Rattle.wire.specs.LittleEndian.{le_at}
use Rattle.laws.proofs.Choosing.{and_left, and_right, clashing, or_cases, pick_false, pick_true}
use Rattle.laws.proofs.Storing.{length_part}
use Rattle.protocol.proofs.Accepted.{ReadAs, as_read, data_from, packet_of}
use Rattle.protocol.proofs.RowLaws.{number_none}
use Rattle.protocol.proofs.Served.{any_read}
use Rattle.protocol.proofs.TableRule.{row_passes, sound}

-- the shapes that have no offset, since their data begin the message
abbrev from_start : Shape → Bool
from_start Cts = false
from_start CtsData = false
from_start Eager = true
from_start Medium = false
from_start LongCts = true

no_offset : (k : ℕ) (r : TypeRow) → row_of k ≡ Some r → from_start r.shape ≡ true → place_of r seg_offset ≡ 0
no_offset k r e t =
    ⊎_elim (λ y. clashing (from_start r.shape) t (not-true _ y)) (eqb-true (place_of r seg_offset) 0)
    (or_cases (not (from_start r.shape)) (eqb (place_of r seg_offset) 0)
    (row_passes (λ q. not (from_start q.shape) || eqb (place_of q seg_offset) 0) refl k r e))

-- ---- the packet

module _ (limit : ℕ) (bs : List ℕ) (r : TypeRow) (a : ReadAs limit bs r) where
  abbrev q : Packet
  q = packet_of r (le_at 2 bs 2) bs

  -- by its shape
  shaped : (s : Shape) → r.shape ≡ s → Formed (incoming_of q) (length (bytes_at bs q.«data»))
  unfolding incoming_of packet_in header_in
  shaped s e =
      record {
        size = sym (length_part bs at n (omega (arith, a.inside)));
        inside = λ rtm. within s e rtm;
        start = λ long. from s e long;
        some = λ long. never_empty s e long;
      }
    where
      at : ℕ
      at = data_from r (le_at 2 bs 2) bs

      n : ℕ
      n = length bs - at

      v : Fields
      v = fields_in (layout r) 4 bs

      rule : (s : Shape) → r.shape ≡ s → lengths_fit s v n ≡ true
      rule s e = ap (λ (x : Shape). lengths_fit x v n) (sym e) ∙ a.lengths

      offset : from_start r.shape ≡ true → v.seg_offset ≡ 0
      offset t = unfold fields_in in number_none r bs seg_offset (sound (get_or bs 0 0) r a.row) (no_offset (get_or bs 0 0) r a.row t)

      -- the shape is none of which the test is true
      never : {C : Type 0} (f : Shape → Bool) (s : Shape) → r.shape ≡ s → f s ≡ false → f r.shape ≡ true → C
      never f s e x t = clashing (f r.shape) t (ap f e ∙ x)

      len : (s : Shape) → r.shape ≡ s → is_eager s ≡ false → pick (is_eager r.shape) n v.msg_length ≡ v.msg_length
      len s e x = pick_false n v.msg_length (ap is_eager e ∙ x)

      within : (s : Shape) → r.shape ≡ s → is_rtm r.shape ≡ true → v.seg_offset + n ≤ pick (is_eager r.shape) n v.msg_length
      within Cts e rtm = never is_rtm Cts e refl rtm
      within CtsData e rtm = never is_rtm CtsData e refl rtm
      within Eager e rtm = rw (pick_true n v.msg_length (ap is_eager e), offset (ap from_start e)) (omega arith)
      within Medium e rtm =
          let fit : (leb 1 n && leb (v.seg_offset + n) v.msg_length) ≡ true = unfold lengths_fit in rule Medium e in
          rw (len Medium e refl) (leb-true _ _ (and_right (leb 1 n) _ fit))
      within LongCts e rtm =
          let fit : (leb 1 v.msg_length && leb n v.msg_length) ≡ true = unfold lengths_fit in rule LongCts e in
          rw (len LongCts e refl, offset (ap from_start e)) (omega (arith, leb-true n v.msg_length (and_right (leb 1 v.msg_length) _ fit)))

      never_empty : (s : Shape) → r.shape ≡ s → is_long r.shape ≡ true → 1 ≤ pick (is_eager r.shape) n v.msg_length
      never_empty Cts e long = never is_long Cts e refl long
      never_empty CtsData e long = never is_long CtsData e refl long
      never_empty Eager e long = never is_long Eager e refl long
      never_empty Medium e long = never is_long Medium e refl long
      never_empty LongCts e long =
          let fit : (leb 1 v.msg_length && leb n v.msg_length) ≡ true = unfold lengths_fit in rule LongCts e in
          rw (len LongCts e refl) (leb-true 1 v.msg_length (and_left _ (leb n v.msg_length) fit))

      from : (s : Shape) → r.shape ≡ s → is_long r.shape ≡ true → v.seg_offset ≡ 0
      from Cts e long = never is_long Cts e refl long
      from CtsData e long = never is_long CtsData e refl long
      from Eager e long = never is_long Eager e refl long
      from Medium e long = never is_long Medium e refl long
      from LongCts e long = offset (ap from_start e)

pub read_formed : (limit : ℕ) (bs : List ℕ) (q : Packet) → read_of served_row limit bs ≡ Ok q → Formed (incoming_of q) (length (bytes_at bs q.«data»))
read_formed limit bs q e = go (as_read limit bs q (any_read served_row limit bs q e))
  where
    go : (r : TypeRow) × ReadAs limit bs r × (q ≡ packet_of r (le_at 2 bs 2) bs) → Formed (incoming_of q) (length (bytes_at bs q.«data»))
    go w = subst (λ (x : Packet). Formed (incoming_of x) (length (bytes_at bs x.«data»))) (sym w.2) (shaped limit bs w.0 w.1 w.0.shape refl)
