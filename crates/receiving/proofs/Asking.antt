-- What the parts of a packet call ask is there: from the peer's own check, from what a packet that was read keeps to, and from the verdict.
use Rattle.std.specs.Prelude.{Ok}
use Rattle.std.proofs.Common.{◌≡◌, ℕ, ◌+◌, ◌-◌, ◌*◌, ◌<◌, ◌≤◌, min, max, true, leb, List, [], length, sym, ap, subst, mul-le-mul, arith, leb-true}
use borrow.Author.Tests.{eqb-false}
use Rattle.bitmap.specs.Map.{first_clear}
use Rattle.protocol.specs.Reading.{packet_in, read_of}
use Rattle.protocol.specs.declared.table.TypeRow.{TypeRow}
use Rattle.protocol.specs.declared.types.Packet.{Packet}
use Rattle.protocol.specs.Types.{served_row}
use Rattle.receiving.specs.Preconditions.{MayBegin, MayCarry, MayGrant, MayJudge, MayStore, Placed}
use Rattle.peer.specs.Effects.{grant_of, progress_of, quiet, with_phase}
use Rattle.peer.specs.Incomings.{is_rtm}
use Rattle.peer.specs.Judging.{judge}
use Rattle.receiving.specs.Leaves.{PacketLeaves, Replied, SegmentLeaves, packet_leaves}
use Rattle.peer.specs.Matching.{find_open, same_message}
use Rattle.peer.specs.State.{slot_count}
use Rattle.peer.specs.declared.types.Answer.{Answer}
use Rattle.std.specs.Prelude.{Some}
use Rattle.peer.specs.declared.types.Inbound.{Inbound}
use Rattle.peer.specs.declared.types.Incoming.{Incoming}
use Rattle.peer.specs.declared.types.Message.{Message}
use Rattle.peer.specs.declared.types.Peer.{Peer}
use Rattle.peer.specs.declared.types.Progress.{Progress}
use Rattle.peer.specs.declared.types.Receive.{Receive}
use Rattle.peer.specs.declared.types.Verdict.{Verdict}
use Rattle.wire.specs.LittleEndian.{le_at}
use Rattle.bitmap.proofs.BitLaws.{first_clear_le}
use Rattle.laws.proofs.Choosing.{pick_first, pick_second}
use Rattle.laws.proofs.Storing.{store_nothing}
use Rattle.protocol.proofs.Accepted.{ReadAs, as_read, packet_of}
use Rattle.protocol.proofs.Served.{any_read}
use Rattle.peer.proofs.PeerSteps.Kept.{begun_beside, continued_beside}
use Rattle.peer.proofs.Slots.Valid.{Valid, Within, fits_valid}
use Rattle.peer.proofs.PeerSteps.Verdicts.{Judged, again_inside, chosen_at, continued_at, found_within, judged}

-- ---- a grant

pub grant_one : (limit : ℕ) (m : Message) → MayGrant limit m → 1 ≤ grant_of limit m
unfolding grant_of
grant_one limit m g =
    let most : 1 ≤ min (max m.credit_request 1) 16 = omega arith in
    let some : 1 ≤ limit - 32 = omega (arith, g.limited.low) in
    omega (arith, g.remains, mul-le-mul most some)

-- more is due only where length remains
pub due_remains : (ws : List ℕ) (o : Inbound) → progress_of ws o ≡ Progress.Due → o.message.granted < o.message.length
unfolding progress_of
due_remains ws o e =
    let (unfinished, e) = pick_second _ _ _ _ (λ x. let z : ◌≡◌ {A = ℕ} 0 1 = cc in omega arith) e in
    let (long, e) = pick_first _ _ _ _ (λ x. let z : ◌≡◌ {A = ℕ} 0 1 = cc in omega arith) e in
    let (all, e) = pick_first _ _ _ _ (λ x. let z : ◌≡◌ {A = ℕ} 0 1 = cc in omega arith) e in
    let first = first_clear ws o.receive.start o.message.length in
    omega (arith, leb-true o.message.granted first all, eqb-false first o.message.length unfinished, first_clear_le ws o.receive.start o.message.length)

-- ---- the judgement

module _ (words : ℕ) (p : Peer) (h : Incoming) (j : MayJudge words p h) (i : ℕ) (o : Inbound) (e : find_open h.id 0 p.slots ≡ Some (i, o)) where
  valid : Valid (64 * words) p.slots
  valid = fits_valid (64 * words) p j.mapped.fits

  inside : Within (64 * words) o
  inside = found_within (64 * words) p h.id i o valid e

  pub again_placed : is_rtm h.shape ≡ true → same_message o.message h ≡ true → Placed words o h
  again_placed rtm same =
      let x = (again_inside p [] h h.size j.form o rtm same).0 in
      record { in_map = omega (arith, inside.in_area, inside.in_range); small = j.mapped.small }

  pub data_placed : leb (h.offset + h.size) o.message.granted ≡ true → Placed words o h
  data_placed g =
      record { in_map = omega (arith, inside.in_area, inside.in_range, inside.in_length, leb-true (h.offset + h.size) o.message.granted g); small = j.mapped.small }

-- ---- a verdict is carried out

module _ (limit : ℕ) (p : Peer) (h : Incoming) (n area words reply : ℕ) (c : MayCarry limit p h n area words reply) (eight : length p.slots ≡ slot_count) (ws : List ℕ) where
  sound : Valid area p.slots
  sound = fits_valid area p c.mapped.fits

  verdict : (d : Verdict) → judge p ws h ≡ d → Judged p ws h d
  verdict d e = subst (Judged p ws h) e (judged p ws h n c.form)

  -- a verdict names a slot that is there
  pub cut_slot : (i : ℕ) → judge p ws h ≡ Verdict.Truncate i → i < slot_count
  cut_slot i e =
      let v = verdict (Verdict.Truncate i) e in
      omega (arith, eight, (chosen_at p h i v.receive v.matched).0)

  pub begun_slot : (i : ℕ) (r : Receive) → judge p ws h ≡ Verdict.Begin i r → i < slot_count
  begun_slot i r e = omega (arith, eight, (chosen_at p h i r (verdict (Verdict.Begin i r) e).matched).0)

  pub more_slot : (i : ℕ) (o : Inbound) → judge p ws h ≡ Verdict.More i o → i < slot_count
  more_slot i o e = omega (arith, eight, (continued_at p ws h i o (verdict (Verdict.More i o) e)).0)

  -- and what its parts ask is there
  pub begins : (i : ℕ) (r : Receive) → judge p ws h ≡ Verdict.Begin i r → MayBegin limit r h n area words reply
  begins i r e =
      let v = verdict (Verdict.Begin i r) e in
      let s = begun_beside area p h n i r sound c.form v in
      record {
        limited = c.limited;
        in_area = s.within.in_area;
        in_range = s.within.in_range;
        in_length = c.form.inside v.matched.rtm;
        size = c.form.size;
        whole = c.mapped.whole;
        small = c.mapped.small;
        room = c.room;
      }

  pub goes_on : (i : ℕ) (o : Inbound) → judge p ws h ≡ Verdict.More i o → MayStore limit o h.offset n area words reply
  goes_on i o e =
      let v = verdict (Verdict.More i o) e in
      let s = continued_beside area p ws h i o sound v in
      record {
        accepting = record {
          limited = c.limited;
          in_area = s.within.in_area;
          in_range = s.within.in_range;
          in_length = s.within.in_length;
          whole = c.mapped.whole;
          small = c.mapped.small;
          room = c.room;
        };
        in_message = omega (arith, v.in_length s.within.in_length, c.form.size);
      }

-- ---- a packet that was read

-- its data lie in its bytes
pub data_inside : (limit : ℕ) (bs : List ℕ) (q : Packet) → read_of served_row limit bs ≡ Ok q → q.«data».at + q.«data».size ≤ length bs
data_inside limit bs q e = go (as_read limit bs q (any_read served_row limit bs q e))
  where
    go : (r : TypeRow) × ReadAs limit bs r × (q ≡ packet_of r (le_at 2 bs 2) bs) → q.«data».at + q.«data».size ≤ length bs
    go w =
        subst (λ (x : Packet). x.«data».at + x.«data».size ≤ length bs) (sym w.2)
        (unfold packet_in in omega (arith, w.1.inside))

-- ---- the steps of the calls

abbrev in_peer : Peer → ℕ → SegmentLeaves → PacketLeaves
in_peer p i s = record { step = record { peer = with_phase p i s.step.phase; answer = s.step.answer }; area = s.area; words = s.words; reply = s.reply }

-- the step and the reply of a part, within the whole
pub within : (area words : List ℕ) (s t : Replied) → s ≡ t
    → ◌≡◌ {A = SegmentLeaves} (record { step = s.step; area = area; words = words; reply = s.reply }) (record { step = t.step; area = area; words = words; reply = t.reply })
within area words s t e = ap (λ (x : Replied). record { step = x.step; area = area; words = words; reply = x.reply }) e

-- what a segment leaves, put into slot i of its peer
pub in_peer_lem : (p : Peer) (i : ℕ) (s t : SegmentLeaves) → s ≡ t → in_peer p i s ≡ in_peer p i t
in_peer_lem p i s t e = ap (in_peer p i) e

-- a quiet step leaves what is lent
pub left_quiet : (area ws reply : List ℕ) (p : Peer) (a : Answer)
    → ◌≡◌ {A = PacketLeaves} (record { step = record { peer = p; answer = a }; area = area; words = ws; reply = reply }) (packet_leaves area reply (quiet p ws a))
left_quiet area ws reply p a = rw (store_nothing area 0, store_nothing reply 0)
