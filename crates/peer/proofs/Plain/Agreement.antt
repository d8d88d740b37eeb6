-- The peer, its map and its area (the byte at x is `mem x`) say what the plain receiver says: the relation between them, and one walk through
-- the tests of both: each call's answer is the expected one, and the segment of a packet goes to one and the same message.
use Rattle.std.specs.Prelude.{Result, Ok, Err}
use Rattle.std.proofs.Common.{◌≡◌, ℕ, ◌+◌, ◌*◌, ◌<◌, ◌≤◌, Bool, true, false, ◌&&◌, eqb, ltb, leb, List, [], ◌∷◌, length, sym, refl, ap, ◌∙◌, subst, ap₂, arith, ltb-false, le-ltb, lt-ltb, leb-false, leb-true}
use Rattle.std.specs.Prelude.{Option, Some, None}
use borrow.Author.Tests.{eqb-false}
use Rattle.bitmap.specs.Map.{cleared, count_set, first_clear, marked}
use Rattle.bitmap.specs.Offsets.{first_not}
use Rattle.laws.specs.Choose.{pick}
use Rattle.protocol.specs.Reading.{read_of}
use Rattle.protocol.specs.Refusals.{bad_length, bad_slot, beyond_grant, differs, early, late, no_receive, no_slot, overlaps, repeated, short_reply}
use Rattle.protocol.specs.declared.types.Packet.{Packet}
use Rattle.protocol.specs.declared.refusals.Refusal.{Refusal}
use Rattle.protocol.specs.Types.{served_row}
use Rattle.peer.specs.Calls.{Call, cancel, cancel_effect, cancel_slot, missing_in, packet, packet_effect, peer_step, placed, placed_in, post, post_effect, read_effect, report, report_effect, report_slot}
use Rattle.peer.specs.Claims.{takes}
use Rattle.peer.specs.Coverage.{Segment, all_of, covers}
use Rattle.peer.specs.Effects.{Effect, accept, advance, begun, carry, grant_of, in_slot, opened, progress_of, quiet, refuse, settled_as, truncated_at, with_phase}
use Rattle.peer.specs.Expected.{Ruling, accepting, any_overlap, expect_again, expect_cancel, expect_data, expect_fit, expect_found, expect_more, expect_new, expect_packet, expect_place, expect_post, expect_read, expect_report, expect_taken, expected, lowest_idle, refusing, target_of_call}
use Rattle.peer.specs.Formed.{Formed}
use Rattle.peer.specs.Incomings.{incoming_of, is_long, is_rtm}
use Rattle.peer.specs.Judging.{judge, judge_again, judge_data, judge_fit, judge_found, judge_more, judge_new}
use Rattle.peer.specs.Matching.{ahead, find_open, vacancy}
use Rattle.peer.specs.Plain.{Plain, Role, Target, begun_at, more_at, nowhere, open_in, roles, segment_of, slot_entry}
use Rattle.peer.specs.State.{phase_at, phase_fits, slot_count}
use Rattle.peer.specs.View.{role_of, roles_of}
use Rattle.peer.specs.declared.types.Answer.{Answer}
use Rattle.peer.specs.declared.types.Inbound.{Inbound}
use Rattle.peer.specs.declared.types.Incoming.{Incoming}
use Rattle.peer.specs.declared.types.Peer.{Peer}
use Rattle.peer.specs.declared.types.Phase.{Phase}
use Rattle.peer.specs.declared.types.Progress.{Progress}
use Rattle.peer.specs.declared.types.Receive.{Receive}
use Rattle.peer.specs.declared.types.Verdict.{Verdict}
use Rattle.bitmap.proofs.BitLaws.{first_clear_le, length_cleared}
use Rattle.bitmap.proofs.CoverLaws.{count_cover, first_cover, touched_cover}
use Rattle.laws.proofs.Choosing.{and_intro, branch, in_step, pick_false, pick_true}
use Rattle.peer.proofs.PeerSteps.AnswerLaws.{expect_takes, settled_takes}
use Rattle.peer.proofs.Plain.CoverageLaws.{Bits, Content, all_before, bits_cleared, bits_marked, first_whole}
use Rattle.peer.proofs.Sentences.PacketsRead.{read_formed}
use Rattle.peer.proofs.Plain.Roles.{Ordered, SameFit, fit_same, open_same, overlap_same, role_at, to, unfit, vacancy_same}
use Rattle.peer.proofs.Slots.Slots.{found_open}
use Rattle.peer.proofs.PeerSteps.StepCases.{Arrives, data_of}
use Rattle.peer.proofs.Slots.Valid.{Valid, Within, posted_within}
use Rattle.peer.proofs.PeerSteps.Verdicts.{Begins, Continues, CutOff, Judged, again_inside, found_within, judged}

-- what the words and the area's bytes have of an open message of which the segments gs are accepted
pub record Held (ws : List ℕ) (mem : ℕ → ℕ) (o : Inbound) (gs : List Segment) : Type 0 where
  -- its bits are what the segments cover
  pub bits : Bits ws o.receive.start o.message.length gs
  -- what is covered of a long message lies below its granted end
  pub below : is_long o.message.shape ≡ true → (k : ℕ) → covers gs k ≡ true → k < o.message.granted
  -- what is covered holds the byte of the segment that covers it
  pub content : Content mem o.receive.start o.message.length gs

pub record Agrees (p : Peer) (ws : List ℕ) (mem : ℕ → ℕ) (l : Plain) : Type 0 where
  pub next : p.next ≡ l.next
  pub same : roles_of p.slots ≡ roles l.entries
  pub ordered : Ordered p.slots l.entries
  -- a posted receive was posted before the next one will be
  pub past : (i : ℕ) (r : Receive) (a : ℕ) → phase_at p.slots i ≡ Phase.Posted r a → (slot_entry l.entries i).serial < l.posts
  pub held : (i : ℕ) (o : Inbound) → phase_at p.slots i ≡ Phase.Open o → Held ws mem o (slot_entry l.entries i).segments

-- what the answers rest on
pub record Mirrors (p : Peer) (ws : List ℕ) (l : Plain) : Type 0 where
  pub next : p.next ≡ l.next
  pub same : roles_of p.slots ≡ roles l.entries
  pub ordered : Ordered p.slots l.entries
  pub bits : (i : ℕ) (o : Inbound) → phase_at p.slots i ≡ Phase.Open o → Bits ws o.receive.start o.message.length (slot_entry l.entries i).segments

pub mirrors : {p : Peer} {ws : List ℕ} {mem : ℕ → ℕ} {l : Plain} → Agrees p ws mem l → Mirrors p ws l
mirrors a = record { next = a.next; same = a.same; ordered = a.ordered; bits = λ i o e. (a.held i o e).bits }

-- ---- both at one call

-- one and the same answer, or two that take the packet, which are the same if the words cover the area
pub data Alike (cover : Type 0) : Answer → Answer → Type 0 where
  same : (a : Answer) → Alike cover a a
  taken : (a b : Answer) → takes a ≡ true → takes b ≡ true → (cover → a ≡ b) → Alike cover a b

pub alike_same : {cover : Type 0} {a b : Answer} → cover → Alike cover a b → a ≡ b
alike_same w (same a) = refl
alike_same w (taken a b x y e) = e w

-- what a call comes to, with the target that the plain receiver has for its packet's segment
pub data Meets (area limit : ℕ) (p : Peer) (ws : List ℕ) (l : Plain) : Call → Effect → Target → Type 0 where
  refused : (c : Call) (k : Refusal) → Meets area limit p ws l c (refuse p ws k) nowhere
  posted : (r : Receive) (i : ℕ) → vacancy 0 p.slots ≡ Some i → Meets area limit p ws l (post r) (quiet (placed p r i) ws (Answer.Posted i)) nowhere
  cancelled : (i : ℕ) → i < slot_count → Meets area limit p ws l (cancel i) (quiet (with_phase p i Phase.Free) ws (Answer.Cancelled i)) nowhere
  reported : (i : ℕ) (o : Inbound) → Meets area limit p ws l (report i) (quiet p ws (missing_in ws o)) nowhere
  truncated : (bs : List ℕ) (room : ℕ) (q : Packet) → Arrives limit bs room q → (i : ℕ) → CutOff p (incoming_of q) i
      → (t : Target) → t.index ≡ i → t.matched ≡ true → Meets area limit p ws l (packet bs room) (truncated_at p ws i (incoming_of q)) t
  begins : (bs : List ℕ) (room : ℕ) (q : Packet) → Arrives limit bs room q → (i : ℕ) (r : Receive) → Begins p (incoming_of q) i r
      → Meets area limit p ws l (packet bs room) (in_slot (advance p) i (begun limit ws i r (incoming_of q) (data_of bs q)))
      (begun_at (incoming_of q) i r (slot_entry l.entries i).serial (segment_of (incoming_of q) (data_of bs q)))
  continues : (bs : List ℕ) (room : ℕ) (q : Packet) → Arrives limit bs room q → (i : ℕ) (o : Inbound) → Continues p ws (incoming_of q) i o
      → Meets area limit p ws l (packet bs room) (in_slot p i (accept limit ws i o (incoming_of q).offset (data_of bs q)))
      (more_at l i (segment_of (incoming_of q) (data_of bs q)))

-- ---- an accepted segment

-- the words have the bits of the segments gs
pub taken_answer : (limit i : ℕ) (o : Inbound) (ws : List ℕ) (gs : List Segment) → o.message.granted ≤ o.message.length
    → Bits ws o.receive.start o.message.length gs → (settled_as limit i o (progress_of ws o)).answer ≡ expect_taken limit i o gs
unfolding progress_of expect_taken settled_as
taken_answer limit i o ws gs g b =
    in_step A Progress.Whole _ _ _ whole (λ x. refl) (λ x. rest (is_long o.message.shape) (ltb_short x))
  where
    A : Progress → Answer
    A d = (settled_as limit i o d).answer

    len : ℕ
    len = o.message.length

    found : ℕ
    found = first_clear ws o.receive.start len

    first : found ≡ first_not (covers gs) 0 len
    first = ap (λ (k : ℕ). first_clear ws k len) (omega arith) ∙ first_cover ws (covers gs) o.receive.start len b 0 len (omega arith)

    whole : eqb found len ≡ all_of (covers gs) 0 len
    whole = ap (λ (k : ℕ). eqb k len) first ∙ first_whole (covers gs) len ∙ sym (all_before (covers gs) len len (omega arith))

    granted : leb o.message.granted found ≡ all_of (covers gs) 0 o.message.granted
    granted = ap (leb o.message.granted) first ∙ sym (all_before (covers gs) len o.message.granted g)

    ltb_short : eqb found len ≡ false → found < len
    ltb_short x = omega (arith, eqb-false found len x, first_clear_le ws o.receive.start len)

    rest : (long : Bool) → found < len
        → A (pick long (pick (leb o.message.granted found) Progress.Due Progress.Partial) Progress.Partial)
        ≡ pick (long && (all_of (covers gs) 0 o.message.granted && ltb o.message.granted len)) (Answer.Granted (grant_of limit o.message)) Answer.Stored
    rest false s = unfold pick in refl
    rest true s =
        unfold pick in
        in_step A Progress.Due Progress.Partial _ _ (both (leb o.message.granted found) refl granted) (λ x. refl) (λ x. refl)
      where
        both : (t : Bool) → leb o.message.granted found ≡ t → t ≡ all_of (covers gs) 0 o.message.granted
            → leb o.message.granted found ≡ (all_of (covers gs) 0 o.message.granted && ltb o.message.granted len)
        both true x y = x ∙ sym (and_intro _ _ (sym y) (lt-ltb o.message.granted len (omega (arith, leb-true o.message.granted found x))))
        both false x y = x ∙ ap (λ (z : Bool). z && ltb o.message.granted len) y

-- bits that are set once the segment of h is in
pub more_bits : (ws : List ℕ) (h : Incoming) (bytes : List ℕ) (o : Inbound) (gs : List Segment) → o.receive.start + o.message.length ≤ 64 * length ws
    → Bits ws o.receive.start o.message.length gs
    → Bits (marked ws (o.receive.start + h.offset) (length bytes)) o.receive.start o.message.length (segment_of h bytes ∷ gs)
more_bits ws h bytes o gs fit b = bits_marked ws o.receive.start o.message.length (segment_of h bytes) gs fit b

-- two choices side by side, by one test or by a test and its opposite
beside : {A B : Type 0} (R : A → B → Type 0) {t u : Bool} (a b : A) (a' b' : B) → t ≡ u → (t ≡ true → R a a') → (t ≡ false → R b b')
    → R (pick t a b) (pick u a' b')
beside R {t} {u} a b a' b' e x y =
    branch (λ (c : _). R c (pick u a' b')) t a b
    (λ z. subst (R a) (sym (pick_true a' b' (sym e ∙ z))) (x z)) (λ z. subst (R b) (sym (pick_false a' b' (sym e ∙ z))) (y z))

module _ (area limit : ℕ) (p : Peer) (ws : List ℕ) (l : Plain) (v : Valid area p.slots) (m : Mirrors p ws l) where
  abbrev L : Answer → Answer → Type 0
  L = Alike (area ≤ 64 * length ws)

  -- ---- a packet

  module _ (h : Incoming) (bytes : List ℕ) (form : Formed h (length bytes)) where
    -- where the plain receiver has the segment go of a packet on which the peer's verdict is d
    Aimed : Verdict → Target → Type 0
    Aimed (Verdict.Refuse k) t = t ≡ nowhere
    Aimed (Verdict.Truncate i) t = (t.index ≡ i) × (t.matched ≡ true)
    Aimed (Verdict.Begin i r) t = t ≡ begun_at h i r (slot_entry l.entries i).serial (segment_of h bytes)
    Aimed (Verdict.More i o) t = t ≡ more_at l i (segment_of h bytes)

    Ruled : Verdict → Ruling → Type 0
    Ruled d x = L (carry limit p ws h bytes d).answer x.answer × Aimed d x.target

    refused_ruled : (k : Refusal) → Ruled (Verdict.Refuse k) (refusing k)
    unfolding Ruled Aimed carry
    refused_ruled k = (same _, refl)

    -- for the open message o in slot i
    more_ruled : (i : ℕ) (o : Inbound) → find_open h.id 0 p.slots ≡ Some (i, o) → h.offset + h.size ≤ o.message.length
        → Ruled (judge_more ws i o h) (expect_more limit l h bytes i o)
    unfolding judge_more expect_more
    more_ruled i o e fit =
        beside Ruled _ _ _ _ (touched_cover ws (covers gs) o.receive.start o.message.length own h.offset h.size fit) (λ x. refused_ruled repeated)
        (λ x. unfold Ruled Aimed carry accept in (
          taken _ _ (settled_takes limit i o _) (expect_takes limit i o (segment_of h bytes ∷ gs))
              (λ words. taken_answer limit i o (marked ws (o.receive.start + h.offset) (length bytes)) (segment_of h bytes ∷ gs) within.in_length
              (more_bits ws h bytes o gs (omega (arith, within.in_area, within.in_range)) own)),
          refl,
        ))
      where
        gs : List Segment
        gs = (slot_entry l.entries i).segments

        own : Bits ws o.receive.start o.message.length gs
        own = m.bits i o (found_open h.id p.slots i o e).1

        within : Within area o
        within = found_within area p h.id i o v e

    again_ruled : (i : ℕ) (o : Inbound) → find_open h.id 0 p.slots ≡ Some (i, o) → is_rtm h.shape ≡ true
        → Ruled (judge_again ws i o h) (expect_again limit l h bytes i o)
    unfolding judge_again expect_again
    again_ruled i o e rtm =
        beside Ruled _ _ _ _ refl (λ x. more_ruled i o e (again_inside p ws h (length bytes) form o rtm x).0) (λ x. refused_ruled differs)

    data_ruled : (i : ℕ) (o : Inbound) → find_open h.id 0 p.slots ≡ Some (i, o) → Ruled (judge_data ws i o h) (expect_data limit l h bytes i o)
    unfolding judge_data expect_data
    data_ruled i o e =
        beside Ruled _ _ _ _ refl
        (λ long. branch (λ (d : Verdict). Ruled d (pick (ltb o.message.granted (h.offset + h.size)) (refusing beyond_grant) (expect_more limit l h bytes i o))) _ _ _
        (λ x.
        let g : h.offset + h.size ≤ o.message.granted = leb-true _ _ x in
        subst (Ruled (judge_more ws i o h)) (sym (pick_false _ _ (le-ltb o.message.granted (h.offset + h.size) g)))
        (more_ruled i o e (omega (arith, (found_within area p h.id i o v e).in_length))))
        (λ x. subst (Ruled (Verdict.Refuse beyond_grant)) (sym (pick_true _ _ (lt-ltb o.message.granted (h.offset + h.size) (leb-false _ _ x))))
        (refused_ruled beyond_grant)))
        (λ x. refused_ruled late)

    -- for the receive r in slot i
    begun_ruled : (i : ℕ) (r : Receive) (a : ℕ) → phase_at p.slots i ≡ Phase.Posted r a → is_rtm h.shape ≡ true → h.length ≤ r.capacity
        → Ruled (Verdict.Begin i r) (accepting limit (opened r h) (begun_at h i r (slot_entry l.entries i).serial (segment_of h bytes)))
    unfolding Ruled Aimed carry begun accept
    begun_ruled i r a at rtm short = (
      taken _ _ (settled_takes limit i (opened r h) _) (expect_takes limit i (opened r h) (segment_of h bytes ∷ []))
          (λ words. taken_answer limit i (opened r h) (marked (cleared ws r.start r.capacity) (r.start + h.offset) (length bytes))
          (segment_of h bytes ∷ []) (omega (arith, form.inside rtm))
          (more_bits (cleared ws r.start r.capacity) h bytes (opened r h) []
          (omega (arith, posted_within area r a (ap (phase_fits area) (sym at) ∙ v.each i), length_cleared ws r.start r.capacity))
          (bits_cleared ws r.start r.capacity h.length short))),
      refl,
    )

    fit_ruled : (f f' : Option (ℕ × Receive × ℕ)) → SameFit p.slots l.entries f f' → is_rtm h.shape ≡ true → Ruled (judge_fit h f) (expect_fit limit h bytes f')
    unfolding judge_fit expect_fit
    fit_ruled _ _ unfit rtm = refused_ruled no_receive
    fit_ruled _ _ (to i r a at) rtm =
        beside Ruled _ _ _ _ refl (λ x. unfold Ruled Aimed carry truncated_at in (same _, (refl, refl))) (λ x. begun_ruled i r a at rtm (ltb-false _ _ x))

    new_ruled : is_rtm h.shape ≡ true → Ruled (judge_new p h) (expect_new limit l h bytes)
    unfolding judge_new expect_new
    new_ruled rtm =
        beside Ruled _ _ _ _ (ap (leb 2147483648) alike) (λ x. refused_ruled late) (λ x.
        beside Ruled _ _ _ _ (ap (leb 1) alike) (λ y. refused_ruled early) (λ y.
        fit_ruled _ _ (fit_same p.slots l.entries m.ordered h m.same) rtm))
      where
        alike : ahead h.id p.next ≡ ahead h.id l.next
        alike = ap (ahead h.id) m.next

    found_ruled : (f : Option (ℕ × Inbound)) → find_open h.id 0 p.slots ≡ f → Ruled (judge_found p ws h f) (expect_found limit l h bytes f)
    unfolding judge_found expect_found
    found_ruled (Some (i, o)) e = beside Ruled _ _ _ _ refl (λ x. again_ruled i o e x) (λ x. data_ruled i o e)
    found_ruled None e = beside Ruled _ _ _ _ refl (λ x. new_ruled x) (λ x. refused_ruled late)

    packet_ruled : Ruled (judge p ws h) (expect_found limit l h bytes (open_in h.id 0 (roles l.entries)))
    unfolding judge
    packet_ruled =
        subst (λ (f : Option (ℕ × Inbound)). Ruled (judge p ws h) (expect_found limit l h bytes f)) (open_same h.id 0 p.slots ∙ ap (open_in h.id 0) m.same)
        (found_ruled (find_open h.id 0 p.slots) refl)

  -- ---- each call

  Both : Call → Effect → Target → Answer → Type 0
  Both c f t a = L f.answer a × Meets area limit p ws l c f t

  refused_both : (c : Call) (k : Refusal) → Both c (refuse p ws k) nowhere (Answer.Refused k)
  unfolding Both
  refused_both c k = (same _, refused c k)

  carried : (bs : List ℕ) (room : ℕ) (q : Packet) → Arrives limit bs room q → (d : Verdict) (x : Ruling) → Judged p ws (incoming_of q) d
      → (form : Formed (incoming_of q) (length (data_of bs q))) → Ruled (incoming_of q) (data_of bs q) form d x
      → Both (packet bs room) (carry limit p ws (incoming_of q) (data_of bs q) d) x.target x.answer
  unfolding Both Ruled Aimed
  carried bs room q a (Verdict.Refuse k) x j form (e, t) = (e, subst (Meets area limit p ws l (packet bs room) _) (sym t) (unfold carry in refused (packet bs room) k))
  carried bs room q a (Verdict.Truncate i) x j form (e, t) = (e, unfold carry in truncated bs room q a i j x.target t.0 t.1)
  carried bs room q a (Verdict.Begin i r) x j form (e, t) = (e, subst (Meets area limit p ws l (packet bs room) _) (sym t) (unfold carry in begins bs room q a i r j))
  carried bs room q a (Verdict.More i o) x j form (e, t) = (e, subst (Meets area limit p ws l (packet bs room) _) (sym t) (unfold carry in continues bs room q a i o j))

  pub meets : (c : Call) → Alike (area ≤ 64 * length ws) (peer_step area limit p ws c).answer (expected area limit l c)
      × Meets area limit p ws l c (peer_step area limit p ws c) (target_of_call limit l c)
  unfolding Both peer_step expected target_of_call post_effect expect_post placed_in packet_effect read_effect expect_packet expect_read cancel_effect cancel_slot report_effect report_slot
  meets (post r) =
      beside (λ (f : Effect) (a : Answer). Both (post r) f nowhere a) _ _ _ _ refl (λ x. refused_both (post r) bad_length) (λ x.
      beside (λ (f : Effect) (a : Answer). Both (post r) f nowhere a) _ _ _ _ (overlap_same r p.slots ∙ ap (any_overlap r) m.same) (λ y. refused_both (post r) overlaps)
      (λ y. subst (λ (z : Option ℕ). Both (post r) (placed_in p ws r (vacancy 0 p.slots)) nowhere (expect_place z)) (vacancy_same 0 p.slots ∙ ap (lowest_idle 0) m.same)
      (place (vacancy 0 p.slots) refl)))
    where
      place : (y : Option ℕ) → vacancy 0 p.slots ≡ y → Both (post r) (placed_in p ws r y) nowhere (expect_place y)
      place None e = refused_both (post r) no_slot
      place (Some i) e = (same _, posted r i e)
  meets (packet bs room) =
      beside (λ (f : Effect) (x : Ruling). Both (packet bs room) f x.target x.answer) _ _ _ _ refl (λ x. refused_both (packet bs room) short_reply)
      (λ x. read (read_of served_row limit bs) refl (ltb-false room 24 x))
    where
      read : (d : Result Packet Refusal) → read_of served_row limit bs ≡ d → 24 ≤ room
          → Both (packet bs room) (read_effect limit p ws bs d) (expect_read limit l bs d).target (expect_read limit l bs d).answer
      read (Err k) e x = refused_both (packet bs room) k
      read (Ok q) e x =
          let form = read_formed limit bs q e in
          carried bs room q (record { roomy = x; reads = e }) (judge p ws (incoming_of q)) _ (judged p ws (incoming_of q) _ form) form
          (packet_ruled (incoming_of q) (data_of bs q) form)
  meets (cancel i) =
      beside (λ (f : Effect) (a : Answer). Both (cancel i) f nowhere a) _ _ _ _ refl (λ x. refused_both (cancel i) bad_slot)
      (λ x. subst (λ (u : Role). Both (cancel i) (cancel_slot p ws i (phase_at p.slots i)) nowhere (expect_cancel i u)) (role_at p.slots l.entries m.same i)
      (at (phase_at p.slots i) (leb-false slot_count i x)))
    where
      at : (f : Phase) → i < slot_count → Both (cancel i) (cancel_slot p ws i f) nowhere (expect_cancel i (role_of f))
      at Phase.Free h = refused_both (cancel i) bad_slot
      at (Phase.Posted r b) h = (same _, cancelled i h)
      at (Phase.Open o) h = (same _, cancelled i h)
  meets (report i) =
      beside (λ (f : Effect) (a : Answer). Both (report i) f nowhere a) _ _ _ _ refl (λ x. refused_both (report i) bad_slot)
      (λ x. subst (λ (u : Role). Both (report i) (report_slot p ws (phase_at p.slots i)) nowhere (expect_report gs u)) (role_at p.slots l.entries m.same i)
      (at (phase_at p.slots i) refl))
    where
      gs : List Segment
      gs = (slot_entry l.entries i).segments

      at : (f : Phase) → phase_at p.slots i ≡ f → Both (report i) (report_slot p ws f) nowhere (expect_report gs (role_of f))
      at Phase.Free e = refused_both (report i) bad_slot
      at (Phase.Posted r b) e = refused_both (report i) bad_slot
      at (Phase.Open o) e =
          let start : o.receive.start ≡ o.receive.start + 0 = omega arith in
          let len : ℕ = o.message.length in (
            subst (L (missing_in ws o)) (ap₂ Answer.Missing
                (ap (λ (k : ℕ). count_set ws k len) start ∙ count_cover ws (covers gs) o.receive.start len (m.bits i o e) 0 len (omega arith))
                (ap (λ (k : ℕ). first_clear ws k len) start ∙ first_cover ws (covers gs) o.receive.start len (m.bits i o e) 0 len (omega arith))) (same _),
            reported i o,
          )
