-- What a call yields besides its answer: the reply packet is the expected one, the bytes that it writes are its segment's, and the bytes of a
-- message that it answers done are those of its segments, in the area from where its receive starts.
use Rattle.std.proofs.Common.{◌≡◌, ℕ, ◌+◌, ◌*◌, ◌<◌, ◌≤◌, true, false, List, [], ◌∷◌, length, get_or, set, sym, refl, ap, ◌∙◌, subst, true≢false, arith, length-set, get_or-set_other, get_or-set_same}
use native.Mathlib.Decide.{ℕ_discrete}
use Rattle.bitmap.specs.Map.{cleared, marked}
use Rattle.laws.specs.Choose.{pick}
use Rattle.protocol.specs.Cts.{cts_bytes}
use Rattle.protocol.specs.FieldNumbers.{field_bytes}
use Rattle.protocol.specs.Layout.{layout}
use Rattle.protocol.specs.Optional.{sections_of}
use Rattle.protocol.specs.Writing.{base_bytes, mandatory_bytes, packet_bytes}
use Rattle.protocol.specs.declared.refusals.Refusal.{Refusal}
use Rattle.wire.specs.LittleEndian.{le_bytes}
use Rattle.peer.specs.Answers.{on_done, on_granted}
use Rattle.peer.specs.Calls.{Call, cancel, on_packet, packet, peer_step, placed, post, renumbered, renumbered_phase, report}
use Rattle.peer.specs.Claims.{SegmentIn, WriteClaim}
use Rattle.peer.specs.Coverage.{Segment, all_of, byte_of, covers}
use Rattle.peer.specs.Effects.{Effect, accept, advance, begun, extended, grant_of, in_slot, opened, progress_of, settled_as, truncated_at, with_phase}
use Rattle.peer.specs.Expected.{expect_taken, expected_reply, message_of}
use Rattle.peer.specs.Incomings.{incoming_of}
use Rattle.peer.specs.Plain.{Plain, Role, Target, segment_of, slot_entry}
use Rattle.peer.specs.Starts.{note_start}
use Rattle.peer.specs.State.{is_free, phase_at, slot_count, slot_with}
use Rattle.peer.specs.declared.types.Answer.{Answer}
use Rattle.peer.specs.declared.types.Inbound.{Inbound}
use Rattle.peer.specs.declared.types.Incoming.{Incoming}
use Rattle.peer.specs.declared.types.Peer.{Peer}
use Rattle.peer.specs.declared.types.Phase.{Phase}
use Rattle.peer.specs.declared.types.Progress.{Progress}
use Rattle.peer.specs.declared.types.Receive.{Receive}
use Rattle.peer.specs.declared.types.Slot.{Slot}
use Rattle.laws.proofs.Choosing.{branch, pick_either}
use Rattle.peer.proofs.Plain.Entered.{Taken, begun_taken, more_taken}
use Rattle.peer.proofs.Slots.Ages.{length_renumbered, phase_renumbered}
use Rattle.peer.proofs.Plain.Agreement.{Agrees, Meets, begins, cancelled, continues, posted, refused, reported, taken_answer, truncated}
use Rattle.peer.proofs.PeerSteps.AnswerLaws.{claim_from}
use Rattle.peer.proofs.Plain.CoverageLaws.{Wrote, all_at}
use Rattle.peer.proofs.PeerSteps.Kept.{continued_beside}
use Rattle.peer.proofs.Sentences.PacketsRead.{read_formed}
use Rattle.peer.proofs.Slots.Slots.{phase_other, phase_same, vacant}
use Rattle.peer.proofs.PeerSteps.StepCases.{StepCase, begins, cancelled, continues, data_of, posted, refused, reported, step_case, truncated}
use Rattle.peer.proofs.Slots.Valid.{Valid}
use Rattle.peer.proofs.PeerSteps.Verdicts.{chosen_at, continued_at}

-- ---- the starts of receives

abbrev pub start_of : Phase → ℕ
start_of Phase.Free = 0
start_of (Phase.Posted r a) = r.start
start_of (Phase.Open o) = o.receive.start

pub record Starts (ss : List Slot) (starts : List ℕ) : Type 0 where
  pub count : length starts ≡ length ss
  pub at : (i : ℕ) → is_free (phase_at ss i) ≡ false → get_or starts i 0 ≡ start_of (phase_at ss i)

starts_set : (ss : List Slot) (starts : List ℕ) (i : ℕ) (f : Phase) → i < length ss → Starts ss starts → (is_free f ≡ false → get_or starts i 0 ≡ start_of f)
    → Starts (set ss i (slot_with f)) starts
starts_set ss starts i f h s k =
    record { count = s.count ∙ sym (length-set ss i (slot_with f)); at = λ j u. go j u (ℕ_discrete j i) }
  where
    go : (j : ℕ) → is_free (phase_at (set ss i (slot_with f)) j) ≡ false → Dec (j ≡ i) → get_or starts j 0 ≡ start_of (phase_at (set ss i (slot_with f)) j)
    go j u (yes x) =
        let here : phase_at (set ss i (slot_with f)) j ≡ f = ap (phase_at (set ss i (slot_with f))) x ∙ phase_same ss i f h in
        ap (λ (m : ℕ). get_or starts m 0) x ∙ k (ap is_free (sym here) ∙ u) ∙ sym (ap start_of here)
    go j u (no x) =
        let there : phase_at (set ss i (slot_with f)) j ≡ phase_at ss j = phase_other ss i j f x in
        s.at j (ap is_free (sym there) ∙ u) ∙ sym (ap start_of there)

starts_settled : (limit : ℕ) (p : Peer) (starts : List ℕ) (i : ℕ) (o : Inbound) (g : Progress) → i < length p.slots → Starts p.slots starts
    → get_or starts i 0 ≡ o.receive.start → Starts (with_phase p i (settled_as limit i o g).phase).slots starts
unfolding settled_as
starts_settled limit p starts i o Progress.Whole h s e = starts_set p.slots starts i Phase.Free h s (λ u. absurd (true≢false u))
starts_settled limit p starts i o Progress.Due h s e = starts_set p.slots starts i (Phase.Open (extended (grant_of limit o.message) o)) h s (λ u. e)
starts_settled limit p starts i o Progress.Partial h s e = starts_set p.slots starts i (Phase.Open o) h s (λ u. e)

-- a slot that is used, by what it holds
used_start : (ss : List Slot) (starts : List ℕ) (i : ℕ) (f : Phase) → phase_at ss i ≡ f → is_free f ≡ false → Starts ss starts → get_or starts i 0 ≡ start_of f
used_start ss starts i f e u s = s.at i (ap is_free e ∙ u) ∙ ap start_of e

starts_renumbered : (ss : List Slot) (starts : List ℕ) → Starts ss starts → Starts (renumbered ss ss) starts
starts_renumbered ss starts s =
    record {
      count = s.count ∙ sym (length_renumbered ss ss);
      at = λ j u.
          s.at j ((same (phase_at ss j)).0 ∙ ap is_free (sym (phase_renumbered ss ss j)) ∙ u)
          ∙ (same (phase_at ss j)).1 ∙ sym (ap start_of (phase_renumbered ss ss j));
    }
  where
    same : (f : Phase) → (is_free f ≡ is_free (renumbered_phase ss f)) × (start_of f ≡ start_of (renumbered_phase ss f))
    same Phase.Free = (refl, refl)
    same (Phase.Posted r a) = (refl, refl)
    same (Phase.Open o) = (refl, refl)

-- a start noted for one slot
starts_noted : (ss : List Slot) (starts : List ℕ) (i : ℕ) (r : Receive) (a : ℕ) → i < length ss → Starts ss starts
    → Starts (set ss i (slot_with (Phase.Posted r a))) (set starts i r.start)
starts_noted ss starts i r a h s =
    record { count = length-set starts i r.start ∙ s.count ∙ sym (length-set ss i _); at = λ j u. go j u (ℕ_discrete j i) }
  where
    go : (j : ℕ) → is_free (phase_at (set ss i (slot_with (Phase.Posted r a))) j) ≡ false → Dec (j ≡ i)
        → get_or (set starts i r.start) j 0 ≡ start_of (phase_at (set ss i (slot_with (Phase.Posted r a))) j)
    go j u (yes x) =
        let here : phase_at (set ss i (slot_with (Phase.Posted r a))) j ≡ Phase.Posted r a = ap (phase_at (set ss i (slot_with (Phase.Posted r a)))) x ∙ phase_same ss i (Phase.Posted r a) h in
        ap (λ (m : ℕ). get_or (set starts i r.start) m 0) x ∙ get_or-set_same starts i r.start 0 (omega (arith, s.count)) ∙ sym (ap start_of here)
    go j u (no x) =
        let there : phase_at (set ss i (slot_with (Phase.Posted r a))) j ≡ phase_at ss j = phase_other ss i j (Phase.Posted r a) x in
        get_or-set_other starts i j r.start 0 x ∙ s.at j (ap is_free (sym there) ∙ u) ∙ sym (ap start_of there)

pub starts_stepped : (area limit : ℕ) (p : Peer) (ws : List ℕ) (starts : List ℕ) (c : Call) → Valid area p.slots → length p.slots ≡ slot_count
    → Starts p.slots starts → Starts (peer_step area limit p ws c).peer.slots (note_start starts c (peer_step area limit p ws c).answer)
unfolding truncated_at begun accept placed
starts_stepped area limit p ws starts c v eight s = go (step_case area limit p ws c)
  where
    -- a refusal notes nothing
    after_refusal : (c : Call) (k : Refusal) → Starts p.slots (note_start starts c (Answer.Refused k))
    after_refusal (post r) k = s
    after_refusal (packet bs room) k = s
    after_refusal (cancel i) k = s
    after_refusal (report i) k = s

    freed : (i : ℕ) → i < length p.slots → Starts (set p.slots i (slot_with Phase.Free)) starts
    freed i h = starts_set p.slots starts i Phase.Free h s (λ u. absurd (true≢false u))

    go : {c : Call} {f : Effect} → StepCase area limit p ws c f → Starts f.peer.slots (note_start starts c f.answer)
    go (refused c k m) = after_refusal c k
    go (posted r i e a w) =
        starts_noted (renumbered p.slots p.slots) starts i r _ (omega (arith, (vacant p.slots i e).0, length_renumbered p.slots p.slots)) (starts_renumbered p.slots starts s)
    go (cancelled i l u) = freed i (omega arith)
    go (reported i o x) = s
    go (truncated bs room q a i j) = freed i (chosen_at p (incoming_of q) i j.receive j.matched).0
    go (begins bs room q a i r b) =
        let at = chosen_at p (incoming_of q) i r b.matched in
        starts_settled limit (advance p) starts i (opened r (incoming_of q)) _ at.0 s (used_start p.slots starts i _ at.1 refl s)
    go (continues bs room q a i o k) =
        let at = continued_at p ws (incoming_of q) i o k in
        starts_settled limit p starts i o _ at.0 s (used_start p.slots starts i _ at.1 refl s)

-- the n bytes in the area from where slot i starts are those of the segments
abbrev pub Holds : ℕ → (ℕ → ℕ) → List ℕ → List Segment → ℕ → ℕ → Type 0
Holds area mem starts gs i n = (get_or starts i 0 + n ≤ area) × ((o : ℕ) → o < n → mem (get_or starts i 0 + o) ≡ byte_of gs o)

-- what a call yields, where the bytes of the area are `mem` after it, and its target is t
pub record Yielded (area : ℕ) (mem : ℕ → ℕ) (starts : List ℕ) (t : Target) (f : Effect) : Type 0 where
  pub reply : f.reply ≡ expected_reply t f.answer
  pub done : on_done (Unit {0}) (λ i id n cq. Holds area mem starts t.entry.segments i n) f.answer
  pub writes : WriteClaim area t f.answer f.at f.bytes

-- ---- a segment is accepted

-- done is answered where every byte is covered
abbrev Complete : ℕ → Inbound → List Segment → Answer → Type 0
Complete i o gs a = on_done (Unit {0}) (λ j id n cq. (j ≡ i) × (n ≡ o.message.length) × (all_of (covers gs) 0 o.message.length ≡ true)) a

taken_done : (limit i : ℕ) (o : Inbound) (gs : List Segment) → Complete i o gs (expect_taken limit i o gs)
unfolding expect_taken
taken_done limit i o gs = branch (Complete i o gs) _ _ _ (λ x. (refl, refl, x)) (λ x. pick_either (Complete i o gs) _ tt tt)

module _ (area limit : ℕ) (p : Peer) (ws : List ℕ) (mem : ℕ → ℕ) (l : Plain) (starts : List ℕ) (q : Peer) (o : Inbound) (g : Segment) (gs : List Segment)
    (t : Target) (k : Taken area p ws mem l t.index o t.entry) (latest : t.entry.segments ≡ g ∷ gs) where
  settled : Progress → Effect
  settled d = in_slot q t.index (record { settled = settled_as limit t.index o d; words = ws; at = o.receive.start + g.offset; bytes = g.bytes })

  settled_reply : (d : Progress) → (settled d).reply ≡ expected_reply t (settled d).answer
  unfolding settled settled_as
  settled_reply Progress.Whole = refl
  settled_reply Progress.Due = ap (λ (u : Role). cts_bytes (message_of u).send_id (message_of u).id (grant_of limit o.message)) (sym k.role)
  settled_reply Progress.Partial = refl

  settled_yields : get_or starts t.index 0 ≡ o.receive.start → g.offset + length g.bytes ≤ o.message.length
      → Yielded area mem starts t (settled (progress_of ws o))
  unfolding settled
  settled_yields s fit =
      record {
        reply = settled_reply (progress_of ws o);
        done = claim_from (settled_as limit t.index o (progress_of ws o)).answer (λ e x. tt) (λ e x. tt) (λ n e x. tt)
            (λ j id n cq e x.
            let (slot, len, all) = x in
            let from : get_or starts j 0 ≡ o.receive.start = ap (λ (m : ℕ). get_or starts m 0) slot ∙ s in (
              omega (arith, k.beside.within.in_area, k.beside.within.in_range),
              λ x h. ap (λ (m : ℕ). mem (m + x)) from
                  ∙ k.own.content x (omega arith) (ap (covers t.entry.segments) (omega arith) ∙ all_at (covers t.entry.segments) 0 o.message.length x all (omega arith)),
            ))
            (λ i id n e x. tt)
            (subst (Complete t.index o t.entry.segments) (sym (taken_answer limit t.index o ws t.entry.segments k.beside.within.in_length k.own.bits))
            (taken_done limit t.index o t.entry.segments));
        writes = accepted (progress_of ws o);
      }
    where
      placed_in_lem : SegmentIn area t (o.receive.start + g.offset) g.bytes
      placed_in_lem =
          record {
            message = o;
            segment = g;
            earlier = gs;
            role = k.role;
            latest = latest;
            place = refl;
            content = refl;
            in_message = fit;
            in_buffer = k.beside.within.in_range;
            in_area = k.beside.within.in_area;
          }

      accepted : (d : Progress) → WriteClaim area t (settled_as limit t.index o d).answer (o.receive.start + g.offset) g.bytes
      accepted Progress.Whole = unfold settled_as in placed_in_lem
      accepted Progress.Due = unfold settled_as in placed_in_lem
      accepted Progress.Partial = unfold settled_as in placed_in_lem

-- ---- a call

module _ (area limit : ℕ) (p : Peer) (ws : List ℕ) (mem mem' : ℕ → ℕ) (l : Plain) (starts : List ℕ) (v : Valid area p.slots) (big : area ≤ 64 * length ws)
    (agrees : Agrees p ws mem l) (s : Starts p.slots starts) where
  pub met_yields : {c : Call} {f : Effect} {t : Target} → Meets area limit p ws l c f t → Wrote area mem mem' f.at f.bytes → Yielded area mem' starts t f
  unfolding truncated_at begun accept settled
  met_yields (refused c k) w = record { reply = refl; done = tt; writes = refl }
  met_yields (posted r i e) w = record { reply = refl; done = tt; writes = refl }
  met_yields (cancelled i h) w = record { reply = refl; done = tt; writes = refl }
  met_yields (reported i o) w = record { reply = refl; done = tt; writes = refl }
  met_yields (truncated bs room q a i j t e x) w = record { reply = refl; done = tt; writes = refl }
  met_yields (begins bs room q a i r b) w =
      let h : Incoming = incoming_of q in
      let form = read_formed limit bs q a.reads in
      let at = chosen_at p h i r b.matched in
      settled_yields area limit p (marked (cleared ws r.start r.capacity) (r.start + h.offset) (length (data_of bs q))) mem' l starts (advance p) (opened r h)
      (segment_of h (data_of bs q)) [] _ (begun_taken area limit p ws mem mem' l h (data_of bs q) v form big agrees i r b w) refl
      (s.at i (ap is_free at.1) ∙ ap start_of at.1) (omega (arith, form.size, form.inside b.matched.rtm))
  met_yields (continues bs room q a i o k) w =
      let h : Incoming = incoming_of q in
      let form = read_formed limit bs q a.reads in
      let at = continued_at p ws h i o k in
      settled_yields area limit p (marked ws (o.receive.start + h.offset) (length (data_of bs q))) mem' l starts p o (segment_of h (data_of bs q))
      (slot_entry l.entries i).segments _ (more_taken area limit p ws mem mem' l h (data_of bs q) v form big agrees i o k w) refl
      (s.at i (ap is_free at.1) ∙ ap start_of at.1)
      (omega (arith, form.size, k.in_length (continued_beside area p ws h i o v k).within.in_length))

-- ---- a grant's reply is a CTS of 24 bytes, for which there is room; no other answer comes with a reply

length_cts : (send recv n : ℕ) → length (cts_bytes send recv n) ≡ 24
unfolding cts_bytes packet_bytes mandatory_bytes base_bytes field_bytes layout sections_of le_bytes pick
length_cts send recv n = refl

abbrev pub Replying : ℕ → List ℕ → Answer → Type 0
Replying room reply a = on_granted (reply ≡ []) (λ n. (length reply ≡ 24) × (24 ≤ room)) a

-- of the calls only a packet is answered granted; its reply buffer is `room` bytes long
abbrev pub room_of : Call → ℕ
room_of c = on_packet 0 (λ bs room. room) c

pub step_replies : (area limit : ℕ) (p : Peer) (ws : List ℕ) (c : Call)
    → Replying (room_of c) (peer_step area limit p ws c).reply (peer_step area limit p ws c).answer
unfolding truncated_at begun accept
step_replies area limit p ws c = go (step_case area limit p ws c)
  where
    told : (room i : ℕ) (o : Inbound) (d : Progress) → 24 ≤ room → Replying room (settled_as limit i o d).reply (settled_as limit i o d).answer
    told room i o Progress.Whole h = unfold settled_as in refl
    told room i o Progress.Due h = unfold settled_as in (length_cts _ _ _, h)
    told room i o Progress.Partial h = unfold settled_as in refl

    go : {c : Call} {f : Effect} → StepCase area limit p ws c f → Replying (room_of c) f.reply f.answer
    go (StepCase.refused c k m) = refl
    go (StepCase.posted r i e a w) = refl
    go (StepCase.cancelled i h u) = refl
    go (StepCase.reported i o e) = refl
    go (StepCase.truncated bs room q a i j) = refl
    go (StepCase.begins bs room q a i r b) = told room i (opened r (incoming_of q)) _ a.roomy
    go (StepCase.continues bs room q a i o k) = told room i o _ a.roomy
