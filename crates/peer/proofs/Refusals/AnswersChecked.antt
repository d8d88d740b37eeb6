-- The answer that 01 demands is a refusal by the first check that fails, of every plain receiver that no two messages with one id are open
-- in: the statement of specs/Checks.antt on plain receivers.
use Rattle.std.specs.Prelude.{Result, Ok, Err}
use Rattle.std.proofs.Common.{◌≡◌, ℕ, ◌^◌, ◌<◌, true, false, leb, ◌⊎◌, List, [], ◌∷◌, ◌++◌, map, length, get_or, sym, refl, ap, ◌∙◌, subst, inl, inr, ⊎_elim, arith, ltb-false, ltb-true}
use Rattle.std.specs.Prelude.{Some, None}
use lib.ListN.{length-map}
use mathlib.Core.Logic.{⊎_map}
use Rattle.protocol.specs.Sentences.{ReadIfNoneFails, RefusedByFirstToFail, reader_checks, wrong_lengths}
use Rattle.protocol.specs.Reading.{read_of}
use Rattle.protocol.specs.Refusals.{bad_slot, beyond_grant, differs, early, late, no_receive, repeated, number}
use Rattle.protocol.specs.Says.{read_says}
use Rattle.protocol.specs.Values.{bytes_at, values_in}
use Rattle.protocol.specs.declared.types.Packet.{Packet}
use Rattle.protocol.specs.Types.{served_row}
use Rattle.peer.specs.Calls.{Call, cancel, packet, post, report}
use Rattle.peer.specs.Checks.{AnswersAreChecked, CallCheck, CallFails, checks_of, judged_checks, call_refused_as, unread}
use Rattle.peer.specs.Claims.{AreBytes}
use Rattle.peer.specs.Coverage.{Segment}
use Rattle.peer.specs.Effects.{opened}
use Rattle.peer.specs.Expected.{Ruling, expect_cancel, expect_packet, expect_post, expect_read, expect_report, expected, accepting}
use Rattle.peer.specs.Sentences.{FoundIsTheLowestOpen, NothingFoundIsNoneOpen, RtmIs64To69, UnfitIsNoneWaiting, MediumIs66And67}
use Rattle.peer.specs.Incomings.{incoming_of, is_rtm, is_medium}
use Rattle.peer.specs.PacketBytes.{RtmIn, id_in, type_in}
use Rattle.peer.specs.Plain.{Plain, Role, slot_entry, idle, open_in, receiving, roles, segment_of, waiting, Target, begun_at, more_at}
use Rattle.peer.specs.Says.{refused, said, say}
use Rattle.peer.specs.View.{OneEach, OpenIn, View, view_in}
use Rattle.peer.specs.declared.types.Answer.{Answer}
use Rattle.peer.specs.declared.types.Inbound.{Inbound}
use Rattle.peer.specs.declared.types.Incoming.{Incoming}
use Rattle.peer.specs.declared.types.Receive.{Receive}
use Rattle.laws.proofs.Choosing.{branch, clashing}
use Rattle.protocol.proofs.OrderHolds.{read_if_none_fails, refused_by_first_to_fail}
use Rattle.peer.proofs.PeerSteps.AnswerLaws.{expect_takes, takes_unrefused}
use Rattle.peer.proofs.Sentences.BytesHold.{Says, read_says_lem}
use Rattle.peer.proofs.Refusals.FirstLaws.{gone_at, gone_past, gone_refused}
use Rattle.peer.proofs.History.Facts.{Belongs, Ruled, accepted, again, begins, beyond, behind, cut_off, differing, goes_on, granted, not_long, not_open, repeating, ruled, refusal, too_soon, unmatched}
use Rattle.peer.proofs.Refusals.PacketChecked.{Sole, data_beyond_lem, data_more, data_repeats_lem, data_short, data_unopened, new_early, new_fits, new_late, new_unfit, open_differs, open_more, open_repeats}
use Rattle.peer.proofs.Refusals.PostChecked.{GoneFor, Unrefused, cancel_free, cancel_used, post_gone, report_open, report_unopened, slot_beyond}
use Rattle.peer.proofs.Plain.Roles.{role_of_entry}
use Rattle.peer.proofs.Sentences.SentencesHold.{found_is_the_lowest_open, nothing_found_is_none_open, rtm_is_64_to_69, unfit_is_none_waiting, medium_is_66_and_67}
use Rattle.peer.specs.State.{slot_count}
use Rattle.protocol.specs.declared.refusals.Refusal.{Refusal}

-- ---- the type of a packet

pub rtm_of : {bs : List ℕ} {h : Incoming} → Says bs h → is_rtm h.shape ≡ true → RtmIn bs
unfolding RtmIs64To69
rtm_of {h = h} s x = let w = (rtm_is_64_to_69 h.shape h.tagged).0 x in (omega (arith, s.kind, w.0), omega (arith, s.kind, w.1))

pub of_rtm : {bs : List ℕ} {h : Incoming} → Says bs h → RtmIn bs → is_rtm h.shape ≡ true
unfolding RtmIs64To69
of_rtm {h = h} s w = (rtm_is_64_to_69 h.shape h.tagged).1 (omega (arith, s.kind, w.0), omega (arith, s.kind, w.1))

pub medium_of : {bs : List ℕ} {h : Incoming} → Says bs h → is_medium h.shape ≡ true → (type_in bs ≡ 66) ⊎ (type_in bs ≡ 67)
unfolding MediumIs66And67
medium_of {h = h} s x = ⊎_map (λ y. sym s.kind ∙ y) (λ y. sym s.kind ∙ y) ((medium_is_66_and_67 h.shape h.tagged).0 x)

pub data_of : {bs : List ℕ} {h : Incoming} → Says bs h → is_rtm h.shape ≡ false → type_in bs ≡ 4
unfolding RtmIs64To69
data_of {h = h} s x =
    ⊎_elim (λ t. t)
    (λ w. clashing (is_rtm h.shape) (of_rtm s w) x)
    s.served

module _ (area limit : ℕ) (l : Plain) where
  abbrev v : View
  v = view_in l

  abbrev G : List CallCheck → Answer → Type 0
  G = GoneFor area limit (view_in l)

  -- ---- post, cancel and report

  post_checked : length l.entries ≡ slot_count → (r : Receive) → G (checks_of (post r)) (expect_post area l r)
  unfolding expect_post
  post_checked eight r = post_gone area limit v (roles l.entries) (λ i. sym (role_of_entry l.entries i)) (length-map l.entries _ ∙ eight) r

  cancel_checked : (i : ℕ) → G (checks_of (cancel i)) (expected area limit l (cancel i))
  unfolding expected
  cancel_checked i =
      branch (G (checks_of (cancel i))) _ _ _ (λ x. (slot_beyond area limit v i (Answer.Refused bad_slot) x refl).0) (λ x. at (slot_entry l.entries i).role refl x)
    where
      at : (u : Role) → v.role i ≡ u → leb slot_count i ≡ false → G (checks_of (cancel i)) (expect_cancel i u)
      at idle e x = cancel_free area limit v i (Answer.Refused bad_slot) e refl
      at (waiting r) e x =
          cancel_used area limit v i (Answer.Cancelled i) x (λ y. let w = sym y ∙ e in let z : ◌≡◌ {A = ℕ} 0 1 = cc in omega arith)
          (λ y. let z : ◌≡◌ {A = ℕ} 0 1 = cc in omega arith)
      at (receiving o) e x =
          cancel_used area limit v i (Answer.Cancelled i) x (λ y. let w = sym y ∙ e in let z : ◌≡◌ {A = ℕ} 0 1 = cc in omega arith)
          (λ y. let z : ◌≡◌ {A = ℕ} 0 1 = cc in omega arith)

  report_checked : (i : ℕ) → G (checks_of (report i)) (expected area limit l (report i))
  unfolding expected
  report_checked i =
      branch (G (checks_of (report i))) _ _ _ (λ x. (slot_beyond area limit v i (Answer.Refused bad_slot) x refl).1) (λ x. at (slot_entry l.entries i).role refl x)
    where
      gs : List Segment
      gs = (slot_entry l.entries i).segments

      at : (u : Role) → v.role i ≡ u → leb slot_count i ≡ false → G (checks_of (report i)) (expect_report gs u)
      at idle e x = report_unopened area limit v i (Answer.Refused bad_slot) (λ o y. let w = sym y ∙ e in let z : ◌≡◌ {A = ℕ} 0 1 = cc in omega arith) refl
      at (waiting r) e x = report_unopened area limit v i (Answer.Refused bad_slot) (λ o y. let w = sym y ∙ e in let z : ◌≡◌ {A = ℕ} 0 1 = cc in omega arith) refl
      at (receiving o) e x = report_open area limit v i o (expect_report gs (receiving o)) x e (λ y. let z : ◌≡◌ {A = ℕ} 0 1 = cc in omega arith)

  -- ---- packet

  module _ (one : OneEach (view_in l)) (small : l.next < 2 ^ 32) (bs : List ℕ) (octets : (i : ℕ) → get_or bs i 0 < 256) (q : Packet)
      (e : read_of served_row limit bs ≡ Ok q) where
    abbrev h : Incoming
    h = incoming_of q

    abbrev body : List ℕ
    body = bytes_at bs q.«data»

    says : Says bs (incoming_of q)
    says = read_says_lem limit bs q e

    abbrev J : Ruling → Type 0
    J x = G (judged_checks bs) x.answer

    -- the one message that is open under the packet's id, or none
    sole : (i : ℕ) (o : Inbound) → open_in h.id 0 (roles l.entries) ≡ Some (i, o) → Sole v (id_in bs) i o
    unfolding FoundIsTheLowestOpen
    sole i o e = subst (λ (id : ℕ). Sole v id i o) says.id (record { here = here; only = only })
      where
        here : OpenIn v h.id i o
        here = let ((r, x), w) = (found_is_the_lowest_open (roles l.entries) h.id i o).0 e in (sym (role_of_entry l.entries i) ∙ r, x)

        only : (j : ℕ) (m : Inbound) → OpenIn v h.id j m → (j ≡ i) × (m ≡ o)
        only j m x =
            let place : j ≡ i = one h.id j i m o x here in
            let role : receiving m ≡ receiving o = sym x.0 ∙ ap v.role place ∙ here.0 in
            (place, cc)

    none : open_in h.id 0 (roles l.entries) ≡ None → (i : ℕ) (o : Inbound) → OpenIn v (id_in bs) i o → ⊥
    unfolding NothingFoundIsNoneOpen
    none e i o (r, x) = (nothing_found_is_none_open (roles l.entries) h.id).0 e i o (role_of_entry l.entries i ∙ r, x ∙ sym says.id)

    taken_unrefused : (t : Target) (o : Inbound) → Unrefused (accepting limit o t).answer
    taken_unrefused t o = takes_unrefused (accepting limit o t).answer (expect_takes limit t.index o t.entry.segments)

    judged : {x : Ruling} → Ruled limit l h body x → J x
    unfolding UnfitIsNoneWaiting
    judged (refusal _ (differing i o f r d)) = open_differs area limit v bs h says (Answer.Refused differs) (rtm_of says r) i o (sole i o f) d refl
    judged (refusal _ (repeating i o f (again r s) t)) = open_repeats area limit v bs h says (Answer.Refused repeated) (rtm_of says r) i o (sole i o f) s t refl
    judged (refusal _ (repeating i o f (granted d long g) t)) =
        data_repeats_lem area limit v bs h says (Answer.Refused repeated) (data_of says d) i o (sole i o f) long g t refl
    judged (refusal _ (beyond i o f d long g)) = data_beyond_lem area limit v bs h says (Answer.Refused beyond_grant) (data_of says d) i o (sole i o f) long g refl
    judged (refusal _ (not_long i o f d short)) = data_short area limit v bs h says (Answer.Refused late) (data_of says d) i o (sole i o f) short refl
    judged (refusal _ (not_open n d)) = data_unopened area limit v bs h says (Answer.Refused late) (data_of says d) (none n) refl
    judged (refusal _ (behind n r g)) = new_late area limit v bs h says (Answer.Refused late) (rtm_of says r) (none n) small octets g refl
    judged (refusal _ (too_soon n r g m)) = new_early area limit v bs h says (Answer.Refused early) (rtm_of says r) (none n) small octets g m refl
    judged (refusal _ (unmatched n r z u)) =
        new_unfit area limit v bs h says (Answer.Refused no_receive) (rtm_of says r) (none n) small octets (omega arith) z
        (λ j s y f. (unfit_is_none_waiting h l.entries).0 u j s y f) refl
    judged (cut_off i r serial m above) =
        new_fits area limit v bs h says (Answer.Truncated i h.id h.length) (rtm_of says m.rtm) (none m.unopened) small octets (omega (arith, m.next))
        m.next i r m.chosen.waits m.chosen.fit (λ u. let z : ◌≡◌ {A = ℕ} 0 1 = cc in omega arith)
    judged (accepted t o (goes_on i _ g) f) = go g.belongs
      where
        go : Belongs h o → J (accepting limit o (more_at l i (segment_of h body)))
        go (again r s) = open_more area limit v bs h says (accepting limit o (more_at l i (segment_of h body))).answer (rtm_of says r) i o (sole i o g.found) s g.new (taken_unrefused (more_at l i (segment_of h body)) o)
        go (granted d long x) =
            data_more area limit v bs h says (accepting limit o (more_at l i (segment_of h body))).answer (data_of says d) i o (sole i o g.found) long x g.new (taken_unrefused (more_at l i (segment_of h body)) o)
    judged (accepted t o (begins i r serial m) f) =
        new_fits area limit v bs h says (accepting limit (opened r h) (begun_at h i r serial (segment_of h body))).answer (rtm_of says m.rtm) (none m.unopened) small octets (omega (arith, m.next)) m.next i r m.chosen.waits
        m.chosen.fit (taken_unrefused (begun_at h i r serial (segment_of h body)) (opened r h))

  packet_checked : OneEach (view_in l) → l.next < 2 ^ 32 → (bs : List ℕ) (room : ℕ) → ((i : ℕ) → get_or bs i 0 < 256)
      → G (checks_of (packet bs room)) (expected area limit l (packet bs room))
  unfolding expected expect_packet expect_read RefusedByFirstToFail ReadIfNoneFails
  packet_checked one small bs room octets =
      branch (λ (x : Ruling). G (checks_of (packet bs room)) x.answer) _ _ _ (λ x. inl (ltb-true _ _ x, refl))
      (λ x. inr (λ y. omega (arith, ltb-false room 24 x), read (read_of served_row limit bs) refl))
    where
      -- the reader's checks, then the judgement's
      read : (d : Result Packet Refusal) → read_of served_row limit bs ≡ d → G (map (unread bs) reader_checks ++ judged_checks bs) (expect_read limit l bs d).answer
      read (Err k) e =
          let (i, w, n, (x, b)) = (refused_by_first_to_fail false limit bs (number k)).0 (ap (read_says bs) e) in
          gone_at (CallFails area limit v) call_refused_as (unread bs) reader_checks (judged_checks bs) wrong_lengths (said (Answer.Refused k)) i w x b
          (ap (λ (m : ℕ). say refused (m ∷ [])) (sym n))
      read (Ok q) e =
          gone_past (CallFails area limit v) call_refused_as (unread bs) reader_checks (judged_checks bs) (said (expect_read limit l bs (Ok q)).answer)
          ((read_if_none_fails false limit bs).0 (values_in q bs, ap (read_says bs) e)) (judged one small bs octets q e (ruled limit l (incoming_of q) (bytes_at bs q.«data»)))

  pub answer_checked : (c : Call) → OneEach (view_in l) → length l.entries ≡ slot_count → l.next < 2 ^ 32 → AreBytes c → G (checks_of c) (expected area limit l c)
  answer_checked (post r) one eight small b = unfold expected in post_checked eight r
  answer_checked (packet bs room) one eight small b = packet_checked one small bs room b
  answer_checked (cancel i) one eight small b = cancel_checked i
  answer_checked (report i) one eight small b = report_checked i

pub answers_are_checked : AnswersAreChecked
unfolding AnswersAreChecked
answers_are_checked area limit l c one eight small b =
    gone_refused (CallFails area limit (view_in l)) call_refused_as (checks_of c) (said (expected area limit l c)) (answer_checked area limit l c one eight small b)
