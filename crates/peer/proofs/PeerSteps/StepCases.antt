-- The cases of a peer's step: what a call may come to, with what the tests have shown; a refused call leaves all and answers a number of its
-- call's list. It holds of every peer, also one that cannot be.
use Rattle.std.specs.Prelude.{Option, Some, None, Result, Ok, Err}
use Rattle.std.proofs.Common.{◌≡◌, ℕ, ◌+◌, ◌<◌, ◌≤◌, Bool, true, false, List, get_or, sym, refl, ap, ◌∙◌, subst, arith, ltb-false, leb-false}
use Rattle.protocol.specs.Reading.{packet_in, read_flags, read_lengths, read_of, read_sections, read_typed}
use Rattle.protocol.specs.Refusals.{bad_length, bad_slot, no_slot, overlaps, short_reply, number}
use Rattle.protocol.specs.Sections.{extent_of}
use Rattle.protocol.specs.Types.{admit, row_of, served_row}
use Rattle.protocol.specs.Values.{bytes_at}
use Rattle.protocol.specs.declared.table.TypeRow.{TypeRow}
use Rattle.protocol.specs.declared.types.Packet.{Packet}
use Rattle.protocol.specs.declared.refusals.Refusal.{Refusal}
use Rattle.wire.specs.LittleEndian.{le_at}
use Rattle.peer.specs.Calls.{Call, cancel, cancel_effect, cancel_slot, missing_in, packet, packet_effect, peer_step, placed, placed_in, post, post_effect, read_effect, report, report_effect, report_slot, overlaps_some}
use Rattle.peer.specs.Claims.{takes}
use Rattle.peer.specs.Effects.{Effect, accept, advance, begun, carry, in_slot, opened, quiet, refuse, truncated_at, with_phase}
use Rattle.peer.specs.Incomings.{incoming_of}
use Rattle.peer.specs.Judging.{judge}
use Rattle.peer.specs.Matching.{vacancy}
use Rattle.peer.specs.Refusing.{among, refusals_of}
use Rattle.peer.specs.State.{is_free, phase_at, slot_count}
use Rattle.peer.specs.declared.types.Answer.{Answer}
use Rattle.peer.specs.declared.types.Inbound.{Inbound}
use Rattle.peer.specs.declared.types.Peer.{Peer}
use Rattle.peer.specs.declared.types.Phase.{Phase}
use Rattle.peer.specs.declared.types.Receive.{Receive}
use Rattle.peer.specs.declared.types.Verdict.{Verdict}
use Rattle.laws.proofs.Choosing.{branch, clashing}
use Rattle.peer.proofs.PeerSteps.AnswerLaws.{settled_takes}
use Rattle.peer.proofs.Sentences.PacketsRead.{read_formed}
use Rattle.peer.proofs.PeerSteps.Verdicts.{Begins, Continues, CutOff, Judged, Listed, judged}
use Rattle.protocol.specs.declared.sections.Sections.{Sections}

-- the packet is read, and its reply buffer has room for a CTS
pub record Arrives (limit : ℕ) (bs : List ℕ) (room : ℕ) (q : Packet) : Type 0 where
  pub roomy : 24 ≤ room
  pub reads : read_of served_row limit bs ≡ Ok q

abbrev pub data_of : List ℕ → Packet → List ℕ
data_of bs q = bytes_at bs q.«data»

pub data StepCase (area limit : ℕ) (p : Peer) (ws : List ℕ) : Call → Effect → Type 0 where
  refused : (c : Call) (k : Refusal) → among (refusals_of c) (number k) ≡ true → StepCase area limit p ws c (refuse p ws k)
  posted : (r : Receive) (i : ℕ) → vacancy 0 p.slots ≡ Some i → r.start + r.capacity ≤ area → overlaps_some r p.slots ≡ false
      → StepCase area limit p ws (post r) (quiet (placed p r i) ws (Answer.Posted i))
  cancelled : (i : ℕ) → i < slot_count → is_free (phase_at p.slots i) ≡ false
      → StepCase area limit p ws (cancel i) (quiet (with_phase p i Phase.Free) ws (Answer.Cancelled i))
  reported : (i : ℕ) (o : Inbound) → phase_at p.slots i ≡ Phase.Open o → StepCase area limit p ws (report i) (quiet p ws (missing_in ws o))
  truncated : (bs : List ℕ) (room : ℕ) (q : Packet) → Arrives limit bs room q → (i : ℕ) → CutOff p (incoming_of q) i
      → StepCase area limit p ws (packet bs room) (truncated_at p ws i (incoming_of q))
  begins : (bs : List ℕ) (room : ℕ) (q : Packet) → Arrives limit bs room q → (i : ℕ) (r : Receive) → Begins p (incoming_of q) i r
      → StepCase area limit p ws (packet bs room) (in_slot (advance p) i (begun limit ws i r (incoming_of q) (data_of bs q)))
  continues : (bs : List ℕ) (room : ℕ) (q : Packet) → Arrives limit bs room q → (i : ℕ) (o : Inbound) → Continues p ws (incoming_of q) i o
      → StepCase area limit p ws (packet bs room) (in_slot p i (accept limit ws i o (incoming_of q).offset (data_of bs q)))

-- ---- the reader's refusals

abbrev ReadListed : Result Packet Refusal → Type 0
ReadListed (Err k) = Listed k
ReadListed (Ok q) = Unit {0}

read_listed : (which : TypeRow → Bool) (limit : ℕ) (bs : List ℕ) → ReadListed (read_of which limit bs)
unfolding read_of
read_listed which limit bs =
    branch ReadListed _ _ _ (λ x. refl) (λ x.
    branch ReadListed _ _ _ (λ x. refl) (λ x.
    branch ReadListed _ _ _ (λ x. typed (admit which (row_of (get_or bs 0 0)))) (λ x. refl)))
  where
    lengths : (r : TypeRow) (q : Packet) → ReadListed (read_lengths r q)
    lengths r q = unfold read_lengths in branch ReadListed _ _ _ (λ x. tt) (λ x. refl)

    sections : (r : TypeRow) (f : ℕ) (x : Option Sections) → ReadListed (read_sections r f bs x)
    sections r f None = unfold read_sections in refl
    sections r f (Some s) = unfold read_sections in lengths r (packet_in r f bs s)

    typed : (x : Option TypeRow) → ReadListed (read_typed x bs)
    typed None = unfold read_typed in refl
    typed (Some r) = unfold read_typed read_flags in branch ReadListed _ _ _ (λ x. sections r (le_at 2 bs 2) (extent_of r (le_at 2 bs 2) bs)) (λ x. refl)

-- ---- the step

module _ (area limit : ℕ) (p : Peer) (ws : List ℕ) where
  carried : (bs : List ℕ) (room : ℕ) (q : Packet) → Arrives limit bs room q → (d : Verdict) → Judged p ws (incoming_of q) d
      → StepCase area limit p ws (packet bs room) (carry limit p ws (incoming_of q) (data_of bs q) d)
  unfolding carry
  carried bs room q a (Verdict.Refuse k) j = refused (packet bs room) k j
  carried bs room q a (Verdict.Truncate i) j = truncated bs room q a i j
  carried bs room q a (Verdict.Begin i r) j = begins bs room q a i r j
  carried bs room q a (Verdict.More i o) j = continues bs room q a i o j

  pub step_case : (c : Call) → StepCase area limit p ws c (peer_step area limit p ws c)
  unfolding peer_step post_effect placed_in packet_effect read_effect cancel_effect cancel_slot report_effect report_slot
  step_case (post r) =
      branch (StepCase area limit p ws (post r)) _ _ _ (λ x. refused (post r) bad_length refl) (λ x.
      branch (StepCase area limit p ws (post r)) _ _ _ (λ y. refused (post r) overlaps refl) (λ y. place (vacancy 0 p.slots) refl (ltb-false area _ x) y))
    where
      place : (v : Option ℕ) → vacancy 0 p.slots ≡ v → r.start + r.capacity ≤ area → overlaps_some r p.slots ≡ false → StepCase area limit p ws (post r) (placed_in p ws r v)
      place None e x y = refused (post r) no_slot refl
      place (Some i) e x y = posted r i e x y
  step_case (packet bs room) =
      branch (StepCase area limit p ws (packet bs room)) _ _ _ (λ x. refused (packet bs room) short_reply refl) (λ x. read (read_of served_row limit bs) refl (ltb-false room 24 x))
    where
      read : (d : Result Packet Refusal) → read_of served_row limit bs ≡ d → 24 ≤ room → StepCase area limit p ws (packet bs room) (read_effect limit p ws bs d)
      read (Err k) e x = refused (packet bs room) k (subst ReadListed e (read_listed served_row limit bs))
      read (Ok q) e x =
          carried bs room q (record { roomy = x; reads = e }) (judge p ws (incoming_of q)) (judged p ws (incoming_of q) _ (read_formed limit bs q e))
  step_case (cancel i) =
      branch (StepCase area limit p ws (cancel i)) _ _ _ (λ x. refused (cancel i) bad_slot refl) (λ x. at (phase_at p.slots i) refl (leb-false slot_count i x))
    where
      at : (f : Phase) → phase_at p.slots i ≡ f → i < slot_count → StepCase area limit p ws (cancel i) (cancel_slot p ws i f)
      at Phase.Free e x = refused (cancel i) bad_slot refl
      at (Phase.Posted r a) e x = cancelled i x (ap is_free e)
      at (Phase.Open o) e x = cancelled i x (ap is_free e)
  step_case (report i) = branch (StepCase area limit p ws (report i)) _ _ _ (λ x. refused (report i) bad_slot refl) (λ x. at (phase_at p.slots i) refl)
    where
      at : (f : Phase) → phase_at p.slots i ≡ f → StepCase area limit p ws (report i) (report_slot p ws f)
      at Phase.Free e = refused (report i) bad_slot refl
      at (Phase.Posted r a) e = refused (report i) bad_slot refl
      at (Phase.Open o) e = reported i o e

-- ---- a refusal

-- f is a refusal only by leaving all, with a number that is listed
abbrev pub Refusing : Peer → List ℕ → List ℕ → Effect → Type 0
Refusing p ws numbers f = (k : Refusal) → f.answer ≡ Answer.Refused k → (f ≡ refuse p ws k) × (among numbers (number k) ≡ true)

pub step_refusing : (area limit : ℕ) (p : Peer) (ws : List ℕ) (c : Call) → Refusing p ws (refusals_of c) (peer_step area limit p ws c)
unfolding truncated_at begun accept
step_refusing area limit p ws c = go (step_case area limit p ws c)
  where
    go : {c : Call} {f : Effect} → StepCase area limit p ws c f → Refusing p ws (refusals_of c) f
    go (refused c m e) k x =
        let is : m ≡ k = cc in
        (ap (refuse p ws) is, ap (λ (n : Refusal). among (refusals_of c) (number n)) (sym is) ∙ e)
    go (posted r i e a w) k x = absurd (let z : ◌≡◌ {A = ℕ} 0 1 = cc in omega arith)
    go (cancelled i l u) k x = absurd (let z : ◌≡◌ {A = ℕ} 0 1 = cc in omega arith)
    go (reported i o e) k x = absurd (let z : ◌≡◌ {A = ℕ} 0 1 = cc in omega arith)
    go (truncated bs room q a i j) k x = absurd (let z : ◌≡◌ {A = ℕ} 0 1 = cc in omega arith)
    go (begins bs room q a i r b) k x = clashing _ (settled_takes limit i (opened r (incoming_of q)) _) (ap takes x)
    go (continues bs room q a i o j) k x = clashing _ (settled_takes limit i o _) (ap takes x)
