-- Messages are matched in message order, each to the receive that was posted first of those that it fits; a message is truncated exactly if
-- it is longer than that receive.
use Rattle.std.specs.Prelude.{Ok}
use Rattle.std.proofs.Common.{◌≡◌, ℕ, ◌<◌, ◌≤◌, true, List, sym, refl, ap, ◌∙◌, subst, subst₂, arith}
use mathlib.Core.Bool.{false≢true}
use Rattle.protocol.specs.Reading.{read_of}
use Rattle.protocol.specs.declared.types.Packet.{Packet}
use Rattle.protocol.specs.Types.{served_row}
use Rattle.peer.specs.Calls.{packet}
use Rattle.peer.specs.Claims.{HasRoom, InOrder, MatchedInOrder, TruncateClaim, TruncatedAboveCapacity, history}
use Rattle.peer.specs.Effects.{opened}
use Rattle.peer.specs.Expected.{expected}
use Rattle.peer.specs.Incomings.{incoming_of}
use Rattle.peer.specs.Matching.{ahead, fits}
use Rattle.peer.specs.Plain.{Plain, Target, waiting}
use Rattle.peer.specs.declared.types.Answer.{Answer}
use Rattle.peer.specs.declared.types.Inbound.{Inbound}
use Rattle.peer.specs.declared.types.Incoming.{Incoming}
use Rattle.peer.specs.declared.types.Receive.{Receive}
use Rattle.peer.proofs.PeerSteps.AnswerLaws.{claim_from}
use Rattle.peer.proofs.History.Facts.{Aims, AnswerFacts, Brings, Fitting, Taken, answer_facts, begins, goes_on, head_of, taken_by}

in_order : {l : Plain} {h : Incoming} {bytes : List ℕ} {t : Target} {o : Inbound} (q : Packet) → incoming_of q ≡ h → Aims l h bytes t o
    → t.matched ≡ true → InOrder l q t
in_order q e (goes_on i o g) x = absurd (false≢true x)
in_order {l} {h} q e (begins i r serial m) x =
    record {
      next = ap (λ (y : Incoming). ahead y.id l.next) e ∙ m.next;
      receive = r;
      waits = m.chosen.waits;
      fit = ap (λ (y : Incoming). fits y r) e ∙ m.chosen.fit;
      first = λ j s w f. omega (arith, m.chosen.number, m.chosen.first j s w (ap (λ (y : Incoming). fits y s) (sym e) ∙ f));
      opens = λ o y. let is : opened r h ≡ o = cc in ap (λ (z : Inbound). z.receive) (sym is);
    }

-- the packet that a call brings is the one that is read
module _ (limit : ℕ) (bs : List ℕ) (room : ℕ) (q : Packet) (e : read_of served_row limit bs ≡ Ok q) (b : Brings limit (packet bs room)) where
  same_head : incoming_of q ≡ head_of b
  same_head =
      let same : bs ≡ b.text = cc b.call in
      let read : q ≡ b.read = cc (b.reads, ap (read_of served_row limit) same) in
      ap incoming_of read

pub matched_in_order : MatchedInOrder
unfolding MatchedInOrder
matched_in_order area limit calls bs room q e x y =
    let l : Plain = history area limit calls in
    let w = taken_by (expected area limit l (packet bs room)) (answer_facts area limit l (packet bs room)) x in
    in_order q (same_head limit bs room q e w.brings) w.aims y

-- ---- truncated

-- the receive that is opened at a match is the one that waited
waited : {l : Plain} {h : Incoming} {bytes : List ℕ} {t : Target} {o : Inbound} (q : Packet) → incoming_of q ≡ h → Aims l h bytes t o
    → t.matched ≡ true → (i : InOrder l q t) → (o.receive ≡ i.receive) × (o.message.length ≡ h.length)
waited q e (goes_on j o g) x i = absurd (false≢true x)
waited q e (begins j r serial m) x i =
    let same : waiting r ≡ waiting i.receive = sym m.chosen.waits ∙ i.waits in
    (cc, refl)

module _ (limit : ℕ) (l : Plain) (bs : List ℕ) (room : ℕ) (q : Packet) (e : read_of served_row limit bs ≡ Ok q) (t : Target) where
  roomy : (w : Taken limit l (packet bs room) t) → Fitting t.matched w.message → HasRoom l q t
  roomy w f =
      record {
        roomy = λ m i.
            let head = same_head limit bs room q e w.brings in
            let (receive, size) = waited q head w.aims m i in
            subst₂ (λ (x y : ℕ). x ≤ y) (size ∙ ap (λ (h : Incoming). h.length) (sym head)) (ap (λ (r : Receive). r.capacity) receive) (f m);
      }

  claim : (a : Answer) → AnswerFacts limit l (packet bs room) t a → TruncateClaim l q t a
  claim a w =
      claim_from a (λ e u. tt) (λ e x. roomy x.taken x.fits) (λ n e x. roomy x.partly.taken x.partly.fits) (λ slot id n cq e x. roomy x.taken x.fits)
      (λ slot id n is x.
      let head = same_head limit bs room q e x.taken.brings in
      let order = in_order q head x.taken.aims x.matched in
      record {
        order = order;
        slot_is = x.slot_is;
        id_is = x.id_is ∙ ap (λ (h : Incoming). h.id) (sym head);
        length_is = x.length_is ∙ ap (λ (h : Incoming). h.length) (sym head);
        above = subst (λ (r : Receive). r.capacity < n) (waited q head x.taken.aims x.matched order).0 x.above;
      }) w

pub truncated_above_capacity : TruncatedAboveCapacity
unfolding TruncatedAboveCapacity
truncated_above_capacity area limit calls bs room q e =
    let l : Plain = history area limit calls in
    claim limit l bs room q e _ (expected area limit l (packet bs room)) (answer_facts area limit l (packet bs room))
