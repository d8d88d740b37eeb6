-- After every history a receive waits as it was posted, and an open message is the matching packet's: the statements of specs/Origins.antt.
use Rattle.std.specs.Prelude.{Ok}
use Rattle.std.proofs.Common.{◌≡◌, ℕ, zero, suc, ◌<◌, true, List, [], ◌∷◌, length, set, sym, refl, ap, ◌∙◌, subst, subst₂, ⊎_elim, arith, length-set, get_or-set_same}
use lib.ListN.{length-replicate}
use Rattle.laws.specs.Choose.{pick}
use Rattle.protocol.specs.Reading.{read_of}
use Rattle.protocol.specs.declared.types.Packet.{Packet}
use Rattle.protocol.specs.Types.{served_row}
use Rattle.peer.specs.Calls.{Call}
use Rattle.peer.specs.Claims.{history, plain_after, takes}
use Rattle.peer.specs.Effects.{opened}
use Rattle.peer.specs.Expected.{enter, expected, plain_step, target_of_call}
use Rattle.peer.specs.Incomings.{incoming_of, is_rtm}
use Rattle.peer.specs.Origins.{AcceptedFromOrigin, BegunBy, Comes, ComparedWithTheMatchingPacket, FromOrigin, OpenIsTheMatchingPackets, Origin, OriginClaim, no_origin, no_origins, note_origin, origin_at, origin_of_call, origins_from, origins_of}
use Rattle.peer.specs.Plain.{Entry, Plain, Role, Target, extended_role, fresh_plain, granted_entry, idle, no_entry, posted, put, receiving, settle, slot_entry, waiting}
use Rattle.peer.specs.State.{slot_count}
use Rattle.peer.specs.declared.types.Answer.{Answer}
use Rattle.peer.specs.declared.types.Inbound.{Inbound}
use Rattle.peer.specs.declared.types.Incoming.{Incoming}
use Rattle.peer.specs.declared.types.Receive.{Receive}
use Rattle.laws.proofs.Listing.{replicate_each, set_cases}
use Rattle.peer.proofs.Refusals.AnswersChecked.{rtm_of}
use Rattle.peer.proofs.PeerSteps.AnswerLaws.{claim_from}
use Rattle.peer.proofs.Sentences.BytesHold.{bytes_told, read_says_lem, told}
use Rattle.peer.proofs.History.Facts.{Aims, AnswerFacts, Entered, Taken, answer_facts, as_before, begins, entered, goes_on, taken_role, with_cancel, with_end, with_grant, with_post, with_segment}

-- ---- a packet that begins a message

-- the message that it begins has its numbers
pub begun_by : (limit : ℕ) (bs : List ℕ) (q : Packet) → read_of served_row limit bs ≡ Ok q → is_rtm (incoming_of q).shape ≡ true → (r : Receive)
    → BegunBy bs (opened r (incoming_of q)).message
begun_by limit bs q e rtm r =
    let says = read_says_lem limit bs q e in
    let place = bytes_told limit bs q e in
    record {
      kind = says.kind;
      id = says.id;
      size = says.length (rtm_of says rtm);
      tag = says.tag;
      long = λ x. let (id, size, offset, send, credit) = (told limit bs q e).long x in (send, credit);
      cq_data = unfold incoming_of in place.cq_data;
      no_cq_data = unfold incoming_of in place.no_cq_data;
    }

-- ---- the entries and their origins, slot by slot

abbrev pub Trace : Plain → List Origin → Type 0
Trace l gs = (length l.entries ≡ length gs) × ((j : ℕ) → FromOrigin (origin_at gs j) (slot_entry l.entries j).role)

-- an entry and its origin replaced
set_both : (es : List Entry) (gs : List Origin) (i : ℕ) (e : Entry) (g : Origin) → length es ≡ length gs → FromOrigin g e.role
    → ((j : ℕ) → FromOrigin (origin_at gs j) (slot_entry es j).role) → (j : ℕ) → FromOrigin (origin_at (set gs i g) j) (slot_entry (set es i e) j).role
set_both [] gs i e g n p f j = tt
set_both (x ∷ es) [] i e g n p f j = absurd (omega arith)
set_both (x ∷ es) (y ∷ gs) zero e g n p f zero = p
set_both (x ∷ es) (y ∷ gs) zero e g n p f (suc j) = f (suc j)
set_both (x ∷ es) (y ∷ gs) (suc i) e g n p f zero = f zero
set_both (x ∷ es) (y ∷ gs) (suc i) e g n p f (suc j) = set_both es gs i e g (omega arith) p (λ k. f (suc k)) j

-- an entry replaced, its origin kept
set_entry : (es : List Entry) (gs : List Origin) (i : ℕ) (e : Entry) → FromOrigin (origin_at gs i) e.role
    → ((j : ℕ) → FromOrigin (origin_at gs j) (slot_entry es j).role) → (j : ℕ) → FromOrigin (origin_at gs j) (slot_entry (set es i e) j).role
set_entry es gs i e p f j =
    ⊎_elim (λ w. subst₂ (λ (k : ℕ) (x : Entry). FromOrigin (origin_at gs k) x.role) (sym w.0) (sym w.1) p)
    (λ w. subst (λ (x : Entry). FromOrigin (origin_at gs j) x.role) (sym w) (f j))
    (set_cases es i e no_entry j)

-- a used entry stands among the entries
used_inside : (es : List Entry) (i : ℕ) → ((slot_entry es i).role ≡ idle → ⊥) → i < length es
used_inside [] i n = absurd (n refl)
used_inside (x ∷ es) zero n = omega arith
used_inside (x ∷ es) (suc i) n = let h = used_inside es i n in omega arith

-- ---- one call

-- a packet that is taken goes to the message of its entry, in the receive that was posted
module _ (limit : ℕ) (l : Plain) (gs : List Origin) (from : Trace l gs) where
  -- the origins after a packet is taken
  abbrev after : Target → List ℕ → List Origin
  after t bs = pick t.matched (set gs t.index (record { posted = (origin_at gs t.index).posted; rtm = bs })) gs

  -- a receive that waits has its origin
  there : (i : ℕ) (r : Receive) → (slot_entry l.entries i).role ≡ waiting r → i < length gs
  there i r e =
      subst (λ (n : ℕ). i < n) from.0
      (used_inside l.entries i (λ x. absurd (let y : waiting r ≡ idle = sym e ∙ x in let z : ◌≡◌ {A = ℕ} 0 1 = cc in omega arith)))

  -- of a packet that is taken: its entry's origin
  aimed : {bytes : List ℕ} (bs : List ℕ) (q : Packet) {t : Target} {o : Inbound} → read_of served_row limit bs ≡ Ok q → Aims l (incoming_of q) bytes t o
      → FromOrigin (origin_at (after t bs) t.index) (receiving o)
  unfolding pick
  aimed bs q e (goes_on i o g) = subst (FromOrigin (origin_at gs i)) g.role (from.1 i)
  aimed bs q e (begins i r serial m) =
      subst (λ (g : Origin). FromOrigin g (receiving (opened r (incoming_of q))))
      (sym (get_or-set_same gs i (record { posted = (origin_at gs i).posted; rtm = bs }) no_origin (there i r m.chosen.waits)))
      (subst (FromOrigin (origin_at gs i)) m.chosen.waits (from.1 i), begun_by limit bs q e m.rtm r)

  -- the entry is replaced by e, whose role is the target's or idle
  replaced : {h : Incoming} {bytes : List ℕ} {t : Target} {o : Inbound} (bs : List ℕ) (e : Entry) → Aims l h bytes t o
      → FromOrigin (origin_at (after t bs) t.index) e.role → Trace (settle l t e) (after t bs)
  unfolding pick
  replaced bs e (goes_on i o g) p = (length-set l.entries i e ∙ from.0, set_entry l.entries gs i e p from.1)
  replaced bs e (begins i r serial m) p =
      let g : Origin = record { posted = (origin_at gs i).posted; rtm = bs } in (
        length-set l.entries i e ∙ from.0 ∙ sym (length-set gs i g),
        set_both l.entries gs i e g from.0
            (subst (λ (x : Origin). FromOrigin x e.role) (get_or-set_same gs i g no_origin (there i r m.chosen.waits)) p) from.1,
      )

  -- a grant moves the granted end alone
  granted_on : (n : ℕ) (g : Origin) (u : Role) → FromOrigin g u → FromOrigin g (extended_role n u)
  granted_on n g idle p = p
  granted_on n g (waiting r) p = p
  granted_on n g (receiving o) p = (
    p.0,
    let b = p.1 in
        record { kind = b.kind; id = b.id; size = b.size; tag = b.tag; long = b.long; cq_data = b.cq_data; no_cq_data = b.no_cq_data },
  )

  module _ (c : Call) (t : Target) where
    -- the origins after an answer that takes the packet
    noted : (a : Answer) (w : Taken limit l c t) → takes a ≡ true → note_origin t gs c a ≡ after t w.brings.text
    unfolding pick
    noted a w e = ap (λ (d : Call). note_origin t gs d a) w.brings.call ∙ (rw e)

    taken_origin : (w : Taken limit l c t) → FromOrigin (origin_at (after t w.brings.text) t.index) (receiving w.message)
    taken_origin w = aimed w.brings.text w.brings.read w.brings.reads w.aims

    role_origin : (w : Taken limit l c t) → FromOrigin (origin_at (after t w.brings.text) t.index) t.entry.role
    role_origin w = subst (FromOrigin (origin_at (after t w.brings.text) t.index)) (sym (taken_role w)) (taken_origin w)

    -- entry e takes the place of the target's
    settled : (a : Answer) (w : Taken limit l c t) (e : Entry) → takes a ≡ true
        → FromOrigin (origin_at (after t w.brings.text) t.index) e.role → Trace (settle l t e) (note_origin t gs c a)
    settled a w e x p = subst (Trace (settle l t e)) (sym (noted a w x)) (replaced w.brings.text e w.aims p)

    comes : (a : Answer) → takes a ≡ true → Taken limit l c t → Comes (origin_at (note_origin t gs c a) t.index) t
    comes a e w =
        let same = subst (λ (os : List Origin). FromOrigin (origin_at os t.index) (receiving w.message)) (sym (noted a w e)) (taken_origin w) in
        record { message = w.message; role = taken_role w; receive = same.0; begun = same.1 }

    origin_claim : (a : Answer) → AnswerFacts limit l c t a → OriginClaim (origin_at (note_origin t gs c a) t.index) t a
    unfolding comes
    origin_claim a w =
        claim_from a (λ e u. tt) (λ e x. comes a (ap takes e) x.taken) (λ n e x. comes a (ap takes e) x.partly.taken)
        (λ slot id n cq e x.
        record { comes = comes a (ap takes e) x.taken; slot_is = x.slot_is; id_is = x.id_is; length_is = x.length_is; cq_is = x.cq_is })
        (λ slot id n e x. tt) w

  traced_on : {c : Call} {t : Target} {a : Answer} {l' : Plain} → Entered limit l c t a l' → Trace l' (note_origin t gs c a)
  traced_on (as_before t a e n) = subst (Trace l) (sym (n gs)) from
  traced_on (with_post t i r e) =
      subst (λ (d : Call). Trace (posted l i r) (note_origin t gs d (Answer.Posted i))) (sym e) (
        length-set l.entries i _ ∙ from.0 ∙ sym (length-set gs i _),
        set_both l.entries gs i _ (record { posted = r; rtm = [] }) from.0 refl from.1,
      )
  traced_on (with_cancel t i n) =
      subst (Trace (put l i no_entry)) (sym (n gs)) (length-set l.entries i no_entry ∙ from.0, set_entry l.entries gs i no_entry tt from.1)
  traced_on {c} (with_segment t w) = settled c t _ w.taken t.entry refl (role_origin c t w.taken)
  traced_on {c} (with_grant t n w) =
      settled c t _ w.partly.taken (granted_entry n t.entry) refl (granted_on n _ t.entry.role (role_origin c t w.partly.taken))
  traced_on {c} (with_end t a w e) = settled c t a w no_entry e tt

  pub call_traced : (area : ℕ) (c : Call) → Trace (enter limit l c (expected area limit l c)) (note_origin (target_of_call limit l c) gs c (expected area limit l c))
  call_traced area c = traced_on (entered area limit l c)

  pub call_claim : (area : ℕ) (c : Call)
      → OriginClaim (origin_of_call limit l gs c (expected area limit l c)) (target_of_call limit l c) (expected area limit l c)
  call_claim area c = origin_claim c (target_of_call limit l c) (expected area limit l c) (answer_facts area limit l c)

-- ---- a history

pub fresh_traced : Trace fresh_plain no_origins
fresh_traced = (
  length-replicate slot_count no_entry ∙ sym (length-replicate slot_count no_origin),
  λ j. subst (λ (e : Entry). FromOrigin (origin_at no_origins j) e.role) (sym (replicate_each slot_count no_entry j)) tt,
)

traced_from : (area limit : ℕ) (l : Plain) (gs : List Origin) (calls : List Call) → Trace l gs
    → Trace (plain_after area limit l calls) (origins_from area limit l gs calls)
unfolding plain_after origins_from
traced_from area limit l gs [] from = from
traced_from area limit l gs (c ∷ cs) from = traced_from area limit (plain_step area limit l c).after _ cs (call_traced limit l gs from area c)

pub traced : (area limit : ℕ) (calls : List Call) → Trace (history area limit calls) (origins_of area limit calls)
traced area limit calls = traced_from area limit fresh_plain no_origins calls fresh_traced

pub open_is_the_matching_packets : OpenIsTheMatchingPackets
unfolding OpenIsTheMatchingPackets
open_is_the_matching_packets area limit calls j = (traced area limit calls).1 j

pub compared_with_the_matching_packet : ComparedWithTheMatchingPacket
unfolding ComparedWithTheMatchingPacket
compared_with_the_matching_packet area limit calls j o bs e =
    let b : BegunBy (origin_at (origins_of area limit calls) j).rtm o.message = (subst (FromOrigin (origin_at (origins_of area limit calls) j)) e ((traced area limit calls).1 j)).1 in
    rw (b.kind, b.size, b.tag) (λ x. x, λ x. x)

pub accepted_from_origin : AcceptedFromOrigin
unfolding AcceptedFromOrigin
accepted_from_origin area limit calls c = call_claim limit (history area limit calls) (origins_of area limit calls) (traced area limit calls) area c
