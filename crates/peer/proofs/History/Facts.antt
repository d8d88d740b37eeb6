-- An answer taken apart: which packet a call brings, where its segment goes, what was tested on the way, and what is entered. One walk
-- through the tests of the plain receiver; and what every change of an entry keeps, every history keeps.
use Rattle.std.specs.Prelude.{Option, Result, Ok, Err}
use Rattle.std.proofs.Common.{◌≡◌, ℕ, ◌+◌, ◌<◌, ◌≤◌, Bool, true, false, ltb, leb, List, [], ◌∷◌, sym, refl, ◌∙◌, subst, arith, ltb-false, ltb-true}
use Rattle.std.specs.Prelude.{Option, Some, None}
use mathlib.Core.Bool.{false≢true}
use Rattle.bitmap.specs.Offsets.{some_of}
use Rattle.laws.specs.Choose.{pick}
use Rattle.protocol.specs.Reading.{read_of}
use Rattle.protocol.specs.Refusals.{bad_length, bad_slot, beyond_grant, differs, early, late, no_receive, no_slot, overlaps, repeated, short_reply}
use Rattle.protocol.specs.Values.{bytes_at}
use Rattle.protocol.specs.declared.types.Packet.{Packet}
use Rattle.protocol.specs.declared.refusals.Refusal.{Refusal}
use Rattle.protocol.specs.Types.{served_row}
use Rattle.peer.specs.Answers.{on_taken}
use Rattle.peer.specs.Calls.{Call, cancel, packet, post, report}
use Rattle.peer.specs.Claims.{history, plain_after, takes}
use Rattle.peer.specs.Coverage.{all_of, covers}
use Rattle.peer.specs.Effects.{grant_of, opened}
use Rattle.peer.specs.Expected.{Ruling, accepting, any_overlap, enter, expect_again, expect_cancel, expect_data, expect_fit, expect_found, expect_more, expect_new, expect_packet, expect_place, expect_post, expect_read, expect_report, expect_taken, expected, lowest_idle, refusing, target_of_call}
use Rattle.peer.specs.Sentences.{FoundIsTheLowestOpen}
use Rattle.peer.specs.Incomings.{incoming_of, is_long, is_rtm}
use Rattle.peer.specs.Matching.{ahead, same_message}
use Rattle.peer.specs.Origins.{Origin, note_origin}
use Rattle.peer.specs.Plain.{Entry, Plain, Role, Target, begun_at, enter_at, first_posted, fresh_plain, granted_entry, idle, more_at, no_entry, nowhere, open_in, posted, put, receiving, roles, segment_of, settle, slot_entry, waiting}
use Rattle.peer.specs.State.{slot_count}
use Rattle.peer.specs.declared.types.Answer.{Answer}
use Rattle.peer.specs.declared.types.Inbound.{Inbound}
use Rattle.peer.specs.declared.types.Incoming.{Incoming}
use Rattle.peer.specs.declared.types.Receive.{Receive}
use Rattle.laws.proofs.Choosing.{and_left, and_right, branch}
use Rattle.laws.proofs.Listing.{replicate_each, set_each}
use Rattle.peer.proofs.PeerSteps.AnswerLaws.{claim_from, claim_taken}
use Rattle.peer.proofs.Plain.EntrySearch.{Foremost, foremost}
use Rattle.peer.proofs.Plain.Roles.{role_of_entry}
use Rattle.peer.proofs.PeerSteps.Verdicts.{medium_only}
use Rattle.peer.proofs.Sentences.SentencesHold.{found_is_the_lowest_open}

-- the call brings a packet that is read
pub record Brings (limit : ℕ) (c : Call) : Type 0 where
  pub text : List ℕ
  pub room : ℕ
  pub read : Packet
  pub call : c ≡ packet text room
  pub reads : read_of served_row limit text ≡ Ok read

abbrev pub head_of : {limit : ℕ} {c : Call} → Brings limit c → Incoming
head_of b = incoming_of b.read

abbrev pub bytes_of : {limit : ℕ} {c : Call} → Brings limit c → List ℕ
bytes_of b = bytes_at b.text b.read.«data»

-- ---- where a segment goes

-- the message o that is open under the packet's id, in entry i, or none is
abbrev pub Open : Plain → Incoming → ℕ → Inbound → Type 0
Open l h i o = open_in h.id 0 (roles l.entries) ≡ Some (i, o)

abbrev pub Unopened : Plain → Incoming → Type 0
Unopened l h = open_in h.id 0 (roles l.entries) ≡ None

-- a segment of the open message o: one more RTM of it, or CTSDATA that was granted
pub data Belongs (h : Incoming) (o : Inbound) : Type 0 where
  again : is_rtm h.shape ≡ true → same_message o.message h ≡ true → Belongs h o
  granted : is_rtm h.shape ≡ false → is_long o.message.shape ≡ true → h.offset + h.size ≤ o.message.granted → Belongs h o

-- to the message o that is open in entry i, of which it brings bytes that are not in yet
pub record Goes (l : Plain) (h : Incoming) (i : ℕ) (o : Inbound) : Type 0 where
  pub found : Open l h i o
  pub role : (slot_entry l.entries i).role ≡ receiving o
  pub belongs : Belongs h o
  pub new : some_of (covers (slot_entry l.entries i).segments) h.offset h.size ≡ false

pub in_grant_lem : {h : Incoming} {o : Inbound} → Belongs h o → is_long o.message.shape ≡ true → h.offset + h.size ≤ o.message.granted
in_grant_lem {h} {o} (again r s) long = absurd (medium_only o.message h s long)
in_grant_lem (granted d l g) long = g

-- to the receive r that waits in entry i
pub record Matches (l : Plain) (h : Incoming) (i : ℕ) (r : Receive) (serial : ℕ) : Type 0 where
  pub unopened : Unopened l h
  pub rtm : is_rtm h.shape ≡ true
  pub next : ahead h.id l.next ≡ 0
  pub chosen : Foremost h l.entries i r serial

-- the target, and its message
pub data Aims (l : Plain) (h : Incoming) (bytes : List ℕ) : Target → Inbound → Type 0 where
  goes_on : (i : ℕ) (o : Inbound) → Goes l h i o
      → Aims l h bytes (more_at l i (segment_of h bytes)) o
  begins : (i : ℕ) (r : Receive) (serial : ℕ) → Matches l h i r serial
      → Aims l h bytes (begun_at h i r serial (segment_of h bytes)) (opened r h)

pub record Taken (limit : ℕ) (l : Plain) (c : Call) (t : Target) : Type 0 where
  pub brings : Brings limit c
  pub message : Inbound
  pub aims : Aims l (head_of brings) (bytes_of brings) t message

pub taken_role : {limit : ℕ} {l : Plain} {c : Call} {t : Target} (w : Taken limit l c t) → t.entry.role ≡ receiving w.message
taken_role w = go w.aims
  where
    go : {l : Plain} {h : Incoming} {bytes : List ℕ} {t : Target} {o : Inbound} → Aims l h bytes t o → t.entry.role ≡ receiving o
    go (goes_on i o g) = g.role
    go (begins i r serial m) = refl

-- one message in one role
pub same_message_lem : {u : Role} {o m : Inbound} → u ≡ receiving o → u ≡ receiving m → o ≡ m
same_message_lem e f = cc

-- ---- what an answer says

-- a message that is matched now is no longer than its receive
abbrev pub Fitting : Bool → Inbound → Type 0
Fitting matched o = matched ≡ true → o.message.length ≤ o.receive.capacity

-- bytes are missing
pub record Partly (limit : ℕ) (l : Plain) (c : Call) (t : Target) : Type 0 where
  pub taken : Taken limit l c t
  pub covered : all_of (covers t.entry.segments) 0 taken.message.message.length ≡ false
  pub fits : Fitting t.matched taken.message

-- the message is longer than the receive that it fits
pub record Cut (limit : ℕ) (l : Plain) (c : Call) (t : Target) (slot id n : ℕ) : Type 0 where
  pub taken : Taken limit l c t
  pub matched : t.matched ≡ true
  pub slot_is : slot ≡ t.index
  pub id_is : id ≡ (head_of taken.brings).id
  pub length_is : n ≡ (head_of taken.brings).length
  pub above : taken.message.receive.capacity < n

pub record GrantFacts (limit : ℕ) (l : Plain) (c : Call) (t : Target) (n : ℕ) : Type 0 where
  pub partly : Partly limit l c t
  pub long : is_long partly.taken.message.message.shape ≡ true
  pub amount : n ≡ grant_of limit partly.taken.message.message
  pub short : partly.taken.message.message.granted < partly.taken.message.message.length

pub record Wholly (limit : ℕ) (l : Plain) (c : Call) (t : Target) (slot id n : ℕ) (cq : Option ℕ) : Type 0 where
  pub taken : Taken limit l c t
  pub covered : all_of (covers t.entry.segments) 0 taken.message.message.length ≡ true
  pub slot_is : slot ≡ t.index
  pub id_is : id ≡ taken.message.message.id
  pub length_is : n ≡ taken.message.message.length
  pub cq_is : cq ≡ taken.message.message.cq_data
  pub fits : Fitting t.matched taken.message

abbrev pub AnswerFacts : ℕ → Plain → Call → Target → Answer → Type 0
AnswerFacts limit l c t a =
    on_taken (Unit {0}) (Partly limit l c t) (GrantFacts limit l c t) (Wholly limit l c t) (Cut limit l c t) a

-- an answer that takes the packet
pub taken_by : {limit : ℕ} {l : Plain} {c : Call} {t : Target} (a : Answer) → AnswerFacts limit l c t a → takes a ≡ true → Taken limit l c t
taken_by a w e = claim_taken a (claim_from a (λ e u. tt) (λ e x. x.taken) (λ n e x. x.partly.taken) (λ i id n cq e x. x.taken) (λ i id n e x. x.taken) w) e

-- ---- what a call enters

-- the plain receiver after a call with target t and answer a
pub data Entered (limit : ℕ) (l : Plain) (c : Call) : Target → Answer → Plain → Type 0 where
  as_before : (t : Target) (a : Answer) → takes a ≡ false → ((gs : List Origin) → note_origin t gs c a ≡ gs) → Entered limit l c t a l
  with_post : (t : Target) (i : ℕ) (r : Receive) → c ≡ post r → Entered limit l c t (Answer.Posted i) (posted l i r)
  with_cancel : (t : Target) (i : ℕ) → ((gs : List Origin) → note_origin t gs c (Answer.Cancelled i) ≡ gs) → Entered limit l c t (Answer.Cancelled i) (put l i no_entry)
  with_segment : (t : Target) → Partly limit l c t → Entered limit l c t Answer.Stored (settle l t t.entry)
  with_grant : (t : Target) (n : ℕ) → GrantFacts limit l c t n → Entered limit l c t (Answer.Granted n) (settle l t (granted_entry n t.entry))
  with_end : (t : Target) (a : Answer) → Taken limit l c t → takes a ≡ true → Entered limit l c t a (settle l t no_entry)

abbrev Walked : ℕ → Plain → Call → Target → Answer → Type 0
Walked limit l c t a = AnswerFacts limit l c t a × Entered limit l c t a (enter_at l c t a)

-- a refusal enters nothing
refused_walked : (limit : ℕ) (l : Plain) (c : Call) (k : Refusal) → Walked limit l c nowhere (Answer.Refused k)
unfolding pick
refused_walked limit l (post r) k = (tt, as_before nowhere _ refl (λ gs. refl))
refused_walked limit l (packet bs room) k = (tt, as_before nowhere _ refl (λ gs. refl))
refused_walked limit l (cancel i) k = (tt, as_before nowhere _ refl (λ gs. refl))
refused_walked limit l (report i) k = (tt, as_before nowhere _ refl (λ gs. refl))

-- ---- the tests of a packet, one after the other

-- why it is refused
pub data Reason (l : Plain) (h : Incoming) : Refusal → Type 0 where
  differing : (i : ℕ) (o : Inbound) → Open l h i o → is_rtm h.shape ≡ true → same_message o.message h ≡ false → Reason l h differs
  repeating : (i : ℕ) (o : Inbound) → Open l h i o → Belongs h o → some_of (covers (slot_entry l.entries i).segments) h.offset h.size ≡ true
      → Reason l h repeated
  beyond : (i : ℕ) (o : Inbound) → Open l h i o → is_rtm h.shape ≡ false → is_long o.message.shape ≡ true
      → o.message.granted < h.offset + h.size → Reason l h beyond_grant
  not_long : (i : ℕ) (o : Inbound) → Open l h i o → is_rtm h.shape ≡ false → is_long o.message.shape ≡ false → Reason l h late
  not_open : Unopened l h → is_rtm h.shape ≡ false → Reason l h late
  behind : Unopened l h → is_rtm h.shape ≡ true → 2147483648 ≤ ahead h.id l.next → Reason l h late
  too_soon : Unopened l h → is_rtm h.shape ≡ true → ahead h.id l.next < 2147483648 → 1 ≤ ahead h.id l.next → Reason l h early
  unmatched : Unopened l h → is_rtm h.shape ≡ true → ahead h.id l.next ≡ 0 → first_posted h 0 None l.entries ≡ None
      → Reason l h no_receive

-- what a packet comes to
pub data Ruled (limit : ℕ) (l : Plain) (h : Incoming) (body : List ℕ) : Ruling → Type 0 where
  refusal : (k : Refusal) → Reason l h k → Ruled limit l h body (refusing k)
  cut_off : (i : ℕ) (r : Receive) (serial : ℕ) → Matches l h i r serial → r.capacity < h.length
      → Ruled limit l h body (record { target = begun_at h i r serial (segment_of h body); answer = Answer.Truncated i h.id h.length })
  accepted : (t : Target) (o : Inbound) → Aims l h body t o → Fitting t.matched o → Ruled limit l h body (accepting limit o t)

module _ (limit : ℕ) (l : Plain) (h : Incoming) (body : List ℕ) where
  abbrev R : Ruling → Type 0
  R = Ruled limit l h body

  more : (i : ℕ) (o : Inbound) → Open l h i o → Belongs h o → R (expect_more limit l h body i o)
  unfolding expect_more FoundIsTheLowestOpen
  more i o e b =
      let role : (slot_entry l.entries i).role ≡ receiving o =
      sym (role_of_entry l.entries i) ∙ ((found_is_the_lowest_open (roles l.entries) h.id i o).0 e).0.0 in
      branch R (some_of (covers (slot_entry l.entries i).segments) h.offset h.size) _ _ (λ x. refusal repeated (repeating i o e b x))
      (λ x. accepted _ o (goes_on i o (record { found = e; role = role; belongs = b; new = x })) (λ y. absurd (false≢true y)))

  further : (i : ℕ) (o : Inbound) → Open l h i o → is_rtm h.shape ≡ true → R (expect_again limit l h body i o)
  unfolding expect_again
  further i o e r = branch R _ _ _ (λ x. more i o e (again r x)) (λ x. refusal differs (differing i o e r x))

  cts_data : (i : ℕ) (o : Inbound) → Open l h i o → is_rtm h.shape ≡ false → R (expect_data limit l h body i o)
  unfolding expect_data
  cts_data i o e d =
      branch R _ _ _
      (λ long. branch R (ltb o.message.granted (h.offset + h.size)) _ _ (λ x. refusal beyond_grant (beyond i o e d long (ltb-true _ _ x)))
      (λ x. more i o e (granted d long (ltb-false _ _ x))))
      (λ x. refusal late (not_long i o e d x))

  fitted : (f : Option (ℕ × Receive × ℕ)) → first_posted h 0 None l.entries ≡ f → Unopened l h → is_rtm h.shape ≡ true → ahead h.id l.next ≡ 0
      → R (expect_fit limit h body f)
  unfolding expect_fit
  fitted None e n rtm next = refusal no_receive (unmatched n rtm next e)
  fitted (Some (i, r, serial)) e n rtm next =
      let m : Matches l h i r serial = record { unopened = n; rtm = rtm; next = next; chosen = foremost h l.entries i r serial e } in
      branch R (ltb r.capacity h.length) _ _ (λ x. cut_off i r serial m (ltb-true _ _ x))
      (λ x. accepted _ _ (begins i r serial m) (λ y. ltb-false r.capacity h.length x))

  fresh : Unopened l h → is_rtm h.shape ≡ true → R (expect_new limit l h body)
  unfolding expect_new
  fresh n rtm =
      branch R (ltb 2147483647 (ahead h.id l.next)) _ _ (λ x. refusal late (behind n rtm (ltb-true _ _ x))) (λ x.
      branch R (ltb 0 (ahead h.id l.next)) _ _
      (λ y. refusal early (too_soon n rtm (omega (arith, ltb-false 2147483647 (ahead h.id l.next) x)) (ltb-true _ _ y)))
      (λ y. fitted _ refl n rtm (omega (arith, ltb-false 0 (ahead h.id l.next) y))))

  ruled_found : (f : Option (ℕ × Inbound)) → open_in h.id 0 (roles l.entries) ≡ f → R (expect_found limit l h body f)
  unfolding expect_found
  ruled_found (Some (i, o)) e = branch R _ _ _ (λ x. further i o e x) (λ x. cts_data i o e x)
  ruled_found None e = branch R _ _ _ (λ x. fresh e x) (λ x. refusal late (not_open e x))

  pub ruled : Ruled limit l h body (expect_found limit l h body (open_in h.id 0 (roles l.entries)))
  ruled = ruled_found (open_in h.id 0 (roles l.entries)) refl

-- a packet that is read
module _ (limit : ℕ) (l : Plain) (bs : List ℕ) (room : ℕ) (q : Packet) (reads : read_of served_row limit bs ≡ Ok q) where
  abbrev b : Brings limit (packet bs room)
  b = record { text = bs; room = room; read = q; call = refl; reads = reads }

  taken_walked : (t : Target) (o : Inbound) → Aims l (head_of b) (bytes_of b) t o → Fitting t.matched o
      → Walked limit l (packet bs room) t (expect_taken limit t.index o t.entry.segments)
  unfolding expect_taken
  taken_walked t o a f =
      let w : Taken limit l (packet bs room) t = record { brings = b; message = o; aims = a } in
      branch (Walked limit l (packet bs room) t) _ _ _
      (λ x. (record { taken = w; covered = x; slot_is = refl; id_is = refl; length_is = refl; cq_is = refl; fits = f }, with_end t _ w refl))
      (λ x.
      let p : Partly limit l (packet bs room) t = record { taken = w; covered = x; fits = f } in
      branch (Walked limit l (packet bs room) t) _ (Answer.Granted (grant_of limit o.message)) Answer.Stored
      (λ y.
      let g : GrantFacts limit l (packet bs room) t (grant_of limit o.message) = record {
        partly = p;
        long = and_left (is_long o.message.shape) _ y;
        amount = refl;
        short = ltb-true _ _ (and_right (all_of (covers t.entry.segments) 0 o.message.granted) _ (and_right (is_long o.message.shape) _ y));
      } in
      (g, with_grant t _ g))
      (λ y. (p, with_segment t p)))

  ruled_walked : {x : Ruling} → Ruled limit l (head_of b) (bytes_of b) x → Walked limit l (packet bs room) x.target x.answer
  ruled_walked (refusal k r) = refused_walked limit l (packet bs room) k
  ruled_walked (cut_off i r serial m above) =
      let w : Taken limit l (packet bs room) (begun_at (head_of b) i r serial (segment_of (head_of b) (bytes_of b))) =
      record { brings = b; message = opened r (head_of b); aims = begins i r serial m } in
      (record { taken = w; matched = refl; slot_is = refl; id_is = refl; length_is = refl; above = above }, with_end _ _ w refl)
  ruled_walked (accepted t o a f) = taken_walked t o a f

-- ---- every call

walked : (area limit : ℕ) (l : Plain) (c : Call) → Walked limit l c (target_of_call limit l c) (expected area limit l c)
unfolding target_of_call expected expect_post expect_packet expect_read
walked area limit l (post r) =
    branch P (ltb area (r.start + r.capacity)) _ _ (λ x. refused_walked limit l (post r) bad_length) (λ x.
    branch P (any_overlap r (roles l.entries)) _ _ (λ y. refused_walked limit l (post r) overlaps) (λ y. go (lowest_idle 0 (roles l.entries))))
  where
    P : Answer → Type 0
    P = Walked limit l (post r) nowhere

    go : (v : Option ℕ) → P (expect_place v)
    go None = refused_walked limit l (post r) no_slot
    go (Some i) = (tt, with_post nowhere i r refl)
walked area limit l (packet bs room) =
    branch (λ (x : Ruling). Walked limit l (packet bs room) x.target x.answer) (ltb room 24) _ _
    (λ x. refused_walked limit l (packet bs room) short_reply) (λ x. go (read_of served_row limit bs) refl)
  where
    go : (x : Result Packet Refusal) → read_of served_row limit bs ≡ x → Walked limit l (packet bs room) (expect_read limit l bs x).target (expect_read limit l bs x).answer
    go (Err k) e = refused_walked limit l (packet bs room) k
    go (Ok q) e = ruled_walked limit l bs room q e (ruled limit l (incoming_of q) (bytes_at bs q.«data»))
walked area limit l (cancel i) =
    branch (Walked limit l (cancel i) nowhere) (leb slot_count i) _ _ (λ x. refused_walked limit l (cancel i) bad_slot) (λ x. go (slot_entry l.entries i).role)
  where
    go : (u : Role) → Walked limit l (cancel i) nowhere (expect_cancel i u)
    go idle = refused_walked limit l (cancel i) bad_slot
    go (waiting r) = (tt, with_cancel nowhere i (λ gs. refl))
    go (receiving o) = (tt, with_cancel nowhere i (λ gs. refl))
walked area limit l (report i) =
    branch (Walked limit l (report i) nowhere) (leb slot_count i) _ _ (λ x. refused_walked limit l (report i) bad_slot) (λ x. go (slot_entry l.entries i).role)
  where
    go : (u : Role) → Walked limit l (report i) nowhere (expect_report (slot_entry l.entries i).segments u)
    go idle = refused_walked limit l (report i) bad_slot
    go (waiting r) = refused_walked limit l (report i) bad_slot
    go (receiving o) = (tt, as_before nowhere _ refl (λ gs. refl))

pub answer_facts : (area limit : ℕ) (l : Plain) (c : Call) → AnswerFacts limit l c (target_of_call limit l c) (expected area limit l c)
answer_facts area limit l c = (walked area limit l c).0

pub entered : (area limit : ℕ) (l : Plain) (c : Call)
    → Entered limit l c (target_of_call limit l c) (expected area limit l c) (enter limit l c (expected area limit l c))
unfolding enter
entered area limit l c = (walked area limit l c).1

-- ---- what holds of every entry

abbrev pub Every : (Entry → Type 0) → Plain → Type 0
Every P l = (j : ℕ) → P (slot_entry l.entries j)

-- an entry's property that each change of an entry keeps
pub record Lasting (limit : ℕ) (P : Entry → Type 0) : Type 0 where
  pub unused : P no_entry
  pub waits : (r : Receive) (serial : ℕ) → P (record { role = waiting r; serial = serial; segments = []; rtm = 0; grants = [] })
  pub takes_in : (l : Plain) (c : Call) (t : Target) → Every P l → Taken limit l c t → P t.entry
  pub grants : (l : Plain) (c : Call) (t : Target) (n : ℕ) → GrantFacts limit l c t n → P t.entry → P (granted_entry n t.entry)

module _ (area limit : ℕ) (P : Entry → Type 0) (p : Lasting limit P) where
  step : (l : Plain) (c : Call) (t : Target) (a : Answer) (l' : Plain) → Every P l → Entered limit l c t a l' → Every P l'
  step l c _ _ _ f (as_before t a e u) = f
  step l c _ _ _ f (with_post t i r e) = set_each P l.entries i _ no_entry (p.waits r l.posts) f
  step l c _ _ _ f (with_cancel t i u) = set_each P l.entries i no_entry no_entry p.unused f
  step l c _ _ _ f (with_segment t w) = set_each P l.entries t.index t.entry no_entry (p.takes_in l c t f w.taken) f
  step l c _ _ _ f (with_grant t n w) =
      set_each P l.entries t.index (granted_entry n t.entry) no_entry (p.grants l c t n w (p.takes_in l c t f w.partly.taken)) f
  step l c _ _ _ f (with_end t a w k) = set_each P l.entries t.index no_entry no_entry p.unused f

  after : (l : Plain) (calls : List Call) → Every P l → Every P (plain_after area limit l calls)
  unfolding plain_after
  after l [] f = f
  after l (c ∷ cs) f = after (enter limit l c (expected area limit l c)) cs (step l c _ _ _ f (entered area limit l c))

  pub every_entry : (calls : List Call) → Every P (history area limit calls)
  every_entry calls = after fresh_plain calls (λ j. subst P (sym (replicate_each slot_count no_entry j)) p.unused)
