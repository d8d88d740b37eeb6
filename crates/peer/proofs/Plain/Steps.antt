-- One step of the peer and of the plain receiver: the same answer, and they go on agreeing.
use Rattle.std.proofs.Common.{◌≡◌, ℕ, zero, suc, ◌+◌, ◌*◌, ◌<◌, ◌≤◌, true, ltb, List, [], length, set, replicate, sym, refl, ap, ◌∙◌, subst, ap₂, inr, arith, get_or-set_other, get_or-set_same, le-ltb, lt-ltb}
use native.Mathlib.Decide.{ℕ_discrete}
use Rattle.protocol.specs.declared.refusals.Refusal.{Refusal}
use Rattle.bitmap.specs.Map.{cleared, marked}
use Rattle.peer.specs.Calls.{Call, cancel, count_older, count_posted, packet, peer_step, placed, post, renumbered, renumbered_phase, report}
use Rattle.peer.specs.Effects.{Effect, accept, advance, begun, opened, progress_of, truncated_at}
use Rattle.peer.specs.Expected.{enter, expected}
use Rattle.peer.specs.Incomings.{incoming_of}
use Rattle.peer.specs.Plain.{Entry, Plain, Target, begun_at, enter_at, fresh_plain, more_at, next_after, no_entry, nowhere, segment_of, slot_entry, waiting}
use Rattle.peer.specs.State.{clash, free_slot, fresh_peer, is_free, phase_at, phase_fits, slot_count, slot_with}
use Rattle.peer.specs.declared.types.Answer.{Answer}
use Rattle.peer.specs.declared.types.Inbound.{Inbound}
use Rattle.peer.specs.declared.types.Incoming.{Incoming}
use Rattle.peer.specs.declared.types.Peer.{Peer}
use Rattle.peer.specs.declared.types.Phase.{Phase}
use Rattle.peer.specs.declared.types.Receive.{Receive}
use Rattle.peer.specs.declared.types.Slot.{Slot}
use Rattle.laws.proofs.Choosing.{pick_false, pick_true}
use Rattle.peer.proofs.Plain.Entered.{agrees_kept, agrees_set, begun_taken, freed, more_taken, settled_agrees}
use Rattle.peer.proofs.Slots.Ages.{length_renumbered, older_below, order_kept, phase_renumbered}
use Rattle.peer.proofs.Plain.Agreement.{Agrees, Held, Meets, alike_same, begins, cancelled, continues, meets, mirrors, posted, refused, reported, truncated}
use Rattle.peer.proofs.Plain.CoverageLaws.{Wrote}
use Rattle.peer.proofs.Sentences.PacketsRead.{read_formed}
use Rattle.peer.proofs.Plain.Roles.{role_lengths, roles_renumbered, roles_set}
use Rattle.peer.proofs.Slots.Slots.{phase_other, phase_same, used_slot, vacant}
use Rattle.peer.proofs.PeerSteps.StepCases.{data_of}
use Rattle.peer.proofs.Slots.Valid.{Valid}
use Rattle.peer.proofs.PeerSteps.Verdicts.{chosen_at}

-- ---- a receive is posted

module _ (p : Peer) (ws : List ℕ) (mem : ℕ → ℕ) (l : Plain) (r : Receive) (i : ℕ) (a : Agrees p ws mem l) (in_slots : i < length p.slots) where
  ss : List Slot
  ss = set (renumbered p.slots p.slots) i (slot_with (Phase.Posted r (count_posted p.slots)))

  e : Entry
  e = record { role = waiting r; serial = l.posts; segments = []; rtm = 0; grants = [] }

  es : List Entry
  es = set l.entries i e

  here : (j : ℕ) → j ≡ i → (phase_at ss j ≡ Phase.Posted r (count_posted p.slots)) × ((slot_entry es j).serial ≡ l.posts)
  unfolding ss es e
  here j x = (
    ap (phase_at (set (renumbered p.slots p.slots) i (slot_with (Phase.Posted r (count_posted p.slots))))) x
        ∙ phase_same (renumbered p.slots p.slots) i (Phase.Posted r (count_posted p.slots)) (omega (arith, in_slots, length_renumbered p.slots p.slots)),
    ap (λ (k : ℕ). (slot_entry es k).serial) x
        ∙ ap (λ (y : Entry). y.serial) (get_or-set_same l.entries i e no_entry (omega (arith, in_slots, role_lengths p.slots l.entries a.same))),
  )

  there : (j : ℕ) → (j ≡ i → ⊥) → (phase_at ss j ≡ renumbered_phase p.slots (phase_at p.slots j)) × (slot_entry es j ≡ slot_entry l.entries j)
  unfolding ss es
  there j x = (
    phase_other (renumbered p.slots p.slots) i j (Phase.Posted r (count_posted p.slots)) x ∙ phase_renumbered p.slots p.slots j,
    get_or-set_other l.entries i j e no_entry x,
  )

  -- a posted receive other than the new one was there, with another age
  was_posted : (f : Phase) (s : Receive) (b : ℕ) → renumbered_phase p.slots f ≡ Phase.Posted s b
      → (c : ℕ) × (f ≡ Phase.Posted s c) × (b ≡ count_older c p.slots)
  was_posted Phase.Free s b x = absurd (let z : ◌≡◌ {A = ℕ} 0 1 = cc in omega arith)
  was_posted (Phase.Open o) s b x = absurd (let z : ◌≡◌ {A = ℕ} 0 1 = cc in omega arith)
  was_posted (Phase.Posted q c) s b x =
      let is : q ≡ s = cc in
      let age : b ≡ count_older c p.slots = cc in
      (c, ap (λ (y : Receive). Phase.Posted y c) is, age)

  was_open : (f : Phase) (o : Inbound) → renumbered_phase p.slots f ≡ Phase.Open o → f ≡ Phase.Open o
  was_open Phase.Free o x = x
  was_open (Phase.Open q) o x = x
  was_open (Phase.Posted q c) o x = absurd (let z : ◌≡◌ {A = ℕ} 0 1 = cc in omega arith)

  in_slots_lem : (j : ℕ) (s : Receive) (c : ℕ) → phase_at p.slots j ≡ Phase.Posted s c → j < length p.slots
  in_slots_lem j s c x = used_slot p.slots j (ap is_free x)

  -- the age and the number of posts before of a posted receive
  data Dated (j : ℕ) (b : ℕ) : Type 0 where
    now : j ≡ i → b ≡ count_posted p.slots → (slot_entry es j).serial ≡ l.posts → Dated j b
    before : (s : Receive) (c : ℕ) → phase_at p.slots j ≡ Phase.Posted s c → b ≡ count_older c p.slots → (slot_entry es j).serial ≡ (slot_entry l.entries j).serial → Dated j b

  dated : (j : ℕ) (s : Receive) (b : ℕ) → phase_at ss j ≡ Phase.Posted s b → Dated j b
  dated j s b x = go (ℕ_discrete j i)
    where
      go : Dec (j ≡ i) → Dated j b
      go (yes y) = now y (let k : Phase.Posted r (count_posted p.slots) ≡ Phase.Posted s b = sym (here j y).0 ∙ x in cc) (here j y).1
      go (no y) =
          let w = was_posted (phase_at p.slots j) s b (sym (there j y).0 ∙ x) in
          before s w.0 w.1 w.2 (ap (λ (z : Entry). z.serial) (there j y).1)

  order : (j k b d : ℕ) → Dated j b → Dated k d → ltb b d ≡ ltb (slot_entry es j).serial (slot_entry es k).serial
  order j k b d (now x y z) (now x' y' z') = le-ltb b d (omega arith) ∙ sym (le-ltb (slot_entry es j).serial (slot_entry es k).serial (omega arith))
  order j k b d (now x y z) (before s c x' y' z') =
      le-ltb b d (omega (arith, older_below p.slots k s c (in_slots_lem k s c x') x'))
      ∙ sym (le-ltb (slot_entry es j).serial (slot_entry es k).serial (omega (arith, a.past k s c x')))
  order j k b d (before s c x y z) (now x' y' z') =
      lt-ltb b d (omega (arith, older_below p.slots j s c (in_slots_lem j s c x) x))
      ∙ sym (lt-ltb (slot_entry es j).serial (slot_entry es k).serial (omega (arith, a.past j s c x)))
  order j k b d (before s c x y z) (before s' c' x' y' z') =
      ap₂ ltb y y' ∙ order_kept p.slots j k s s' c c' (in_slots_lem j s c x) x ∙ a.ordered j k s s' c c' x x' ∙ sym (ap₂ ltb z z')

  past : (j b : ℕ) → Dated j b → (slot_entry es j).serial < l.posts + 1
  past j b (now x y z) = omega arith
  past j b (before s c x y z) = omega (arith, a.past j s c x)

  open_there : (j : ℕ) (o : Inbound) → phase_at ss j ≡ Phase.Open o → (phase_at p.slots j ≡ Phase.Open o) × (slot_entry es j ≡ slot_entry l.entries j)
  open_there j o x = go (ℕ_discrete j i)
    where
      go : Dec (j ≡ i) → (phase_at p.slots j ≡ Phase.Open o) × (slot_entry es j ≡ slot_entry l.entries j)
      go (yes y) =
          let k : Phase.Posted r (count_posted p.slots) ≡ Phase.Open o = sym (here j y).0 ∙ x in
          absurd (let z : ◌≡◌ {A = ℕ} 0 1 = cc in omega arith)
      go (no y) = (was_open (phase_at p.slots j) o (sym (there j y).0 ∙ x), (there j y).1)

  posted_agrees : Agrees (record { next = p.next; slots = ss }) ws mem (record { next = l.next; posts = l.posts + 1; entries = es })
  posted_agrees =
      record {
        next = a.next;
        same = unfold ss es in roles_set (renumbered p.slots p.slots) l.entries i _ e (roles_renumbered p.slots p.slots ∙ a.same) (unfold e in refl);
        ordered = λ j k s t b d x y. order j k b d (dated j s b x) (dated k t d y);
        past = λ j s b x. past j b (dated j s b x);
        held = λ j o x.
            let w = open_there j o x in
            subst (λ (y : Entry). Held ws mem o y.segments) (sym w.1) (a.held j o w.0);
      }

  pub placed_agrees : Agrees (placed p r i) ws mem (Rattle.peer.specs.Plain.posted l i r)
  unfolding placed ss es e
  placed_agrees = posted_agrees

-- ---- every call

-- a step answers what is expected, and what it leaves agrees with the history it is entered into, where the area's bytes are `mem'` after it
pub record Stepped (area limit : ℕ) (p : Peer) (ws : List ℕ) (mem' : ℕ → ℕ) (l : Plain) (c : Call) : Type 0 where
  pub answer : (peer_step area limit p ws c).answer ≡ expected area limit l c
  pub agrees : Agrees (peer_step area limit p ws c).peer (peer_step area limit p ws c).words mem' (enter limit l c (expected area limit l c))

module _ (area limit : ℕ) (p : Peer) (ws : List ℕ) (mem mem' : ℕ → ℕ) (l : Plain) (v : Valid area p.slots) (eight : length p.slots ≡ slot_count)
    (big : area ≤ 64 * length ws) (agrees : Agrees p ws mem l) where
  -- nothing is written
  same : Wrote area mem mem' 0 [] → Agrees p ws mem' l
  same w = agrees_kept area p ws mem mem' l v (λ y h. w.kept y h (inr (omega arith))) agrees

  -- a match moves the next id on
  moved : (t : Target) → t.matched ≡ true → (advance p).next ≡ next_after l t
  moved t x = ap (λ (n : ℕ). (advance (record { next = n; slots = p.slots })).next) agrees.next ∙ sym (pick_true _ _ x)

  after_refusal : (c : Call) (k : Refusal) → Wrote area mem mem' 0 [] → Agrees p ws mem' (enter_at l c nowhere (Answer.Refused k))
  after_refusal (post r) k w = same w
  after_refusal (packet bs room) k w = same w
  after_refusal (cancel i) k w = same w
  after_refusal (report i) k w = same w

  entered : {c : Call} {f : Effect} {t : Target} → Meets area limit p ws l c f t → Wrote area mem mem' f.at f.bytes
      → Agrees f.peer f.words mem' (enter_at l c t f.answer)
  unfolding truncated_at begun accept
  entered (refused c k) w = after_refusal c k w
  entered (posted r i e) w = placed_agrees p ws mem' l r i (same w) (vacant p.slots i e).0
  entered (cancelled i h) w =
      agrees_set p ws ws mem' mem' l i Phase.Free no_entry p.next l.next (same w) (freed p ws mem' l i (omega arith) (λ k o n x. (same w).held k o x)) agrees.next
  entered (reported i o) w = same w
  entered (truncated bs room q a i j t e x) w =
      rw e
      (agrees_set p ws ws mem' mem' l i Phase.Free no_entry _ (next_after l t) (same w)
      (freed p ws mem' l i (chosen_at p (incoming_of q) i j.receive j.matched).0 (λ k o n x. (same w).held k o x)) (moved t x))
  entered (begins bs room q a i r b) w =
      let h : Incoming = incoming_of q in
      let ws' : List ℕ = marked (cleared ws r.start r.capacity) (r.start + h.offset) (length (data_of bs q)) in
      let t : Target = begun_at h i r (slot_entry l.entries i).serial (segment_of h (data_of bs q)) in
      settled_agrees area limit p (advance p).next ws ws' mem mem' l bs room i (opened r h) t (progress_of ws' (opened r h)) agrees (moved t refl) refl
      (begun_taken area limit p ws mem mem' l h (data_of bs q) v (read_formed limit bs q a.reads) big agrees i r b w)
  entered (continues bs room q a i o k) w =
      let h : Incoming = incoming_of q in
      let ws' : List ℕ = marked ws (o.receive.start + h.offset) (length (data_of bs q)) in
      settled_agrees area limit p p.next ws ws' mem mem' l bs room i o (more_at l i (segment_of h (data_of bs q))) (progress_of ws' o) agrees
      (agrees.next ∙ sym (pick_false _ _ refl)) refl
      (more_taken area limit p ws mem mem' l h (data_of bs q) v (read_formed limit bs q a.reads) big agrees i o k w)

  pub stepped : (c : Call) → Wrote area mem mem' (peer_step area limit p ws c).at (peer_step area limit p ws c).bytes → Stepped area limit p ws mem' l c
  unfolding enter
  stepped c w =
      let (alike, met) = meets area limit p ws l v (mirrors agrees) c in
      let answer : (peer_step area limit p ws c).answer ≡ expected area limit l c = alike_same big alike in
      record {
        answer = answer;
        agrees = subst (λ (x : Answer). Agrees (peer_step area limit p ws c).peer (peer_step area limit p ws c).words mem' (enter limit l c x)) answer (entered met w);
      }

-- ---- a fresh peer, and a fresh history

-- every slot of a fresh peer is free
pub fresh_free : (n i : ℕ) → phase_at (replicate n free_slot) i ≡ Phase.Free
fresh_free zero i = refl
fresh_free (suc n) zero = refl
fresh_free (suc n) (suc i) = fresh_free n i

pub fresh_agrees : (ws : List ℕ) (mem : ℕ → ℕ) → Agrees fresh_peer ws mem fresh_plain
unfolding fresh_peer
fresh_agrees ws mem =
    record {
      next = refl;
      same = refl;
      ordered = λ j k r s a b x. absurd (posted j r a x);
      past = λ i r a x. absurd (posted i r a x);
      held = λ i o x. absurd (opened_none i o x);
    }
  where
    posted : (i : ℕ) (r : Receive) (a : ℕ) → phase_at (replicate slot_count free_slot) i ≡ Phase.Posted r a → ⊥
    posted i r a x =
        let e : Phase.Free ≡ Phase.Posted r a = sym (fresh_free slot_count i) ∙ x in
        let z : ◌≡◌ {A = ℕ} 0 1 = cc in
        omega arith

    opened_none : (i : ℕ) (o : Inbound) → phase_at (replicate slot_count free_slot) i ≡ Phase.Open o → ⊥
    opened_none i o x =
        let e : Phase.Free ≡ Phase.Open o = sym (fresh_free slot_count i) ∙ x in
        let z : ◌≡◌ {A = ℕ} 0 1 = cc in
        omega arith

pub fresh_valid : (area : ℕ) → Valid area fresh_peer.slots
unfolding fresh_peer
fresh_valid area =
    record {
      each = λ j. ap (phase_fits area) (fresh_free slot_count j) ∙ (unfold phase_fits in refl);
      pairs = λ j k p q n. ap (λ (f : Phase). clash f (phase_at (replicate slot_count free_slot) k)) (fresh_free slot_count j) ∙ (unfold clash in refl);
    }
