-- A call leaves a peer that can be where it found one, keeps the number of slots and of map words, and writes inside the area only.
use Rattle.std.proofs.Common.{◌≡◌, ℕ, ◌+◌, ◌-◌, ◌<◌, ◌≤◌, false, ◌||◌, eqb, List, length, set, sym, refl, ap, ◌∙◌, subst, ap₂, arith, length-set, ne_eqb, le-leb}
use Rattle.std.specs.Prelude.{Some}
use Rattle.bitmap.specs.Map.{cleared, marked}
use Rattle.peer.specs.Calls.{Call, count_older, count_posted, missing_in, peer_step, placed, renumbered, renumbered_phase, overlaps_some}
use Rattle.peer.specs.Effects.{Effect, accept, advance, begun, extended, grant_of, in_slot, opened, progress_of, quiet, settled_as, truncated_at, with_phase}
use Rattle.peer.specs.Formed.{Formed}
use Rattle.peer.specs.Incomings.{incoming_of}
use Rattle.peer.specs.Matching.{vacancy}
use Rattle.peer.specs.State.{clash, overlaps_use, overlap, phase_at, phase_fits, slot_count, slot_with}
use Rattle.peer.specs.declared.types.Answer.{Answer}
use Rattle.peer.specs.declared.types.Inbound.{Inbound}
use Rattle.peer.specs.declared.types.Incoming.{Incoming}
use Rattle.peer.specs.declared.types.Message.{Message}
use Rattle.peer.specs.declared.types.Peer.{Peer}
use Rattle.peer.specs.declared.types.Phase.{Phase}
use Rattle.peer.specs.declared.types.Progress.{Progress}
use Rattle.peer.specs.declared.types.Receive.{Receive}
use Rattle.peer.specs.declared.types.Slot.{Slot}
use Rattle.bitmap.proofs.BitLaws.{length_cleared, length_marked}
use Rattle.laws.proofs.Choosing.{or_left, or_neither}
use Rattle.peer.proofs.Slots.Ages.{length_renumbered, older_below, phase_renumbered, valid_renumbered}
use Rattle.peer.proofs.Sentences.PacketsRead.{read_formed}
use Rattle.peer.proofs.Slots.Slots.{found_nothing, vacant, overlaps_none}
use Rattle.peer.proofs.PeerSteps.StepCases.{StepCase, begins, cancelled, continues, data_of, posted, refused, reported, step_case, truncated}
use Rattle.peer.proofs.Slots.Valid.{Valid, Within, open_within, posted_within, valid_set, within_open}
use Rattle.peer.proofs.PeerSteps.Verdicts.{Begins, Continues, chosen_at, continued_at}

pub record Kept (area : ℕ) (p : Peer) (ws : List ℕ) (f : Effect) : Type 0 where
  pub valid : Valid area f.peer.slots
  pub slots : length f.peer.slots ≡ length p.slots
  pub words : length f.words ≡ length ws
  pub in_area : f.at + length f.bytes ≤ area

quiet_kept : (area : ℕ) (p q : Peer) (ws : List ℕ) (a : Answer) → Valid area q.slots → length q.slots ≡ length p.slots → Kept area p ws (quiet q ws a)
quiet_kept area p q ws a v e = record { valid = v; slots = e; words = refl; in_area = omega arith }

-- ---- a slot freed, or open on its own range

pub valid_free : (area : ℕ) (ss : List Slot) (i : ℕ) → i < length ss → Valid area ss → Valid area (set ss i (slot_with Phase.Free))
unfolding phase_fits clash
valid_free area ss i h v = valid_set area ss i Phase.Free h v refl (λ k l n. refl)

-- an open message takes the place of a receive with the same range
pub clash_begun : (r : Receive) (a : ℕ) (o : Inbound) (g : Phase) → ((s : Receive) → overlap o.receive s ≡ overlap r s) → clash (Phase.Posted r a) g ≡ false
    → ((q : Inbound) → g ≡ Phase.Open q → q.message.id ≡ o.message.id → ⊥) → clash (Phase.Open o) g ≡ false
unfolding clash
clash_begun r a o Phase.Free e c d = refl
clash_begun r a o (Phase.Posted s b) e c d = e s ∙ or_left (overlap r s) (eqb a b) c
clash_begun r a o (Phase.Open q) e c d =
    or_neither (overlap o.receive q.receive) (eqb o.message.id q.message.id) (e q.receive ∙ c)
    (ne_eqb o.message.id q.message.id (λ x. d q refl (sym x)))

-- a message that keeps its range and its id clashes as before
pub clash_same : (o q : Inbound) (g : Phase) → q.receive ≡ o.receive → q.message.id ≡ o.message.id → clash (Phase.Open o) g ≡ false → clash (Phase.Open q) g ≡ false
unfolding clash
clash_same o q Phase.Free e d c = refl
clash_same o q (Phase.Posted s b) e d c = ap (λ (x : Receive). overlap x s) e ∙ c
clash_same o q (Phase.Open m) e d c = ap₂ (λ (x : Receive) (y : ℕ). overlap x m.receive || eqb y m.message.id) e d ∙ c

-- ---- an accepted segment

-- the message o may stand in slot i
pub record FitsBesideOthers (area : ℕ) (ss : List Slot) (i : ℕ) (o : Inbound) : Type 0 where
  pub in_slots : i < length ss
  pub within : Within area o
  pub apart : (k : ℕ) → k < length ss → (k ≡ i → ⊥) → clash (Phase.Open o) (phase_at ss k) ≡ false

pub grant_le : (limit : ℕ) (m : Message) → grant_of limit m ≤ m.length - m.granted
unfolding grant_of
grant_le limit m = omega arith

settled_kept : (area limit : ℕ) (p : Peer) (i : ℕ) (o : Inbound) (g : Progress) → Valid area p.slots → FitsBesideOthers area p.slots i o
    → Valid area (with_phase p i (settled_as limit i o g).phase).slots
unfolding settled_as
settled_kept area limit p i o Progress.Whole v s = valid_free area p.slots i s.in_slots v
settled_kept area limit p i o Progress.Due v s =
    valid_set area p.slots i (Phase.Open (extended (grant_of limit o.message) o)) s.in_slots v
    (within_open area (extended (grant_of limit o.message) o)
    (record { in_area = s.within.in_area; in_range = s.within.in_range; in_length = omega (arith, s.within.in_length, grant_le limit o.message) }))
    (λ k l n. clash_same o (extended (grant_of limit o.message) o) (phase_at p.slots k) refl refl (s.apart k l n))
settled_kept area limit p i o Progress.Partial v s = valid_set area p.slots i (Phase.Open o) s.in_slots v (within_open area o s.within) s.apart

accept_kept : (area limit : ℕ) (p q : Peer) (ws ws' : List ℕ) (i : ℕ) (o : Inbound) (offset : ℕ) (bytes : List ℕ) → Valid area p.slots
    → FitsBesideOthers area p.slots i o → length p.slots ≡ length q.slots → length ws ≡ length ws' → offset + length bytes ≤ o.message.length
    → Kept area q ws' (in_slot p i (accept limit ws i o offset bytes))
unfolding accept
accept_kept area limit p q ws ws' i o offset bytes v s e d l =
    record {
      valid = settled_kept area limit p i o (progress_of (marked ws (o.receive.start + offset) (length bytes)) o) v s;
      slots = length-set p.slots i _ ∙ e;
      words = length_marked ws (o.receive.start + offset) (length bytes) ∙ d;
      in_area = omega (arith, s.within.in_area, s.within.in_range);
    }

-- ---- a packet

pub begun_beside : (area : ℕ) (p : Peer) (h : Incoming) (n i : ℕ) (r : Receive) → Valid area p.slots → Formed h n → Begins p h i r
    → FitsBesideOthers area p.slots i (opened r h)
begun_beside area p h n i r v form b =
    let at = chosen_at p h i r b.matched in
    record {
      in_slots = at.0;
      within = record {
        in_area = posted_within area r b.matched.age (ap (phase_fits area) (sym at.1) ∙ v.each i);
        in_range = b.in_capacity;
        in_length = omega (arith, form.inside b.matched.rtm);
      };
      apart = λ k l m.
          clash_begun r b.matched.age (opened r h) (phase_at p.slots k) (λ s. unfold overlap in refl)
          (ap (λ (f : Phase). clash f (phase_at p.slots k)) (sym at.1) ∙ v.pairs i k at.0 l (λ x. m (sym x)))
          (λ q x y. found_nothing h.id p.slots b.matched.unopened k q x y);
    }

pub continued_beside : (area : ℕ) (p : Peer) (ws : List ℕ) (h : Incoming) (i : ℕ) (o : Inbound) → Valid area p.slots → Continues p ws h i o
    → FitsBesideOthers area p.slots i o
continued_beside area p ws h i o v c =
    let at = continued_at p ws h i o c in
    record {
      in_slots = at.0;
      within = open_within area o (ap (phase_fits area) (sym at.1) ∙ v.each i);
      apart = λ k l m. ap (λ (f : Phase). clash f (phase_at p.slots k)) (sym at.1) ∙ v.pairs i k at.0 l (λ x. m (sym x));
    }

-- ---- a post

placed_kept : (area : ℕ) (p : Peer) (ws : List ℕ) (r : Receive) (i : ℕ) → vacancy 0 p.slots ≡ Some i → Valid area p.slots
    → r.start + r.capacity ≤ area → overlaps_some r p.slots ≡ false → Kept area p ws (quiet (placed p r i) ws (Answer.Posted i))
unfolding placed
placed_kept area p ws r i e v a c =
    quiet_kept area p (placed p r i) ws (Answer.Posted i)
    (valid_set area all i (Phase.Posted r young) (omega (arith, inside, length_renumbered p.slots p.slots)) (valid_renumbered area p.slots v)
    (unfold phase_fits in le-leb (r.start + r.capacity) area a)
    (λ k l n. let l' : k < length p.slots = rw (length_renumbered p.slots p.slots) at l in
    ap (clash (Phase.Posted r young)) (phase_renumbered p.slots p.slots k) ∙ apart k l' (phase_at p.slots k) refl (overlaps_none r p.slots c k)))
    (length-set all i _ ∙ length_renumbered p.slots p.slots)
  where
    all : List Slot
    all = renumbered p.slots p.slots

    young : ℕ
    young = count_posted p.slots

    inside : i < length p.slots
    inside = (vacant p.slots i e).0

    apart : (k : ℕ) → k < length p.slots → (f : Phase) → phase_at p.slots k ≡ f → overlaps_use r f ≡ false
        → clash (Phase.Posted r young) (renumbered_phase p.slots f) ≡ false
    apart k l Phase.Free x w = unfold clash in refl
    apart k l (Phase.Posted s b) x w =
        unfold clash in
        or_neither (overlap r s) (eqb young (count_older b p.slots)) (unfold overlaps_use in w)
        (ne_eqb young (count_older b p.slots) (λ y. omega (arith, older_below p.slots k s b l x)))
    apart k l (Phase.Open q) x w = unfold clash overlaps_use in w

-- ---- every call

pub step_kept : (area limit : ℕ) (p : Peer) (ws : List ℕ) (c : Call) → Valid area p.slots → length p.slots ≡ slot_count
    → Kept area p ws (peer_step area limit p ws c)
unfolding truncated_at begun
step_kept area limit p ws c v e = go (step_case area limit p ws c)
  where
    freed : (q : Peer) (i : ℕ) (a : Answer) → q.slots ≡ set p.slots i (slot_with Phase.Free) → i < length p.slots → Kept area p ws (quiet q ws a)
    freed q i a x h =
        quiet_kept area p q ws a (subst (Valid area) (sym x) (valid_free area p.slots i h v)) (ap length x ∙ length-set p.slots i _)

    go : {c : Call} {f : Effect} → StepCase area limit p ws c f → Kept area p ws f
    go (refused c k m) = quiet_kept area p p ws (Answer.Refused k) v refl
    go (posted r i x a w) = placed_kept area p ws r i x v a w
    go (cancelled i l u) = freed (with_phase p i Phase.Free) i (Answer.Cancelled i) refl (omega arith)
    go (reported i o x) = quiet_kept area p p ws (missing_in ws o) v refl
    go (truncated bs room q a i j) =
        freed (with_phase (advance p) i Phase.Free) i (Answer.Truncated i (incoming_of q).id (incoming_of q).length) refl
        (chosen_at p (incoming_of q) i j.receive j.matched).0
    go (begins bs room q a i r b) =
        let h : Incoming = incoming_of q in
        let form = read_formed limit bs q a.reads in
        accept_kept area limit (advance p) p (cleared ws r.start r.capacity) ws i (opened r h) h.offset (data_of bs q) v
        (begun_beside area p h (length (data_of bs q)) i r v form b) refl (length_cleared ws r.start r.capacity)
        (omega (arith, form.size, form.inside b.matched.rtm))
    go (continues bs room q a i o k) =
        let s = continued_beside area p ws (incoming_of q) i o v k in
        accept_kept area limit p p ws ws i o (incoming_of q).offset (data_of bs q) v s refl refl
        (omega (arith, (read_formed limit bs q a.reads).size, k.in_length s.within.in_length))
