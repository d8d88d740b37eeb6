-- A slot and an entry are replaced alike, and a segment is accepted by both: the peer goes on agreeing with the plain receiver.
use Rattle.std.proofs.Common.{◌≡◌, ℕ, ◌+◌, ◌*◌, ◌<◌, ◌≤◌, min, max, true, false, eqb, ltb, ◌⊎◌, List, [], ◌∷◌, length, set, sym, refl, ap, ◌∙◌, subst, ap₂, inl, inr, arith, get_or-set_other, get_or-set_same, ltb-false}
use lib.ListN.{get_or-eq_default}
use mathlib.Core.Bool.{false≢true}
use mathlib.Core.Logic.{⊎_map}
use native.Mathlib.Decide.{dec_lt, ℕ_discrete}
use Rattle.bitmap.specs.Map.{bit_at, cleared, marked}
use Rattle.peer.specs.Calls.{packet}
use Rattle.peer.specs.Coverage.{Segment, covers, inside}
use Rattle.peer.specs.Effects.{extended, grant_of, opened, settled_as, with_phase}
use Rattle.peer.specs.Formed.{Formed}
use Rattle.peer.specs.Plain.{Entry, Plain, Target, begun_entry, enter_at, extended_role, granted_entry, grown, next_after, no_entry, receiving, segment_of, slot_entry}
use Rattle.peer.specs.State.{clash, free_slot, overlap, phase_at, phase_fits, slot_with}
use Rattle.peer.specs.View.{role_of}
use Rattle.peer.specs.declared.types.Inbound.{Inbound}
use Rattle.peer.specs.declared.types.Incoming.{Incoming}
use Rattle.peer.specs.declared.types.Peer.{Peer}
use Rattle.peer.specs.declared.types.Phase.{Phase}
use Rattle.peer.specs.declared.types.Progress.{Progress}
use Rattle.peer.specs.declared.types.Receive.{Receive}
use Rattle.peer.specs.declared.types.Slot.{Slot}
use Rattle.bitmap.proofs.BitLaws.{cleared_out, length_cleared, marked_out}
use Rattle.laws.proofs.Choosing.{or_cases, or_left}
use Rattle.peer.proofs.Plain.Agreement.{Agrees, Held, more_bits}
use Rattle.peer.proofs.Plain.CoverageLaws.{Wrote, bits_cleared, bits_same, content_same, content_written, inside_end}
use Rattle.peer.proofs.PeerSteps.Kept.{FitsBesideOthers, begun_beside, continued_beside}
use Rattle.peer.proofs.Plain.Roles.{role_at, role_lengths, roles_set}
use Rattle.peer.proofs.Slots.Slots.{phase_other, phase_same}
use Rattle.peer.proofs.Slots.Valid.{Valid, open_within}
use Rattle.peer.proofs.PeerSteps.Verdicts.{Begins, Continues, continued_at}

entry_same : (es : List Entry) (i : ℕ) (e : Entry) → i < length es → slot_entry (set es i e) i ≡ e
entry_same es i e h = get_or-set_same es i e no_entry h

entry_other : (es : List Entry) (i j : ℕ) (e : Entry) → (j ≡ i → ⊥) → slot_entry (set es i e) j ≡ slot_entry es j
entry_other es i j e n = get_or-set_other es i j e no_entry n

-- ---- one slot and one entry are replaced

-- what is to be shown where slot i becomes f and entry i becomes e, and the words ws'
pub record Change (p : Peer) (ws' : List ℕ) (mem' : ℕ → ℕ) (l : Plain) (i : ℕ) (f : Phase) (e : Entry) : Type 0 where
  pub in_slots : i < length p.slots
  pub role : role_of f ≡ e.role
  pub unposted : (r : Receive) (a : ℕ) → f ≡ Phase.Posted r a → ⊥
  pub own : (o : Inbound) → f ≡ Phase.Open o → Held ws' mem' o e.segments
  pub others : (k : ℕ) (o : Inbound) → (k ≡ i → ⊥) → phase_at p.slots k ≡ Phase.Open o → Held ws' mem' o (slot_entry l.entries k).segments

module _ (p : Peer) (ws ws' : List ℕ) (mem mem' : ℕ → ℕ) (l : Plain) (i : ℕ) (f : Phase) (e : Entry) (n n' : ℕ) (a : Agrees p ws mem l)
    (c : Change p ws' mem' l i f e) where
  ss : List Slot
  ss = set p.slots i (slot_with f)

  es : List Entry
  es = set l.entries i e

  size : i < length l.entries
  size = omega (arith, c.in_slots, role_lengths p.slots l.entries a.same)

  here : (j : ℕ) → j ≡ i → (phase_at ss j ≡ f) × (slot_entry es j ≡ e)
  unfolding ss es
  here j x = (
    ap (phase_at (set p.slots i (slot_with f))) x ∙ phase_same p.slots i f c.in_slots,
    ap (slot_entry (set l.entries i e)) x ∙ entry_same l.entries i e size,
  )

  there : (j : ℕ) → (j ≡ i → ⊥) → (phase_at ss j ≡ phase_at p.slots j) × (slot_entry es j ≡ slot_entry l.entries j)
  unfolding ss es
  there j x = (phase_other p.slots i j f x, entry_other l.entries i j e x)

  -- a posted receive is one that was there
  kept_posted : (j : ℕ) (r : Receive) (b : ℕ) → phase_at ss j ≡ Phase.Posted r b → (phase_at p.slots j ≡ Phase.Posted r b) × (slot_entry es j ≡ slot_entry l.entries j)
  kept_posted j r b x = go (ℕ_discrete j i)
    where
      go : Dec (j ≡ i) → (phase_at p.slots j ≡ Phase.Posted r b) × (slot_entry es j ≡ slot_entry l.entries j)
      go (yes y) = absurd (c.unposted r b (sym (here j y).0 ∙ x))
      go (no y) = (sym (there j y).0 ∙ x, (there j y).1)

  pub agrees_set : n ≡ n'
      → Agrees (record { next = n; slots = set p.slots i (slot_with f) }) ws' mem' (record { next = n'; posts = l.posts; entries = set l.entries i e })
  unfolding ss es
  agrees_set next =
      record {
        next = next;
        same = roles_set p.slots l.entries i f e a.same c.role;
        ordered = λ j k r s b d x y.
            let u = kept_posted j r b x in
            let w = kept_posted k s d y in
            a.ordered j k r s b d u.0 w.0
            ∙ ap₂ (λ (v w : Entry). ltb v.serial w.serial) (sym u.1) (sym w.1);
        past = λ j r b x.
            let u = kept_posted j r b x in
            subst (λ (v : Entry). v.serial < l.posts) (sym u.1) (a.past j r b u.0);
        held = λ j o x. held j o x (ℕ_discrete j i);
      }
    where
      held : (j : ℕ) (o : Inbound) → phase_at ss j ≡ Phase.Open o → Dec (j ≡ i) → Held ws' mem' o (slot_entry es j).segments
      held j o x (yes y) = subst (λ (v : Entry). Held ws' mem' o v.segments) (sym (here j y).1) (c.own o (sym (here j y).0 ∙ x))
      held j o x (no y) = subst (λ (v : Entry). Held ws' mem' o v.segments) (sym (there j y).1) (c.others j o y (sym (there j y).0 ∙ x))

-- slot i is freed
pub freed : (p : Peer) (ws : List ℕ) (mem : ℕ → ℕ) (l : Plain) (i : ℕ) → i < length p.slots
    → ((k : ℕ) (o : Inbound) → (k ≡ i → ⊥) → phase_at p.slots k ≡ Phase.Open o → Held ws mem o (slot_entry l.entries k).segments) → Change p ws mem l i Phase.Free no_entry
freed p ws mem l i h others =
    record {
      in_slots = h;
      role = refl;
      unposted = λ r b x. let z : ◌≡◌ {A = ℕ} 0 1 = cc in omega arith;
      own = λ o x. absurd (let z : ◌≡◌ {A = ℕ} 0 1 = cc in omega arith);
      others = others;
    }

-- ---- ranges that are apart

apart_out : (r s : Receive) (x : ℕ) → overlap r s ≡ false → s.start ≤ x → x < s.start + s.capacity → (x < r.start) ⊎ (r.start + r.capacity ≤ x)
unfolding overlap
apart_out r s x e a b = elim (dec_lt x r.start) as (λ d. (x < r.start) ⊎ (r.start + r.capacity ≤ x)) [
  | yes h ↦ inl h
  | no h ↦ inr (omega (arith, h, ltb-false (max r.start s.start) (min (r.start + r.capacity) (s.start + s.capacity)) e))
]

-- the bits of another open message lie outside the range of the message that stands in slot i
module _ (area : ℕ) (p : Peer) (i : ℕ) (o : Inbound) (v : Valid area p.slots) (s : FitsBesideOthers area p.slots i o) where
  outside : (k : ℕ) (q : Inbound) → (k ≡ i → ⊥) → phase_at p.slots k ≡ Phase.Open q → (x : ℕ) → x < q.message.length
      → (q.receive.start + x < o.receive.start) ⊎ (o.receive.start + o.receive.capacity ≤ q.receive.start + x)
  outside k q n e x h =
      let w = open_within area q (ap (phase_fits area) (sym e) ∙ v.each k) in
      apart_out o.receive q.receive (q.receive.start + x) (apart (dec_lt k (length p.slots))) (omega arith) (omega (arith, w.in_range))
    where
      apart : Dec (k < length p.slots) → overlap o.receive q.receive ≡ false
      apart (yes l) =
          or_left (overlap o.receive q.receive) (eqb o.message.id q.message.id)
          (unfold clash in (ap (clash (Phase.Open o)) (sym e) ∙ s.apart k l n))
      apart (no l) =
          let gone : phase_at p.slots k ≡ Phase.Free = ap (λ (t : Slot). t.phase) (get_or-eq_default p.slots free_slot (omega (arith, l))) in
          let z : ◌≡◌ {A = ℕ} 0 1 = cc in
          absurd (omega arith)

  -- a change inside that range leaves them
  pub others_marked : (ws : List ℕ) (at n : ℕ) → o.receive.start ≤ at → at + n ≤ o.receive.start + o.receive.capacity
      → (k : ℕ) (q : Inbound) → (k ≡ i → ⊥) → phase_at p.slots k ≡ Phase.Open q → (x : ℕ) → x < q.message.length
      → bit_at (marked ws at n) (q.receive.start + x) ≡ bit_at ws (q.receive.start + x)
  others_marked ws at n a b k q m e x h = marked_out ws at n (q.receive.start + x) (⊎_map (λ y. omega arith) (λ y. omega arith) (outside k q m e x h))

  pub others_cleared : (ws : List ℕ) → (k : ℕ) (q : Inbound) → (k ≡ i → ⊥) → phase_at p.slots k ≡ Phase.Open q → (x : ℕ) → x < q.message.length
      → bit_at (cleared ws o.receive.start o.receive.capacity) (q.receive.start + x) ≡ bit_at ws (q.receive.start + x)
  others_cleared ws k q m e x h = cleared_out ws o.receive.start o.receive.capacity (q.receive.start + x) (outside k q m e x h)

  pub others_kept : (mem mem' : ℕ → ℕ) (at : ℕ) (bytes : List ℕ) → Wrote area mem mem' at bytes → o.receive.start ≤ at
      → at + length bytes ≤ o.receive.start + o.receive.capacity
      → (k : ℕ) (q : Inbound) → (k ≡ i → ⊥) → phase_at p.slots k ≡ Phase.Open q → (x : ℕ) → x < q.message.length
      → mem' (q.receive.start + x) ≡ mem (q.receive.start + x)
  others_kept mem mem' at bytes w a b k q m e x h =
      let f = open_within area q (ap (phase_fits area) (sym e) ∙ v.each k) in
      w.kept (q.receive.start + x) (omega (arith, f.in_area, f.in_range)) (⊎_map (λ y. omega arith) (λ y. omega arith) (outside k q m e x h))

-- the area's bytes stay: all goes on agreeing
pub agrees_kept : (area : ℕ) (p : Peer) (ws : List ℕ) (mem mem' : ℕ → ℕ) (l : Plain) → Valid area p.slots → ((y : ℕ) → y < area → mem' y ≡ mem y)
    → Agrees p ws mem l → Agrees p ws mem' l
agrees_kept area p ws mem mem' l v e a =
    record {
      next = a.next;
      same = a.same;
      ordered = a.ordered;
      past = a.past;
      held = λ i o x.
          let w = open_within area o (ap (phase_fits area) (sym x) ∙ v.each i) in
          let h = a.held i o x in
          record {
            bits = h.bits;
            below = h.below;
            content = content_same mem mem' o.receive.start o.message.length (slot_entry l.entries i).segments
                (λ k y. e (o.receive.start + k) (omega (arith, w.in_area, w.in_range))) h.content;
          };
    }

-- ---- a segment is accepted

-- the message o stands in slot i, and entry e has its segments with the new one; the words ws' have their bits
pub record Taken (area : ℕ) (p : Peer) (ws' : List ℕ) (mem' : ℕ → ℕ) (l : Plain) (i : ℕ) (o : Inbound) (e : Entry) : Type 0 where
  pub beside : FitsBesideOthers area p.slots i o
  pub role : e.role ≡ receiving o
  pub own : Held ws' mem' o e.segments
  pub others : (k : ℕ) (q : Inbound) → (k ≡ i → ⊥) → phase_at p.slots k ≡ Phase.Open q → Held ws' mem' q (slot_entry l.entries k).segments

-- the message is still open, as q
still_open : (area : ℕ) (p : Peer) (ws' : List ℕ) (mem' : ℕ → ℕ) (l : Plain) (i : ℕ) (o q : Inbound) (e e' : Entry) → Taken area p ws' mem' l i o e
    → e'.role ≡ receiving q → Held ws' mem' q e'.segments → Change p ws' mem' l i (Phase.Open q) e'
still_open area p ws' mem' l i o q e e' t x h =
    record {
      in_slots = t.beside.in_slots;
      role = sym x;
      unposted = λ r a z. let u : ◌≡◌ {A = ℕ} 0 1 = cc in omega arith;
      own = λ m z. let is : q ≡ m = cc in subst (λ (n : Inbound). Held ws' mem' n e'.segments) is h;
      others = t.others;
    }

-- a grant moves the granted end alone
held_wider : (m : ℕ) {ws : List ℕ} {mem : ℕ → ℕ} {o : Inbound} {gs : List Segment} → Held ws mem o gs → Held ws mem (extended m o) gs
held_wider m h = record { bits = h.bits; below = λ long k c. omega (arith, h.below long k c); content = h.content }

-- the next id is n from now on; the target t is in slot i
pub settled_agrees : (area limit : ℕ) (p : Peer) (n : ℕ) (ws ws' : List ℕ) (mem mem' : ℕ → ℕ) (l : Plain) (bs : List ℕ) (room i : ℕ) (o : Inbound) (t : Target) (g : Progress)
    → Agrees p ws mem l
    → n ≡ next_after l t → t.index ≡ i → Taken area p ws' mem' l i o t.entry
    → Agrees (with_phase (record { next = n; slots = p.slots }) i (settled_as limit i o g).phase) ws' mem' (enter_at l (packet bs room) t (settled_as limit i o g).answer)
unfolding settled_as
settled_agrees area limit p n ws ws' mem mem' l bs room i o t Progress.Whole a en ei k =
    rw ei
    (agrees_set p ws ws' mem mem' l i Phase.Free no_entry n (next_after l t) a
    (freed p ws' mem' l i k.beside.in_slots k.others)
    en)
settled_agrees area limit p n ws ws' mem mem' l bs room i o t Progress.Due a en ei k =
    let m : ℕ = grant_of limit o.message in
    rw ei
    (agrees_set p ws ws' mem mem' l i (Phase.Open (extended m o)) (granted_entry m t.entry) n (next_after l t) a
    (still_open area p ws' mem' l i o (extended m o) t.entry (granted_entry m t.entry) k (ap (extended_role m) k.role) (held_wider m k.own)) en)
settled_agrees area limit p n ws ws' mem mem' l bs room i o t Progress.Partial a en ei k =
    rw ei
    (agrees_set p ws ws' mem mem' l i (Phase.Open o) t.entry n (next_after l t) a
    (still_open area p ws' mem' l i o o t.entry t.entry k k.role k.own) en)

-- ---- a packet

-- one segment more, below the granted end
covers_below : (g : Segment) (gs : List Segment) (n : ℕ) → g.offset + length g.bytes ≤ n → ((k : ℕ) → covers gs k ≡ true → k < n)
    → (k : ℕ) → covers (g ∷ gs) k ≡ true → k < n
unfolding covers
covers_below g gs n h b k e = go (or_cases (inside g k) (covers gs k) e)
  where
    go : (inside g k ≡ true) ⊎ (covers gs k ≡ true) → k < n
    go (inl x) = omega (arith, (inside_end g k x).1)
    go (inr x) = b k x

module _ (area limit : ℕ) (p : Peer) (ws : List ℕ) (mem mem' : ℕ → ℕ) (l : Plain) (h : Incoming) (bytes : List ℕ) (v : Valid area p.slots)
    (form : Formed h (length bytes)) (words : area ≤ 64 * length ws) (agrees : Agrees p ws mem l) where
  pub more_taken : (i : ℕ) (o : Inbound) → Continues p ws h i o → Wrote area mem mem' (o.receive.start + h.offset) bytes
      → Taken area p (marked ws (o.receive.start + h.offset) (length bytes)) mem' l i o (grown (slot_entry l.entries i) (segment_of h bytes))
  more_taken i o c wrote =
      record {
        beside = s;
        role = sym (role_at p.slots l.entries agrees.same i) ∙ ap role_of at.1;
        own = record {
          bits = more_bits ws h bytes o (slot_entry l.entries i).segments (omega (arith, s.within.in_area, s.within.in_range)) was.bits;
          below = λ long. covers_below (segment_of h bytes) (slot_entry l.entries i).segments o.message.granted (omega (arith, form.size, c.in_grant long))
              (was.below long);
          content = content_written area mem mem' o.receive.start o.message.length (segment_of h bytes) (slot_entry l.entries i).segments
              (omega (arith, s.within.in_area, s.within.in_range)) wrote was.content;
        };
        others = λ k q n e.
            let inside = c.in_length s.within.in_length in
            let other = agrees.held k q e in
            record {
              bits = bits_same ws _ q.receive.start q.message.length (slot_entry l.entries k).segments
                  (others_marked area p i o v s ws (o.receive.start + h.offset) (length bytes) (omega arith) (omega (arith, form.size, s.within.in_range)) k q n e)
                  other.bits;
              below = other.below;
              content = content_same mem mem' q.receive.start q.message.length (slot_entry l.entries k).segments
                  (others_kept area p i o v s mem mem' (o.receive.start + h.offset) bytes wrote (omega arith) (omega (arith, form.size, s.within.in_range)) k q n e)
                  other.content;
            };
      }
    where
      s : FitsBesideOthers area p.slots i o
      s = continued_beside area p ws h i o v c

      at : (i < length p.slots) × (phase_at p.slots i ≡ Phase.Open o)
      at = continued_at p ws h i o c

      was : Held ws mem o (slot_entry l.entries i).segments
      was = agrees.held i o at.1

  pub begun_taken : (i : ℕ) (r : Receive) → Begins p h i r → Wrote area mem mem' (r.start + h.offset) bytes
      → Taken area p (marked (cleared ws r.start r.capacity) (r.start + h.offset) (length bytes)) mem' l i (opened r h)
      (begun_entry r (slot_entry l.entries i).serial h (segment_of h bytes))
  begun_taken i r b wrote =
      record {
        beside = s;
        role = refl;
        own = record {
          bits = more_bits (cleared ws r.start r.capacity) h bytes (opened r h) []
              (omega (arith, s.within.in_area, s.within.in_range, length_cleared ws r.start r.capacity))
              (bits_cleared ws r.start r.capacity h.length b.in_capacity);
          below = λ long. covers_below (segment_of h bytes) [] h.size (omega (arith, form.size, form.start long)) (λ k e. absurd (no_cover k e));
          content = content_written area mem mem' r.start h.length (segment_of h bytes) [] (omega (arith, s.within.in_area, s.within.in_range)) wrote
              (λ k x y. absurd (no_cover k y));
        };
        others = λ k q n e.
            let other = agrees.held k q e in
            record {
              bits = bits_same (cleared ws r.start r.capacity) _ q.receive.start q.message.length (slot_entry l.entries k).segments
                  (others_marked area p i (opened r h) v s (cleared ws r.start r.capacity) (r.start + h.offset) (length bytes) (omega arith)
                  (omega (arith, form.size, form.inside b.matched.rtm, b.in_capacity)) k q n e)
                  (bits_same ws (cleared ws r.start r.capacity) q.receive.start q.message.length (slot_entry l.entries k).segments
                  (others_cleared area p i (opened r h) v s ws k q n e) other.bits);
              below = other.below;
              content = content_same mem mem' q.receive.start q.message.length (slot_entry l.entries k).segments
                  (others_kept area p i (opened r h) v s mem mem' (r.start + h.offset) bytes wrote (omega arith)
                  (omega (arith, form.size, form.inside b.matched.rtm, b.in_capacity)) k q n e)
                  other.content;
            };
      }
    where
      s : FitsBesideOthers area p.slots i (opened r h)
      s = begun_beside area p h (length bytes) i r v form b

      no_cover : (k : ℕ) → covers [] k ≡ true → ⊥
      no_cover k e = false≢true (unfold covers in e)
