-- A peer that can be, slot by slot and pair by pair, and slots replaced in it.
use Rattle.std.proofs.Common.{◌≡◌, ℕ, zero, suc, ◌+◌, ◌<◌, ◌≤◌, Bool, true, false, not, ◌&&◌, ◌||◌, ltb, leb, List, [], ◌∷◌, length, set, sym, refl, ap, ◌∙◌, ap₂, arith, length-set, le-leb, leb-true}
use borrow.Author.Tests.{not-true}
use native.Mathlib.Decide.{ℕ_discrete}
use native.Mathlib.Nat.{max_comm, min_comm}
use Rattle.peer.specs.State.{all_fit, clash, none_clash, overlap, pairs_apart, peer_fits, phase_at, phase_fits, slot_with}
use Rattle.peer.specs.declared.types.Inbound.{Inbound}
use Rattle.peer.specs.declared.types.Peer.{Peer}
use Rattle.peer.specs.declared.types.Phase.{Phase}
use Rattle.peer.specs.declared.types.Receive.{Receive}
use Rattle.peer.specs.declared.types.Slot.{Slot}
use Rattle.laws.proofs.Choosing.{and_intro, and_left, and_right}
use Rattle.laws.proofs.Comparing.{eqb_sym}
use Rattle.peer.proofs.Slots.Slots.{phase_other, phase_same}

pub record Valid (area : ℕ) (ss : List Slot) : Type 0 where
  pub each : (j : ℕ) → phase_fits area (phase_at ss j) ≡ true
  pub pairs : (j k : ℕ) → j < length ss → k < length ss → (j ≡ k → ⊥) → clash (phase_at ss j) (phase_at ss k) ≡ false

-- ---- pairs

pub overlap_sym : (r s : Receive) → overlap r s ≡ overlap s r
unfolding overlap
overlap_sym r s = ap₂ ltb (max_comm r.start s.start) (min_comm (r.start + r.capacity) (s.start + s.capacity))

pub clash_sym : (f g : Phase) → clash f g ≡ clash g f
unfolding clash
clash_sym Phase.Free Phase.Free = refl
clash_sym Phase.Free (Phase.Posted s b) = refl
clash_sym Phase.Free (Phase.Open q) = refl
clash_sym (Phase.Posted r a) Phase.Free = refl
clash_sym (Phase.Posted r a) (Phase.Posted s b) = ap₂ (λ (x y : Bool). x || y) (overlap_sym r s) (eqb_sym a b)
clash_sym (Phase.Posted r a) (Phase.Open q) = overlap_sym r q.receive
clash_sym (Phase.Open o) Phase.Free = refl
clash_sym (Phase.Open o) (Phase.Posted s b) = overlap_sym o.receive s
clash_sym (Phase.Open o) (Phase.Open q) =
    ap₂ (λ (x y : Bool). x || y) (overlap_sym o.receive q.receive) (eqb_sym o.message.id q.message.id)

-- ---- from the test to the facts, and back

each_fits : (area : ℕ) (ss : List Slot) → all_fit area ss ≡ true → (j : ℕ) → phase_fits area (phase_at ss j) ≡ true
unfolding phase_fits
each_fits area [] e j = refl
each_fits area (s ∷ ss) e zero = and_left (phase_fits area s.phase) (all_fit area ss) e
each_fits area (s ∷ ss) e (suc j) = each_fits area ss (and_right (phase_fits area s.phase) (all_fit area ss) e) j

all_fit_lem : (area : ℕ) (ss : List Slot) → ((j : ℕ) → phase_fits area (phase_at ss j) ≡ true) → all_fit area ss ≡ true
all_fit_lem area [] f = refl
all_fit_lem area (s ∷ ss) f = and_intro (phase_fits area s.phase) (all_fit area ss) (f 0) (all_fit_lem area ss (λ j. f (suc j)))

none_at : (f : Phase) (ss : List Slot) → none_clash f ss ≡ true → (j : ℕ) → j < length ss → clash f (phase_at ss j) ≡ false
none_at f [] e j h = absurd (omega arith)
none_at f (s ∷ ss) e zero h = not-true (clash f s.phase) (and_left (not (clash f s.phase)) (none_clash f ss) e)
none_at f (s ∷ ss) e (suc j) h = none_at f ss (and_right (not (clash f s.phase)) (none_clash f ss) e) j (omega arith)

at_none : (f : Phase) (ss : List Slot) → ((j : ℕ) → j < length ss → clash f (phase_at ss j) ≡ false) → none_clash f ss ≡ true
at_none f [] g = refl
at_none f (s ∷ ss) g =
    and_intro (not (clash f s.phase)) (none_clash f ss) (ap not (g 0 (omega arith))) (at_none f ss (λ j h. g (suc j) (omega arith)))

abbrev Pairs : List Slot → Type 0
Pairs ss = (j k : ℕ) → j < length ss → k < length ss → (j ≡ k → ⊥) → clash (phase_at ss j) (phase_at ss k) ≡ false

pairs_at : (ss : List Slot) → pairs_apart ss ≡ true → Pairs ss
unfolding pairs_apart
pairs_at [] e j k p q n = absurd (omega arith)
pairs_at (s ∷ ss) e zero zero p q n = absurd (n refl)
pairs_at (s ∷ ss) e zero (suc k) p q n = none_at s.phase ss (and_left (none_clash s.phase ss) (pairs_apart ss) e) k (omega arith)
pairs_at (s ∷ ss) e (suc j) zero p q n =
    clash_sym (phase_at ss j) s.phase ∙ none_at s.phase ss (and_left (none_clash s.phase ss) (pairs_apart ss) e) j (omega arith)
pairs_at (s ∷ ss) e (suc j) (suc k) p q n =
    pairs_at ss (and_right (none_clash s.phase ss) (pairs_apart ss) e) j k (omega arith) (omega arith) (λ x. n (ap suc x))

at_pairs : (ss : List Slot) → Pairs ss → pairs_apart ss ≡ true
unfolding pairs_apart
at_pairs [] f = refl
at_pairs (s ∷ ss) f =
    and_intro (none_clash s.phase ss) (pairs_apart ss)
    (at_none s.phase ss (λ j h. f 0 (suc j) (omega arith) (omega arith) (λ x. omega arith)))
    (at_pairs ss (λ j k p q n. f (suc j) (suc k) (omega arith) (omega arith) (λ x. n (omega arith))))

pub fits_valid : (area : ℕ) (p : Peer) → peer_fits area p ≡ true → Valid area p.slots
unfolding peer_fits
fits_valid area p e =
    record {
      each = each_fits area p.slots (and_left (all_fit area p.slots) (pairs_apart p.slots) e);
      pairs = pairs_at p.slots (and_right (all_fit area p.slots) (pairs_apart p.slots) e);
    }

pub valid_fits : (area : ℕ) (p : Peer) → Valid area p.slots → peer_fits area p ≡ true
unfolding peer_fits
valid_fits area p v = and_intro (all_fit area p.slots) (pairs_apart p.slots) (all_fit_lem area p.slots v.each) (at_pairs p.slots v.pairs)

-- ---- what a slot's own test says

pub record Within (area : ℕ) (o : Inbound) : Type 0 where
  pub in_area : o.receive.start + o.receive.capacity ≤ area
  pub in_range : o.message.length ≤ o.receive.capacity
  pub in_length : o.message.granted ≤ o.message.length

pub open_within : (area : ℕ) (o : Inbound) → phase_fits area (Phase.Open o) ≡ true → Within area o
unfolding phase_fits
open_within area o e =
    let rest = and_right (leb (o.receive.start + o.receive.capacity) area) _ e in
    record {
      in_area = leb-true _ _ (and_left _ (leb o.message.length o.receive.capacity && leb o.message.granted o.message.length) e);
      in_range = leb-true _ _ (and_left _ (leb o.message.granted o.message.length) rest);
      in_length = leb-true _ _ (and_right (leb o.message.length o.receive.capacity) _ rest);
    }

pub within_open : (area : ℕ) (o : Inbound) → Within area o → phase_fits area (Phase.Open o) ≡ true
unfolding phase_fits
within_open area o w = rw (le-leb _ _ w.in_area, le-leb _ _ w.in_range, le-leb _ _ w.in_length)

pub posted_within : (area : ℕ) (r : Receive) (a : ℕ) → phase_fits area (Phase.Posted r a) ≡ true → r.start + r.capacity ≤ area
unfolding phase_fits
posted_within area r a e = leb-true _ _ e

-- ---- a slot replaced

-- a phase that fits, and clashes with no other slot, keeps the whole valid
pub valid_set : (area : ℕ) (ss : List Slot) (i : ℕ) (f : Phase) → i < length ss → Valid area ss → phase_fits area f ≡ true
    → ((k : ℕ) → k < length ss → (k ≡ i → ⊥) → clash f (phase_at ss k) ≡ false) → Valid area (set ss i (slot_with f))
valid_set area ss i f h v e c =
    record {
      each = λ j. ones j (ℕ_discrete j i);
      pairs = λ j k p q n. twos j k (rw (length-set ss i (slot_with f)) at p) (rw (length-set ss i (slot_with f)) at q) n (ℕ_discrete j i) (ℕ_discrete k i);
    }
  where
    here : (j : ℕ) → j ≡ i → phase_at (set ss i (slot_with f)) j ≡ f
    here j x = ap (phase_at (set ss i (slot_with f))) x ∙ phase_same ss i f h

    ones : (j : ℕ) → Dec (j ≡ i) → phase_fits area (phase_at (set ss i (slot_with f)) j) ≡ true
    ones j (yes x) = ap (phase_fits area) (here j x) ∙ e
    ones j (no x) = ap (phase_fits area) (phase_other ss i j f x) ∙ v.each j

    twos : (j k : ℕ) → j < length ss → k < length ss → (j ≡ k → ⊥) → Dec (j ≡ i) → Dec (k ≡ i)
        → clash (phase_at (set ss i (slot_with f)) j) (phase_at (set ss i (slot_with f)) k) ≡ false
    twos j k p q n (yes x) (yes y) = absurd (n (x ∙ sym y))
    twos j k p q n (yes x) (no y) = ap₂ clash (here j x) (phase_other ss i k f y) ∙ c k q y
    twos j k p q n (no x) (yes y) = ap₂ clash (phase_other ss i j f x) (here k y) ∙ clash_sym (phase_at ss j) f ∙ c j p x
    twos j k p q n (no x) (no y) = ap₂ clash (phase_other ss i j f x) (phase_other ss i k f y) ∙ v.pairs j k p q n
