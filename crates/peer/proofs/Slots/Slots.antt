-- What the searches through the slots find, by what they find of roles and entries: the open message under an id, the oldest receive that
-- fits, the lowest free slot. A slot replaced.
use Rattle.std.proofs.Common.{◌≡◌, ℕ, zero, suc, ◌+◌, ◌<◌, true, false, ltb, List, [], ◌∷◌, length, set, sym, refl, ap, ◌∙◌, subst, ap₂, true≢false, arith, get_or-set_other, get_or-set_same, Bool, cond}
use Rattle.std.specs.Prelude.{Option, Some, None}
use Rattle.peer.specs.Calls.{overlaps_some}
use Rattle.peer.specs.Coverage.{Segment}
use Rattle.peer.specs.Sentences.{FoundIsTheLowestOpen, NothingFoundIsNoneOpen}
use Rattle.peer.specs.Matching.{find_open, older_here, oldest, vacancy}
use Rattle.peer.specs.Plain.{Entry, Role, first_here, first_posted, no_entry, receiving, roles, slot_entry, waiting}
use Rattle.peer.specs.State.{free_slot, overlaps_use, is_free, phase_at, slot_with}
use Rattle.peer.specs.View.{role_of, roles_of}
use Rattle.peer.specs.declared.types.Inbound.{Inbound}
use Rattle.peer.specs.declared.types.Incoming.{Incoming}
use Rattle.peer.specs.declared.types.Phase.{Phase}
use Rattle.peer.specs.declared.types.Receive.{Receive}
use Rattle.peer.specs.declared.types.Slot.{Slot}
use Rattle.laws.proofs.Choosing.{or_left, or_right}
use Rattle.peer.proofs.Plain.EntrySearch.{foremost}
use Rattle.peer.proofs.Plain.Roles.{Ordered, open_same, role_of_slot}
use Rattle.peer.proofs.Sentences.SentencesHold.{found_is_the_lowest_open, nothing_found_is_none_open}

-- a used slot stands among the slots
pub used_slot : (ss : List Slot) (i : ℕ) → is_free (phase_at ss i) ≡ false → i < length ss
used_slot [] i e = absurd (true≢false e)
used_slot (s ∷ ss) zero e = omega arith
used_slot (s ∷ ss) (suc i) e = let h = used_slot ss i e in omega arith

-- ---- the open message under an id

pub open_phase : (f : Phase) (o : Inbound) → role_of f ≡ receiving o → f ≡ Phase.Open o
open_phase Phase.Free o e = let z : ◌≡◌ {A = ℕ} 0 1 = cc in absurd (omega arith)
open_phase (Phase.Posted r a) o e = let z : ◌≡◌ {A = ℕ} 0 1 = cc in absurd (omega arith)
open_phase (Phase.Open q) o e = let same : q ≡ o = cc in ap Phase.Open same

-- what is found is open there under the id
pub found_open : (id : ℕ) (ss : List Slot) (i : ℕ) (o : Inbound) → find_open id 0 ss ≡ Some (i, o)
    → (i < length ss) × (phase_at ss i ≡ Phase.Open o) × (o.message.id ≡ id)
unfolding FoundIsTheLowestOpen
found_open id ss i o e =
    let ((r, x), l) = (found_is_the_lowest_open (roles_of ss) id i o).0 (sym (open_same id 0 ss) ∙ e) in
    let at : phase_at ss i ≡ Phase.Open o = open_phase (phase_at ss i) o (sym (role_of_slot ss i) ∙ r) in
    (used_slot ss i (ap is_free at), at, x)

-- where nothing is found, no slot is open under the id
pub found_nothing : (id : ℕ) (ss : List Slot) → find_open id 0 ss ≡ None → (j : ℕ) (o : Inbound) → phase_at ss j ≡ Phase.Open o → o.message.id ≡ id → ⊥
unfolding NothingFoundIsNoneOpen
found_nothing id ss e j o p q = (nothing_found_is_none_open (roles_of ss) id).0 (sym (open_same id 0 ss) ∙ e) j o (role_of_slot ss j ∙ ap role_of p, q)

-- ---- the slots as entries, with their ages as serials, and with the segments of an open message

module _ (segments : Inbound → List Segment) where
  abbrev pub entry_of : Phase → Entry
  entry_of Phase.Free = no_entry
  entry_of (Phase.Posted r a) = record { role = waiting r; serial = a; segments = []; rtm = 0; grants = [] }
  entry_of (Phase.Open o) = record { role = receiving o; serial = 0; segments = segments o; rtm = 0; grants = [] }

  abbrev pub entries_of : List Slot → List Entry
  entries_of [] = []
  entries_of (s ∷ ss) = entry_of s.phase ∷ entries_of ss

  pub slot_entry_lem : (ss : List Slot) (j : ℕ) → slot_entry (entries_of ss) j ≡ entry_of (phase_at ss j)
  slot_entry_lem [] j = refl
  slot_entry_lem (s ∷ ss) zero = refl
  slot_entry_lem (s ∷ ss) (suc j) = slot_entry_lem ss j

  pub entry_role : (f : Phase) → (entry_of f).role ≡ role_of f
  entry_role Phase.Free = refl
  entry_role (Phase.Posted r a) = refl
  entry_role (Phase.Open o) = refl

  pub entries_roles : (ss : List Slot) → roles_of ss ≡ roles (entries_of ss)
  entries_roles [] = refl
  entries_roles (s ∷ ss) = ap₂ (λ (u : Role) (us : List Role). u ∷ us) (sym (entry_role s.phase)) (entries_roles ss)

  pub entries_ordered : (ss : List Slot) → Ordered ss (entries_of ss)
  entries_ordered ss i j r s a b x y =
      sym (ap₂ (λ (d e : Entry). ltb d.serial e.serial) (slot_entry_lem ss i ∙ ap entry_of x) (slot_entry_lem ss j ∙ ap entry_of y))

  pub entries_oldest : (h : Incoming) (k : ℕ) (best : Option (ℕ × Receive × ℕ)) (ss : List Slot) → oldest h k best ss ≡ first_posted h k best (entries_of ss)
  unfolding oldest first_posted older_here first_here
  entries_oldest h k best [] = refl
  entries_oldest h k best (s ∷ ss) =
      ap (λ (f : Option (ℕ × Receive × ℕ)). oldest h (suc k) f ss) (here s.phase) ∙ entries_oldest h (suc k) (first_here h best k (entry_of s.phase).role (entry_of s.phase).serial) ss
    where
      here : (f : Phase) → older_here h best k f ≡ first_here h best k (entry_of f).role (entry_of f).serial
      here Phase.Free = refl
      here (Phase.Posted r a) = refl
      here (Phase.Open o) = refl

-- ---- the oldest receive that fits

pub oldest_fits : (h : Incoming) (ss : List Slot) (i : ℕ) (r : Receive) (a : ℕ) → oldest h 0 None ss ≡ Some (i, r, a)
    → (i < length ss) × (phase_at ss i ≡ Phase.Posted r a)
oldest_fits h ss i r a e =
    let m = foremost h (entries_of none ss) i r a (sym (entries_oldest none h 0 None ss) ∙ e) in
    let at : phase_at ss i ≡ Phase.Posted r a = go (phase_at ss i) (ap (λ (x : Entry). x.role) (sym (slot_entry_lem none ss i)) ∙ m.waits)
    (m.number ∙ ap (λ (x : Entry). x.serial) (slot_entry_lem none ss i)) in
    (used_slot ss i (ap is_free at), at)
  where
    none : Inbound → List Segment
    none o = []

    go : (f : Phase) → (entry_of none f).role ≡ waiting r → a ≡ (entry_of none f).serial → f ≡ Phase.Posted r a
    go Phase.Free x y = let z : ◌≡◌ {A = ℕ} 0 1 = cc in absurd (omega arith)
    go (Phase.Posted q b) x y = let same : q ≡ r = cc in ap₂ Phase.Posted same (sym y)
    go (Phase.Open o) x y = let z : ◌≡◌ {A = ℕ} 0 1 = cc in absurd (omega arith)

-- ---- the lowest free slot

-- of slots that are numbered from k on
abbrev Vacant : List Slot → ℕ → Option ℕ → Type 0
Vacant ss k None = Unit {0}
Vacant ss k (Some i) =
    (j : ℕ) × (i ≡ k + j) × (j < length ss) × (is_free (phase_at ss j) ≡ true) × ((x : ℕ) → x < j → is_free (phase_at ss x) ≡ false)

vacant_from : (k : ℕ) (ss : List Slot) → Vacant ss k (vacancy k ss)
vacant_from k [] = tt
vacant_from k (s ∷ ss) = at (is_free s.phase) refl (vacant_from (k + 1) ss)
  where
    go : is_free s.phase ≡ false → (v : Option ℕ) → Vacant ss (k + 1) v → Vacant (s ∷ ss) k v
    go x None w = tt
    go x (Some i) (j, e, l, free, used) = (suc j, omega arith, omega arith, free, lower)
      where
        lower : (y : ℕ) → y < suc j → is_free (phase_at (s ∷ ss) y) ≡ false
        lower zero h = x
        lower (suc y) h = used y (omega arith)

    at : (t : Bool) → is_free s.phase ≡ t → Vacant ss (k + 1) (vacancy (k + 1) ss) → Vacant (s ∷ ss) k (cond t (Some k) (vacancy (k + 1) ss))
    at true x w = (0, omega arith, omega arith, x, λ y l. absurd (omega arith))
    at false x w = go x (vacancy (k + 1) ss) w

free_phase : (f : Phase) → is_free f ≡ true → f ≡ Phase.Free
free_phase Phase.Free e = refl
free_phase (Phase.Posted r a) e = absurd (true≢false (sym e))
free_phase (Phase.Open o) e = absurd (true≢false (sym e))

pub vacant : (ss : List Slot) (i : ℕ) → vacancy 0 ss ≡ Some i
    → (i < length ss) × (phase_at ss i ≡ Phase.Free) × ((j : ℕ) → j < i → is_free (phase_at ss j) ≡ false)
vacant ss i e =
    let (j, is, l, free, used) = subst (Vacant ss 0) e (vacant_from 0 ss) in
    let same : j ≡ i = omega arith in
    (omega arith, free_phase (phase_at ss i) (ap (λ (n : ℕ). is_free (phase_at ss n)) (sym same) ∙ free), λ x h. used x (omega arith))

-- no used range is overlapped
pub overlaps_none : (r : Receive) (ss : List Slot) → overlaps_some r ss ≡ false → (j : ℕ) → overlaps_use r (phase_at ss j) ≡ false
unfolding overlaps_use
overlaps_none r [] e j = refl
overlaps_none r (s ∷ ss) e zero = or_left (overlaps_use r s.phase) (overlaps_some r ss) e
overlaps_none r (s ∷ ss) e (suc j) = overlaps_none r ss (or_right (overlaps_use r s.phase) (overlaps_some r ss) e) j

-- ---- a slot replaced

pub phase_same : (ss : List Slot) (i : ℕ) (f : Phase) → i < length ss → phase_at (set ss i (slot_with f)) i ≡ f
phase_same ss i f h = ap (λ (s : Slot). s.phase) (get_or-set_same ss i (slot_with f) free_slot h)

pub phase_other : (ss : List Slot) (i j : ℕ) (f : Phase) → (j ≡ i → ⊥) → phase_at (set ss i (slot_with f)) j ≡ phase_at ss j
phase_other ss i j f n = ap (λ (s : Slot). s.phase) (get_or-set_other ss i j (slot_with f) free_slot n)
