-- The slots without their ages are the plain receiver's roles: what the tests say of the one they say of the other.
use Rattle.std.proofs.Common.{◌≡◌, ℕ, zero, suc, ◌+◌, Bool, true, false, ◌||◌, eqb, ltb, List, [], ◌∷◌, length, get_or, drop, set, sym, refl, ap, ◌∙◌, ap₂, subst₂, true≢false, arith, cond, add-one}
use Rattle.std.specs.Prelude.{Option, Some, None}
use lib.ListN.{length-map}
use mathlib.Core.Bool.{false≢true}
use Rattle.laws.specs.Choose.{pick}
use Rattle.peer.specs.Calls.{renumbered, renumbered_phase, overlaps_some}
use Rattle.peer.specs.Expected.{any_overlap, lowest_idle}
use Rattle.peer.specs.Matching.{find_open, fits, older, older_here, oldest, open_here, or_else, vacancy}
use Rattle.peer.specs.Plain.{Entry, Role, first_here, first_posted, idle, open_in, roles, slot_entry}
use Rattle.peer.specs.State.{overlaps_use, is_free, overlap, phase_at, slot_with}
use Rattle.peer.specs.View.{role_of, roles_of}
use Rattle.peer.specs.declared.types.Incoming.{Incoming}
use Rattle.peer.specs.declared.types.Phase.{Phase}
use Rattle.peer.specs.declared.types.Receive.{Receive}
use Rattle.peer.specs.declared.types.Slot.{Slot}

-- ---- slot by slot

pub role_of_slot : (ss : List Slot) (i : ℕ) → get_or (roles_of ss) i idle ≡ role_of (phase_at ss i)
role_of_slot [] i = refl
role_of_slot (s ∷ ss) zero = refl
role_of_slot (s ∷ ss) (suc i) = role_of_slot ss i

pub role_of_entry : (es : List Entry) (i : ℕ) → get_or (roles es) i idle ≡ (slot_entry es i).role
role_of_entry [] i = refl
role_of_entry (e ∷ es) zero = refl
role_of_entry (e ∷ es) (suc i) = role_of_entry es i

pub role_at : (ss : List Slot) (es : List Entry) → roles_of ss ≡ roles es → (i : ℕ) → role_of (phase_at ss i) ≡ (slot_entry es i).role
role_at ss es e i = sym (role_of_slot ss i) ∙ ap (λ (us : List Role). get_or us i idle) e ∙ role_of_entry es i

pub role_lengths : (ss : List Slot) (es : List Entry) → roles_of ss ≡ roles es → length ss ≡ length es
role_lengths ss es e = sym (length-map ss _) ∙ ap length e ∙ length-map es _

-- a slot and an entry replaced alike
pub roles_set : (ss : List Slot) (es : List Entry) (i : ℕ) (f : Phase) (e : Entry) → roles_of ss ≡ roles es → role_of f ≡ e.role
    → roles_of (set ss i (slot_with f)) ≡ roles (set es i e)
roles_set ss es i f e x y = of_slots ss i ∙ ap₂ (λ (us : List Role) (u : Role). set us i u) x y ∙ sym (of_entries es i)
  where
    of_slots : (ss : List Slot) (i : ℕ) → roles_of (set ss i (slot_with f)) ≡ set (roles_of ss) i (role_of f)
    of_slots [] i = refl
    of_slots (s ∷ ss) zero = refl
    of_slots (s ∷ ss) (suc i) = ap (λ (us : List Role). role_of s.phase ∷ us) (of_slots ss i)

    of_entries : (es : List Entry) (i : ℕ) → roles (set es i e) ≡ set (roles es) i e.role
    of_entries [] i = refl
    of_entries (x ∷ es) zero = refl
    of_entries (x ∷ es) (suc i) = ap (λ (us : List Role). x.role ∷ us) (of_entries es i)

-- renumbering changes ages alone
pub renumbered_role : (all : List Slot) (f : Phase) → role_of (renumbered_phase all f) ≡ role_of f
renumbered_role all Phase.Free = refl
renumbered_role all (Phase.Posted r a) = refl
renumbered_role all (Phase.Open o) = refl

pub roles_renumbered : (all ss : List Slot) → roles_of (renumbered all ss) ≡ roles_of ss
unfolding renumbered
roles_renumbered all [] = refl
roles_renumbered all (s ∷ ss) = ap₂ (λ (u : Role) (us : List Role). u ∷ us) (renumbered_role all s.phase) (roles_renumbered all ss)

-- ---- the tests

pub open_same : (id k : ℕ) (ss : List Slot) → find_open id k ss ≡ open_in id k (roles_of ss)
unfolding find_open open_here open_in
open_same id k [] = refl
open_same id k (s ∷ ss) = at s.phase (open_same id (suc k) ss)
  where
    at : (f : Phase) → find_open id (suc k) ss ≡ open_in id (suc k) (roles_of ss)
        → or_else (open_here id k f) (find_open id (suc k) ss) ≡ open_in id k (role_of f ∷ roles_of ss)
    at Phase.Free e = e
    at (Phase.Posted r a) e = e
    at (Phase.Open o) e = pass (eqb o.message.id id)
      where
        pass : (t : Bool) → or_else (pick t (Some (k, o)) None) (find_open id (suc k) ss) ≡ pick t (Some (k, o)) (open_in id (suc k) (roles_of ss))
        pass true = unfold pick in refl
        pass false = unfold pick in e

pub vacancy_same : (k : ℕ) (ss : List Slot) → vacancy k ss ≡ lowest_idle k (roles_of ss)
unfolding lowest_idle
vacancy_same k [] = refl
vacancy_same k (s ∷ ss) = at s.phase (rw add-one (vacancy_same (suc k) ss))
  where
    at : (f : Phase) → vacancy (k + 1) ss ≡ lowest_idle (suc k) (roles_of ss)
        → cond (is_free f) (Some k) (vacancy (k + 1) ss) ≡ lowest_idle k (role_of f ∷ roles_of ss)
    at Phase.Free e = refl
    at (Phase.Posted r a) e = e
    at (Phase.Open o) e = e

pub overlap_same : (r : Receive) (ss : List Slot) → overlaps_some r ss ≡ any_overlap r (roles_of ss)
unfolding overlaps_use any_overlap
overlap_same r [] = refl
overlap_same r (s ∷ ss) = at s.phase (overlap_same r ss)
  where
    at : (f : Phase) → overlaps_some r ss ≡ any_overlap r (roles_of ss) → (overlaps_use r f || overlaps_some r ss) ≡ any_overlap r (role_of f ∷ roles_of ss)
    at Phase.Free e = e
    at (Phase.Posted s a) e = ap (λ (t : Bool). overlap r s || t) e
    at (Phase.Open o) e = ap (λ (t : Bool). overlap r o.receive || t) e

-- ---- the receive posted first

-- the order of ages is the order of posts
abbrev pub Ordered : List Slot → List Entry → Type 0
Ordered ss es =
    (j k : ℕ) (r s : Receive) (a b : ℕ) → phase_at ss j ≡ Phase.Posted r a → phase_at ss k ≡ Phase.Posted s b
    → ltb a b ≡ ltb (slot_entry es j).serial (slot_entry es k).serial

-- the same receive, by its age and by its posts before
pub data SameFit (ss : List Slot) (es : List Entry) : Option (ℕ × Receive × ℕ) → Option (ℕ × Receive × ℕ) → Type 0 where
  unfit : SameFit ss es None None
  to : (i : ℕ) (r : Receive) (a : ℕ) → phase_at ss i ≡ Phase.Posted r a → SameFit ss es (Some (i, r, a)) (Some (i, r, (slot_entry es i).serial))

module _ (ss : List Slot) (es : List Entry) (ordered : Ordered ss es) (h : Incoming) where
  older_fit : (best best' : Option (ℕ × Receive × ℕ)) (k : ℕ) (r : Receive) (a : ℕ) → phase_at ss k ≡ Phase.Posted r a → SameFit ss es best best'
      → SameFit ss es (older best k r a) (older best' k r (slot_entry es k).serial)
  unfolding older
  older_fit _ _ k r a e unfit = to k r a e
  older_fit _ _ k r a e (to i q b x) = go (ltb a b) (ltb (slot_entry es k).serial (slot_entry es i).serial) (ordered k i r q a b e x)
    where
      go : (t u : Bool) → t ≡ u → SameFit ss es (pick t (Some (k, r, a)) (Some (i, q, b))) (pick u (Some (k, r, (slot_entry es k).serial)) (Some (i, q, (slot_entry es i).serial)))
      go true true y = unfold pick in to k r a e
      go false false y = unfold pick in to i q b x
      go true false y = absurd (true≢false y)
      go false true y = absurd (false≢true y)

  here_fit : (best best' : Option (ℕ × Receive × ℕ)) (k : ℕ) (f : Phase) → phase_at ss k ≡ f → SameFit ss es best best'
      → SameFit ss es (older_here h best k f) (first_here h best' k (role_of f) (slot_entry es k).serial)
  unfolding older_here first_here
  here_fit best best' k Phase.Free e s = s
  here_fit best best' k (Phase.Open o) e s = s
  here_fit best best' k (Phase.Posted r a) e s = go (fits h r)
    where
      go : (t : Bool) → SameFit ss es (pick t (older best k r a) best) (pick t (older best' k r (slot_entry es k).serial) best')
      go true = unfold pick in older_fit best best' k r a e s
      go false = unfold pick in s

  -- over the slots and entries from k on
  fit_from : (k : ℕ) (rest : List Slot) (rest' : List Entry) (best best' : Option (ℕ × Receive × ℕ)) → roles_of rest ≡ roles rest'
      → ((j : ℕ) → phase_at rest j ≡ phase_at ss (k + j)) → ((j : ℕ) → slot_entry rest' j ≡ slot_entry es (k + j)) → SameFit ss es best best'
      → SameFit ss es (oldest h k best rest) (first_posted h k best' rest')
  unfolding oldest first_posted
  fit_from k [] [] best best' e p q s = s
  fit_from k [] (y ∷ ys) best best' e p q s = absurd (omega (arith, ap length e))
  fit_from k (x ∷ xs) [] best best' e p q s = absurd (omega (arith, ap length e))
  fit_from k (x ∷ xs) (y ∷ ys) best best' e p q s =
      fit_from (suc k) xs ys _ _ rest (λ j. p (suc j) ∙ ap (phase_at ss) (omega arith)) (λ j. q (suc j) ∙ ap (slot_entry es) (omega arith))
      (subst₂ (λ (u : Role) (n : ℕ). SameFit ss es (older_here h best k x.phase) (first_here h best' k u n)) role
      (sym (ap (λ (z : Entry). z.serial) here))
      (here_fit best best' k x.phase (sym (p 0 ∙ ap (phase_at ss) (omega arith))) s))
    where
      role : role_of x.phase ≡ y.role
      role = ap (λ (us : List Role). get_or us 0 idle) e

      rest : roles_of xs ≡ roles ys
      rest = ap (λ (us : List Role). drop 1 us) e

      here : y ≡ slot_entry es k
      here = q 0 ∙ ap (slot_entry es) (omega arith)

  pub fit_same : roles_of ss ≡ roles es → SameFit ss es (oldest h 0 None ss) (first_posted h 0 None es)
  fit_same e = fit_from 0 ss es None None e (λ j. ap (phase_at ss) (omega arith)) (λ j. ap (slot_entry es) (omega arith)) unfit
