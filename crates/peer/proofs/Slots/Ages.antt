-- Renumbered ages: each receive keeps its range and its order, no two get the same age, and a new one is younger than all.
use Rattle.std.proofs.Common.{◌≡◌, ℕ, zero, suc, ◌<◌, ◌≤◌, true, false, eqb, ltb, List, [], ◌∷◌, length, sym, refl, ap, ◌∙◌, ap₂, arith, ltb-true, le-ltb, lt-ltb, ne_eqb}
use borrow.Author.Tests.{eqb-false}
use native.Mathlib.Decide.{dec_lt}
use Rattle.laws.specs.Choose.{pick}
use Rattle.peer.specs.Calls.{count_older, count_posted, one_older, one_posted, renumbered, renumbered_phase}
use Rattle.peer.specs.State.{clash, overlap, phase_at, phase_fits}
use Rattle.peer.specs.declared.types.Phase.{Phase}
use Rattle.peer.specs.declared.types.Receive.{Receive}
use Rattle.peer.specs.declared.types.Slot.{Slot}
use Rattle.laws.proofs.Choosing.{branch, or_left, or_neither, or_right, pick_false, pick_true}
use Rattle.peer.proofs.Slots.Valid.{Valid}

pub length_renumbered : (all ss : List Slot) → length (renumbered all ss) ≡ length ss
unfolding renumbered
length_renumbered all [] = refl
length_renumbered all (s ∷ ss) = ap suc (length_renumbered all ss)

pub phase_renumbered : (all ss : List Slot) (j : ℕ) → phase_at (renumbered all ss) j ≡ renumbered_phase all (phase_at ss j)
unfolding renumbered
phase_renumbered all [] j = refl
phase_renumbered all (s ∷ ss) zero = refl
phase_renumbered all (s ∷ ss) (suc j) = phase_renumbered all ss j

-- ---- how many are older

one_le : (a b : ℕ) (f : Phase) → a ≤ b → one_older a f ≤ one_older b f
one_le a b Phase.Free h = omega arith
one_le a b (Phase.Open o) h = omega arith
one_le a b (Phase.Posted r c) h =
    branch (λ (x : ℕ). x ≤ pick (ltb c b) 1 0) (ltb c a) 1 0
    (λ x. omega (arith, pick_true {A = ℕ} {t = ltb c b} 1 0 (lt-ltb c b (omega (arith, ltb-true c a x)))))
    (λ x. omega arith)

older_le : (a b : ℕ) (ss : List Slot) → a ≤ b → count_older a ss ≤ count_older b ss
unfolding count_older
older_le a b [] h = omega arith
older_le a b (s ∷ ss) h = omega (arith, one_le a b s.phase h, older_le a b ss h)

one_posted_lem : (a : ℕ) (f : Phase) → one_older a f ≤ one_posted f
one_posted_lem a Phase.Free = omega arith
one_posted_lem a (Phase.Open o) = omega arith
one_posted_lem a (Phase.Posted r c) = branch (λ (x : ℕ). x ≤ 1) (ltb c a) 1 0 (λ x. omega arith) (λ x. omega arith)

older_posted : (a : ℕ) (ss : List Slot) → count_older a ss ≤ count_posted ss
unfolding count_older count_posted
older_posted a [] = omega arith
older_posted a (s ∷ ss) = omega (arith, one_posted_lem a s.phase, older_posted a ss)

-- a receive of age a is not older than itself, but older than b
own_older : (a b : ℕ) (r : Receive) → a < b → (one_older a (Phase.Posted r a) ≡ 0) × (one_older b (Phase.Posted r a) ≡ 1)
own_older a b r h = (pick_false {A = ℕ} 1 0 (le-ltb a a (omega arith)), pick_true {A = ℕ} 1 0 (lt-ltb a b h))

-- older receives get lower ages
pub older_lt : (ss : List Slot) (j : ℕ) (r : Receive) (a b : ℕ) → j < length ss → phase_at ss j ≡ Phase.Posted r a → a < b → count_older a ss < count_older b ss
unfolding count_older
older_lt [] j r a b l e h = absurd (omega arith)
older_lt (s ∷ ss) zero r a b l e h =
    let own = own_older a b r h in
    omega (arith, ap (one_older a) e, ap (one_older b) e, own.0, own.1, older_le a b ss (omega arith))
older_lt (s ∷ ss) (suc j) r a b l e h = omega (arith, one_le a b s.phase (omega arith), older_lt ss j r a b (omega arith) e h)

-- every receive's new age is below the number of posted ones
pub older_below : (ss : List Slot) (j : ℕ) (r : Receive) (a : ℕ) → j < length ss → phase_at ss j ≡ Phase.Posted r a → count_older a ss < count_posted ss
unfolding count_older count_posted
older_below [] j r a l e = absurd (omega arith)
older_below (s ∷ ss) zero r a l e =
    omega (arith, ap (one_older a) e, ap one_posted e, (own_older a (suc a) r (omega arith)).0, older_posted a ss)
older_below (s ∷ ss) (suc j) r a l e = omega (arith, one_posted_lem a s.phase, older_below ss j r a (omega arith) e)

-- the order of two receives is kept
pub order_kept : (ss : List Slot) (j k : ℕ) (r s : Receive) (a b : ℕ) → j < length ss → phase_at ss j ≡ Phase.Posted r a
    → ltb (count_older a ss) (count_older b ss) ≡ ltb a b
order_kept ss j k r s a b l e = elim (dec_lt a b) as (λ d. ltb (count_older a ss) (count_older b ss) ≡ ltb a b) [
  | yes h ↦ lt-ltb _ _ (older_lt ss j r a b l e h) ∙ sym (lt-ltb a b h)
  | no h ↦ le-ltb _ _ (older_le b a ss (omega (arith, h))) ∙ sym (le-ltb a b (omega (arith, h)))
]

-- ---- a peer that can be stays one

clash_renumbered : (ss : List Slot) (j k : ℕ) (f g : Phase) → j < length ss → k < length ss → phase_at ss j ≡ f → phase_at ss k ≡ g → clash f g ≡ false
    → clash (renumbered_phase ss f) (renumbered_phase ss g) ≡ false
unfolding clash
clash_renumbered ss j k Phase.Free g p q x y e = refl
clash_renumbered ss j k (Phase.Posted r a) Phase.Free p q x y e = refl
clash_renumbered ss j k (Phase.Posted r a) (Phase.Posted s b) p q x y e =
    or_neither (overlap r s) (eqb (count_older a ss) (count_older b ss)) (or_left (overlap r s) (eqb a b) e)
    (ne_eqb _ _ (λ z. differ z (dec_lt a b)))
  where
    differ : count_older a ss ≡ count_older b ss → Dec (a < b) → ⊥
    differ z (yes h) = omega (arith, older_lt ss j r a b p x h)
    differ z (no h) =
        let n : b < a = omega (arith, h, eqb-false a b (or_right (overlap r s) (eqb a b) e)) in
        omega (arith, older_lt ss k s b a q y n)
clash_renumbered ss j k (Phase.Posted r a) (Phase.Open o) p q x y e = e
clash_renumbered ss j k (Phase.Open o) Phase.Free p q x y e = refl
clash_renumbered ss j k (Phase.Open o) (Phase.Posted s b) p q x y e = e
clash_renumbered ss j k (Phase.Open o) (Phase.Open m) p q x y e = e

fits_renumbered : (area : ℕ) (all : List Slot) (f : Phase) → phase_fits area f ≡ true → phase_fits area (renumbered_phase all f) ≡ true
unfolding phase_fits
fits_renumbered area all Phase.Free e = refl
fits_renumbered area all (Phase.Posted r a) e = e
fits_renumbered area all (Phase.Open o) e = e

pub valid_renumbered : (area : ℕ) (ss : List Slot) → Valid area ss → Valid area (renumbered ss ss)
valid_renumbered area ss v =
    record {
      each = λ j. ap (phase_fits area) (phase_renumbered ss ss j) ∙ fits_renumbered area ss (phase_at ss j) (v.each j);
      pairs = λ j k p q n.
          let p' : j < length ss = rw (length_renumbered ss ss) at p in
          let q' : k < length ss = rw (length_renumbered ss ss) at q in
          ap₂ clash (phase_renumbered ss ss j) (phase_renumbered ss ss k)
          ∙ clash_renumbered ss j k (phase_at ss j) (phase_at ss k) p' q' refl refl (v.pairs j k p' q' n);
    }
