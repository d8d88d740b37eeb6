-- Refusal 2 of one peer is what 01 says, clause by clause: the statements of specs/CannotBe.antt.
use Rattle.std.proofs.Common.{◌≡◌, ℕ, suc, ◌+◌, ◌<◌, ◌≤◌, Bool, true, false, not, ◌&&◌, ◌||◌, eqb, leb, ◌≢◌, ◌⊎◌, ◌↔◌, List, [], ◌∷◌, length, sym, refl, ap, ◌∙◌, subst, ap₂, inl, inr, ⊎_elim, true≢false, arith, eqb-true, leb-false}
use borrow.Author.Tests.{eqb-false}
use mathlib.Core.Bool.{false≢true}
use Rattle.peer.specs.CannotBe.{Breaks, CanBeIfNoClauseIsBroken, CannotBeIfAClauseIsBroken, Clause, Uses, granted_above, length_above, one_age, one_id, range_outside, ranges_overlap}
use Rattle.peer.specs.Sentences.{HasByte, OverlapIsASharedByte}
use Rattle.peer.specs.State.{all_fit, clash, is_free, none_clash, overlap, pairs_apart, peer_fits, phase_at, phase_fits}
use Rattle.peer.specs.View.{UsesRange, role_of}
use Rattle.peer.specs.declared.types.Inbound.{Inbound}
use Rattle.peer.specs.declared.types.Peer.{Peer}
use Rattle.peer.specs.declared.types.Phase.{Phase}
use Rattle.peer.specs.declared.types.Receive.{Receive}
use Rattle.peer.specs.declared.types.Slot.{Slot}
use Rattle.laws.proofs.Choosing.{or_cases, or_right, tested}
use Rattle.peer.proofs.Slots.Slots.{used_slot}
use Rattle.peer.proofs.Slots.Valid.{Valid, Within, fits_valid, open_within, posted_within}
use Rattle.peer.proofs.Sentences.SentencesHold.{overlap_is_a_shared_byte}

-- ---- from the test that fails to a slot, or to two

pub and_fails : (a b : Bool) → (a && b) ≡ false → (a ≡ false) ⊎ (b ≡ false)
and_fails true b e = inr e
and_fails false b e = inl refl

one_unfit : (area : ℕ) (ss : List Slot) → all_fit area ss ≡ false → (i : ℕ) × (phase_fits area (phase_at ss i) ≡ false)
one_unfit area [] e = absurd (true≢false e)
one_unfit area (s ∷ ss) e =
    ⊎_elim (λ x. (0, x)) (λ x. let (i, y) = one_unfit area ss x in (suc i, y)) (and_fails (phase_fits area s.phase) (all_fit area ss) e)

not_fails : (t : Bool) → not t ≡ false → t ≡ true
not_fails true e = refl
not_fails false e = absurd (true≢false e)

one_clashes : (f : Phase) (ss : List Slot) → none_clash f ss ≡ false → (j : ℕ) × (clash f (phase_at ss j) ≡ true)
one_clashes f [] e = absurd (true≢false e)
one_clashes f (s ∷ ss) e =
    ⊎_elim (λ x. (0, not_fails (clash f s.phase) x)) (λ x. let (j, y) = one_clashes f ss x in (suc j, y))
    (and_fails (not (clash f s.phase)) (none_clash f ss) e)

two_clash : (ss : List Slot) → pairs_apart ss ≡ false → (i : ℕ) × (j : ℕ) × (i ≢ j) × (clash (phase_at ss i) (phase_at ss j) ≡ true)
unfolding pairs_apart
two_clash [] e = absurd (true≢false e)
two_clash (s ∷ ss) e =
    ⊎_elim (λ x. let (j, y) = one_clashes s.phase ss x in (0, suc j, λ z. omega arith, y))
    (λ x. let (i, j, n, y) = two_clash ss x in (suc i, suc j, λ z. n (omega arith), y))
    (and_fails (none_clash s.phase ss) (pairs_apart ss) e)

-- ---- each way

pub overlap_words : (r s : Receive) → (overlap r s ≡ true) ↔ ((x : ℕ) × HasByte r x × HasByte s x)
unfolding OverlapIsASharedByte
overlap_words = overlap_is_a_shared_byte

-- slots whose ranges overlap cannot stand together
uses_clash : (f g : Phase) (r s : Receive) → UsesRange (role_of f) r → UsesRange (role_of g) s → overlap r s ≡ true → clash f g ≡ true
unfolding clash
uses_clash Phase.Free g r s a b x = absurd a
uses_clash (Phase.Posted q n) Phase.Free r s a b x = absurd b
uses_clash (Phase.Posted q n) (Phase.Posted t m) r s a b x = ap (λ (y : Bool). y || eqb n m) (ap₂ overlap a b ∙ x)
uses_clash (Phase.Posted q n) (Phase.Open t) r s a b x = ap₂ overlap a b ∙ x
uses_clash (Phase.Open q) Phase.Free r s a b x = absurd b
uses_clash (Phase.Open q) (Phase.Posted t m) r s a b x = ap₂ overlap a b ∙ x
uses_clash (Phase.Open q) (Phase.Open t) r s a b x = ap (λ (y : Bool). y || eqb q.message.id t.message.id) (ap₂ overlap a b ∙ x)

module _ (area : ℕ) (p : Peer) where
  abbrev phase : ℕ → Phase
  phase i = phase_at p.slots i

  Broken : Type 0
  Broken = (c : Clause) × Breaks area p c

  uses_of : (i : ℕ) (f : Phase) (r : Receive) → phase i ≡ f → UsesRange (role_of f) r → Uses p i r
  uses_of i f r e u = subst (λ (g : Phase). UsesRange (role_of g) r) (sym e) u

  unfit_breaks : (i : ℕ) (f : Phase) → phase i ≡ f → phase_fits area f ≡ false → Broken
  unfolding Broken phase_fits
  unfit_breaks i Phase.Free e x = absurd (true≢false x)
  unfit_breaks i (Phase.Posted r a) e x = (range_outside, (i, r, uses_of i (Phase.Posted r a) r e refl, leb-false _ _ x))
  unfit_breaks i (Phase.Open o) e x =
      ⊎_elim (λ y. (range_outside, (i, o.receive, uses_of i (Phase.Open o) o.receive e refl, leb-false _ _ y)))
      (λ y. ⊎_elim (λ z. (length_above, (i, o, e, leb-false _ _ z))) (λ z. (granted_above, (i, o, e, leb-false _ _ z)))
      (and_fails (leb o.message.length o.receive.capacity) (leb o.message.granted o.message.length) y))
      (and_fails (leb (o.receive.start + o.receive.capacity) area) _ x)

  clash_breaks : (i j : ℕ) → i ≢ j → (f g : Phase) → phase i ≡ f → phase j ≡ g → clash f g ≡ true → Broken
  unfolding Broken clash
  clash_breaks i j n Phase.Free g e d x = absurd (false≢true x)
  clash_breaks i j n (Phase.Posted r a) Phase.Free e d x = absurd (false≢true x)
  clash_breaks i j n (Phase.Posted r a) (Phase.Posted s b) e d x =
      ⊎_elim (λ y. (ranges_overlap, (i, j, n, r, s, uses_of i _ r e refl, uses_of j _ s d refl, (overlap_words r s).0 y)))
      (λ y. (one_age, (i, j, n, a, r, s, e, d ∙ ap (Phase.Posted s) (sym (eqb-true a b y)))))
      (or_cases (overlap r s) (eqb a b) x)
  clash_breaks i j n (Phase.Posted r a) (Phase.Open q) e d x =
      (ranges_overlap, (i, j, n, r, q.receive, uses_of i _ r e refl, uses_of j _ q.receive d refl, (overlap_words r q.receive).0 x))
  clash_breaks i j n (Phase.Open o) Phase.Free e d x = absurd (false≢true x)
  clash_breaks i j n (Phase.Open o) (Phase.Posted s b) e d x =
      (ranges_overlap, (i, j, n, o.receive, s, uses_of i _ o.receive e refl, uses_of j _ s d refl, (overlap_words o.receive s).0 x))
  clash_breaks i j n (Phase.Open o) (Phase.Open q) e d x =
      ⊎_elim
      (λ y. (ranges_overlap, (i, j, n, o.receive, q.receive, uses_of i _ o.receive e refl, uses_of j _ q.receive d refl, (overlap_words o.receive q.receive).0 y)))
      (λ y. (one_id, (i, j, n, o, q, e, d, eqb-true o.message.id q.message.id y)))
      (or_cases (overlap o.receive q.receive) (eqb o.message.id q.message.id) x)

  given : peer_fits area p ≡ false → Broken
  unfolding peer_fits
  given e =
      ⊎_elim (λ x. let (i, y) = one_unfit area p.slots x in unfit_breaks i (phase i) refl y)
      (λ x. let (i, j, n, y) = two_clash p.slots x in clash_breaks i j n (phase i) (phase j) refl refl y)
      (and_fails (all_fit area p.slots) (pairs_apart p.slots) e)

  -- ---- and back: in a peer that can be no clause is broken

  used_inside : (i : ℕ) (f : Phase) (r : Receive) → phase i ≡ f → UsesRange (role_of f) r → i < length p.slots
  used_inside i Phase.Free r e u = absurd u
  used_inside i (Phase.Posted s a) r e u = used_slot p.slots i (ap is_free e)
  used_inside i (Phase.Open o) r e u = used_slot p.slots i (ap is_free e)

  used_within : (f : Phase) (r : Receive) → UsesRange (role_of f) r → phase_fits area f ≡ true → r.start + r.capacity ≤ area
  used_within Phase.Free r u x = absurd u
  used_within (Phase.Posted s a) r u x = subst (λ (q : Receive). q.start + q.capacity ≤ area) u (posted_within area s a x)
  used_within (Phase.Open o) r u x = subst (λ (q : Receive). q.start + q.capacity ≤ area) u (open_within area o x).in_area

  module _ (v : Valid area p.slots) where
    within : (i : ℕ) (o : Inbound) → phase i ≡ Phase.Open o → Within area o
    within i o e = open_within area o (ap (phase_fits area) (sym e) ∙ v.each i)

    apart : (i j : ℕ) (f g : Phase) → i ≢ j → phase i ≡ f → phase j ≡ g → is_free f ≡ false → is_free g ≡ false → clash f g ≡ false
    apart i j f g n e d x y =
        ap₂ clash (sym e) (sym d) ∙ v.pairs i j (used_slot p.slots i (ap is_free e ∙ x)) (used_slot p.slots j (ap is_free d ∙ y)) n

    unbroken : Broken → ⊥
    unfolding Broken clash
    unbroken (range_outside, (i, r, u, l)) = omega (arith, used_within (phase i) r u (v.each i))
    unbroken (ranges_overlap, (i, j, n, r, s, a, b, w)) =
        true≢false (sym (uses_clash (phase i) (phase j) r s a b ((overlap_words r s).1 w))
        ∙ v.pairs i j (used_inside i (phase i) r refl a) (used_inside j (phase j) s refl b) n)
    unbroken (one_id, (i, j, n, o, q, e, d, x)) =
        eqb-false _ _ (or_right (overlap o.receive q.receive) _ (apart i j (Phase.Open o) (Phase.Open q) n e d refl refl)) x
    unbroken (one_age, (i, j, n, a, r, s, e, d)) =
        eqb-false a a (or_right (overlap r s) _ (apart i j (Phase.Posted r a) (Phase.Posted s a) n e d refl refl)) refl
    unbroken (length_above, (i, o, e, l)) = omega (arith, (within i o e).in_range)
    unbroken (granted_above, (i, o, e, l)) = omega (arith, (within i o e).in_length)

  asked : Broken → peer_fits area p ≡ false
  asked b = ⊎_elim (λ x. absurd (unbroken (fits_valid area p x) b)) (λ x. x) (tested (peer_fits area p))

-- ---- the statements

pub cannot_be_if_a_clause_is_broken : CannotBeIfAClauseIsBroken
unfolding CannotBeIfAClauseIsBroken Broken
cannot_be_if_a_clause_is_broken area p = (given area p, asked area p)

pub can_be_if_no_clause_is_broken : CanBeIfNoClauseIsBroken
unfolding CanBeIfNoClauseIsBroken Broken
can_be_if_no_clause_is_broken area p = (
  λ e c b. true≢false (sym e ∙ asked area p (c, b)),
  λ n. ⊎_elim (λ x. x) (λ x. let (c, b) = given area p x in absurd (n c b)) (tested (peer_fits area p)),
)
