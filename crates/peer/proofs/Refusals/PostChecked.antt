-- Posts, cancels and reports are refused by the first of their checks that fails, by the roles that their slots have.
use Rattle.std.proofs.Common.{◌≡◌, ℕ, zero, suc, ◌+◌, ◌<◌, true, false, ltb, leb, List, [], ◌∷◌, length, get_or, sym, refl, ap, ◌∙◌, subst, inl, inr, ⊎_elim, true≢false, arith, ltb-false, ltb-true, leb-false, leb-true}
use Rattle.std.specs.Prelude.{Option, Some, None}
use mathlib.Core.Bool.{false≢true}
use Rattle.protocol.specs.Refusals.{bad_length, overlaps}
use Rattle.peer.specs.Calls.{cancel, post, report}
use Rattle.laws.specs.Choose.{pick}
use Rattle.peer.specs.Checks.{CallCheck, CallFails, checks_of, in_use, none_free, call_refused_as}
use Rattle.peer.specs.Expected.{any_overlap, expect_place, lowest_idle}
use Rattle.peer.specs.Sentences.{HasByte}
use Rattle.peer.specs.Says.{refused, said, say}
use Rattle.peer.specs.Plain.{Role, idle, receiving, waiting}
use Rattle.peer.specs.State.{overlap, slot_count}
use Rattle.peer.specs.View.{UsesRange, View}
use Rattle.peer.specs.declared.types.Answer.{Answer}
use Rattle.peer.specs.declared.types.Inbound.{Inbound}
use Rattle.peer.specs.declared.types.Receive.{Receive}
use Rattle.laws.proofs.Choosing.{branch, or_cases, or_left, or_right}
use Rattle.peer.proofs.Slots.CannotBeLaws.{overlap_words}
use Rattle.peer.proofs.Refusals.FirstLaws.{Gone}

-- an answer that is no refusal
abbrev pub Unrefused : Answer → Type 0
Unrefused a = (said a).word ≡ refused → ⊥

abbrev pub GoneFor : ℕ → ℕ → View → List CallCheck → Answer → Type 0
GoneFor area limit v cs a = Gone (CallFails area limit v) call_refused_as cs (said a)

-- ---- 19

abbrev InWay : Receive → List Role → Type 0
InWay r us = (i : ℕ) × (s : Receive) × UsesRange (get_or us i idle) s × ((x : ℕ) × HasByte r x × HasByte s x)

further : (r : Receive) (u : Role) (us : List Role) → InWay r us → InWay r (u ∷ us)
further r u us (i, s, x, w) = (suc i, s, x, w)

overlap_given : (r : Receive) (us : List Role) → any_overlap r us ≡ true → InWay r us
unfolding any_overlap
overlap_given r [] e = absurd (false≢true e)
overlap_given r (idle ∷ us) e = further r idle us (overlap_given r us e)
overlap_given r (waiting s ∷ us) e =
    ⊎_elim (λ x. (0, s, refl, (overlap_words r s).0 x)) (λ x. further r (waiting s) us (overlap_given r us x)) (or_cases (overlap r s) (any_overlap r us) e)
overlap_given r (receiving o ∷ us) e =
    ⊎_elim (λ x. (0, o.receive, refl, (overlap_words r o.receive).0 x)) (λ x. further r (receiving o) us (overlap_given r us x))
    (or_cases (overlap r o.receive) (any_overlap r us) e)

overlap_asked : (r : Receive) (us : List Role) → any_overlap r us ≡ false → (i : ℕ) (s : Receive) → UsesRange (get_or us i idle) s
    → ((x : ℕ) × HasByte r x × HasByte s x) → ⊥
unfolding any_overlap
overlap_asked r [] e i s u w = u
overlap_asked r (idle ∷ us) e zero s u w = u
overlap_asked r (idle ∷ us) e (suc i) s u w = overlap_asked r us e i s u w
overlap_asked r (waiting t ∷ us) e zero s u w =
    true≢false (sym (ap (overlap r) u ∙ (overlap_words r s).1 w) ∙ or_left (overlap r t) (any_overlap r us) e)
overlap_asked r (waiting t ∷ us) e (suc i) s u w = overlap_asked r us (or_right (overlap r t) (any_overlap r us) e) i s u w
overlap_asked r (receiving o ∷ us) e zero s u w =
    true≢false (sym (ap (overlap r) u ∙ (overlap_words r s).1 w) ∙ or_left (overlap r o.receive) (any_overlap r us) e)
overlap_asked r (receiving o ∷ us) e (suc i) s u w = overlap_asked r us (or_right (overlap r o.receive) (any_overlap r us) e) i s u w

-- ---- 18

abbrev Placed : ℕ → List Role → Option ℕ → Type 0
Placed k us None = (i : ℕ) → i < length us → get_or us i idle ≡ idle → ⊥
Placed k us (Some j) = (i : ℕ) × (i < length us) × (get_or us i idle ≡ idle)

not_idle : (k : ℕ) (u : Role) (us : List Role) (y : Option ℕ) → (u ≡ idle → ⊥) → Placed (suc k) us y → Placed k (u ∷ us) y
not_idle k u us None n w = at
  where
    at : (i : ℕ) → i < suc (length us) → get_or (u ∷ us) i idle ≡ idle → ⊥
    at zero l e = n e
    at (suc i) l e = w i (omega arith) e
not_idle k u us (Some j) n (i, l, e) = (suc i, omega arith, e)

placed : (k : ℕ) (us : List Role) → Placed k us (lowest_idle k us)
unfolding lowest_idle
placed k [] = λ i l e. omega arith
placed k (idle ∷ us) = (0, omega arith, refl)
placed k (waiting r ∷ us) = not_idle k (waiting r) us (lowest_idle (suc k) us) (λ e. let z : ◌≡◌ {A = ℕ} 0 1 = cc in omega arith) (placed (suc k) us)
placed k (receiving o ∷ us) = not_idle k (receiving o) us (lowest_idle (suc k) us) (λ e. let z : ◌≡◌ {A = ℕ} 0 1 = cc in omega arith) (placed (suc k) us)

-- ---- the calls

module _ (area limit : ℕ) (v : View) where
  -- the view's roles are those of a list of eight
  module _ (us : List Role) (same : (i : ℕ) → v.role i ≡ get_or us i idle) (eight : length us ≡ slot_count) where
    place_gone : (y : Option ℕ) → Placed 0 us y → GoneFor area limit v (none_free ∷ []) (expect_place y)
    place_gone None w = inl (λ i l e. w i (omega (arith, eight)) (sym (same i) ∙ e), refl)
    place_gone (Some j) (i, l, e) = inr (λ n. n i (omega (arith, eight)) (same i ∙ e), λ x. let z : ◌≡◌ {A = ℕ} 0 1 = cc in omega arith)

    used : (r : Receive) → any_overlap r us ≡ true → CallFails area limit v (in_use r)
    used r y = let (i, s, u, w) = overlap_given r us y in (i, s, subst (λ (x : Role). UsesRange x s) (sym (same i)) u, w)

    unused : (r : Receive) → any_overlap r us ≡ false → CallFails area limit v (in_use r) → ⊥
    unused r y (i, s, u, w) = overlap_asked r us y i s (subst (λ (x : Role). UsesRange x s) (same i) u) w

    -- "Post: .. 11, 19, 18"
    pub post_gone : (r : Receive) → GoneFor area limit v (checks_of (post r))
        (pick (ltb area (r.start + r.capacity)) (Answer.Refused bad_length) (pick (any_overlap r us) (Answer.Refused overlaps) (expect_place (lowest_idle 0 us))))
    post_gone r =
        branch (GoneFor area limit v (checks_of (post r))) _ _ _ (λ x. inl (ltb-true _ _ x, refl)) (λ x.
        branch (GoneFor area limit v (checks_of (post r))) _ _ _
        (λ y. inr (λ l. omega (arith, ltb-false area (r.start + r.capacity) x), inl (used r y, refl)))
        (λ y. inr (λ l. omega (arith, ltb-false area (r.start + r.capacity) x), inr (unused r y, place_gone (lowest_idle 0 us) (placed 0 us)))))

  -- 20, where the slot is not there
  pub slot_beyond : (i : ℕ) (a : Answer) → leb slot_count i ≡ true → said a ≡ say refused (20 ∷ [])
      → GoneFor area limit v (checks_of (cancel i)) a × GoneFor area limit v (checks_of (report i)) a
  slot_beyond i a x e = (inl (inl (leb-true slot_count i x), e), inl (inl (leb-true slot_count i x), e))

  -- a slot that is used, and one that is not
  pub cancel_free : (i : ℕ) (a : Answer) → v.role i ≡ idle → said a ≡ say refused (20 ∷ [])
      → GoneFor area limit v (checks_of (cancel i)) a
  cancel_free i a x e = inl (inr x, e)

  pub cancel_used : (i : ℕ) (a : Answer) → leb slot_count i ≡ false → (v.role i ≡ idle → ⊥) → Unrefused a → GoneFor area limit v (checks_of (cancel i)) a
  cancel_used i a l n e = inr (λ w. ⊎_elim (λ x. omega (arith, leb-false slot_count i l)) n w, e)

  pub report_unopened : (i : ℕ) (a : Answer) → ((o : Inbound) → v.role i ≡ receiving o → ⊥) → said a ≡ say refused (20 ∷ [])
      → GoneFor area limit v (checks_of (report i)) a
  report_unopened i a n e = inl (inr n, e)

  pub report_open : (i : ℕ) (o : Inbound) (a : Answer) → leb slot_count i ≡ false → v.role i ≡ receiving o → Unrefused a
      → GoneFor area limit v (checks_of (report i)) a
  report_open i o a l x e = inr (λ w. ⊎_elim (λ y. omega (arith, leb-false slot_count i l)) (λ n. n o x) w, e)
