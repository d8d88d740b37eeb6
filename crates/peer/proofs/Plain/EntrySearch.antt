-- What the searches over the plain receiver's entries find: the open message under an id, and of the receives that fit the one posted first.
use Rattle.std.proofs.Common.{◌≡◌, ℕ, zero, suc, ◌+◌, ◌≤◌, true, ltb, List, [], ◌∷◌, sym, ap, ◌∙◌, subst, le_refl, arith, ltb-false, ltb-true}
use Rattle.std.specs.Prelude.{Option, Some, None}
use Rattle.peer.specs.Matching.{fits, older}
use Rattle.peer.specs.Plain.{Entry, Role, first_here, first_posted, idle, receiving, slot_entry, waiting}
use Rattle.peer.specs.declared.types.Incoming.{Incoming}
use Rattle.peer.specs.declared.types.Receive.{Receive}
use Rattle.laws.proofs.Choosing.{branch, pick_either, pick_true}

-- ---- the receive posted first

-- entry i waits with a receive that fits, and of all such it was posted first
pub record Foremost (h : Incoming) (es : List Entry) (i : ℕ) (r : Receive) (serial : ℕ) : Type 0 where
  pub waits : (slot_entry es i).role ≡ waiting r
  pub number : serial ≡ (slot_entry es i).serial
  pub fit : fits h r ≡ true
  pub first : (j : ℕ) (s : Receive) → (slot_entry es j).role ≡ waiting s → fits h s ≡ true → serial ≤ (slot_entry es j).serial

abbrev FitsAt : Incoming → List Entry → Option (ℕ × Receive × ℕ) → Type 0
FitsAt h es None = Unit {0}
FitsAt h es (Some (i, r, serial)) = ((slot_entry es i).role ≡ waiting r) × (serial ≡ (slot_entry es i).serial) × (fits h r ≡ true)

abbrev pub AtMost : ℕ → Option (ℕ × Receive × ℕ) → Type 0
AtMost n None = ⊥
AtMost n (Some (i, r, serial)) = serial ≤ n

module _ (h : Incoming) where
  -- one entry: what was found so far fits, and is at most what it was
  fits_here : (es : List Entry) (best : Option (ℕ × Receive × ℕ)) (k : ℕ) (u : Role) (s : ℕ) → (slot_entry es k).role ≡ u → s ≡ (slot_entry es k).serial → FitsAt h es best
      → FitsAt h es (first_here h best k u s)
  unfolding first_here older
  fits_here es best k idle s a b f = f
  fits_here es best k (receiving o) s a b f = f
  fits_here es best k (waiting r) s a b f = branch (FitsAt h es) (fits h r) (older best k r s) best (λ x. go best f (a, b, x)) (λ x. f)
    where
      go : (best : Option (ℕ × Receive × ℕ)) → FitsAt h es best → FitsAt h es (Some (k, r, s)) → FitsAt h es (older best k r s)
      go None f g = g
      go (Some (j, q, b)) f g = pick_either (FitsAt h es) (ltb s b) g f

  most_here : (n : ℕ) (best : Option (ℕ × Receive × ℕ)) (k : ℕ) (u : Role) (s : ℕ) → AtMost n best → AtMost n (first_here h best k u s)
  unfolding first_here older
  most_here n best k idle s m = m
  most_here n best k (receiving o) s m = m
  most_here n best k (waiting r) s m = pick_either (AtMost n) (fits h r) (go best m) m
    where
      go : (best : Option (ℕ × Receive × ℕ)) → AtMost n best → AtMost n (older best k r s)
      go None m = absurd m
      go (Some (j, q, b)) m = branch (AtMost n) (ltb s b) (Some (k, r, s)) (Some (j, q, b)) (λ x. omega (arith, ltb-true s b x)) (λ x. m)

  most_own : (best : Option (ℕ × Receive × ℕ)) (k : ℕ) (r : Receive) (s : ℕ) → fits h r ≡ true → AtMost s (first_here h best k (waiting r) s)
  unfolding first_here older
  most_own best k r s e = subst (AtMost s) (sym (pick_true (older best k r s) best e)) (go best)
    where
      go : (best : Option (ℕ × Receive × ℕ)) → AtMost s (older best k r s)
      go None = le_refl s
      go (Some (j, q, b)) = branch (AtMost s) (ltb s b) (Some (k, r, s)) (Some (j, q, b)) (λ x. le_refl s) (λ x. ltb-false s b x)

  -- the entries from k on
  fits_from : (all : List Entry) (k : ℕ) (best : Option (ℕ × Receive × ℕ)) (es : List Entry) → ((j : ℕ) → slot_entry es j ≡ slot_entry all (k + j)) → FitsAt h all best
      → FitsAt h all (first_posted h k best es)
  unfolding first_posted
  fits_from all k best [] same f = f
  fits_from all k best (e ∷ es) same f =
      let here : e ≡ slot_entry all k = same 0 ∙ ap (slot_entry all) (omega arith) in
      fits_from all (suc k) _ es (λ j. same (suc j) ∙ ap (slot_entry all) (omega arith))
      (fits_here all best k e.role e.serial (ap (λ (x : Entry). x.role) (sym here)) (ap (λ (x : Entry). x.serial) here) f)

  most_from : (n k : ℕ) (best : Option (ℕ × Receive × ℕ)) (es : List Entry) → AtMost n best → AtMost n (first_posted h k best es)
  unfolding first_posted
  most_from n k best [] m = m
  most_from n k best (e ∷ es) m = most_from n (suc k) _ es (most_here n best k e.role e.serial m)

  pub most_each : (k : ℕ) (best : Option (ℕ × Receive × ℕ)) (es : List Entry) (j : ℕ) (r : Receive) → (slot_entry es j).role ≡ waiting r → fits h r ≡ true
      → AtMost (slot_entry es j).serial (first_posted h k best es)
  unfolding first_posted
  most_each k best [] j r e x = let z : ◌≡◌ {A = ℕ} 0 1 = cc in absurd (omega arith)
  most_each k best (e ∷ es) zero r w x =
      most_from e.serial (suc k) _ es
      (subst (λ (u : Role). AtMost e.serial (first_here h best k u e.serial)) (sym w) (most_own best k r e.serial x))
  most_each k best (e ∷ es) (suc j) r w x = most_each (suc k) _ es j r w x

  pub foremost : (es : List Entry) (i : ℕ) (r : Receive) (serial : ℕ) → first_posted h 0 None es ≡ Some (i, r, serial) → Foremost h es i r serial
  foremost es i r serial e =
      let f = subst (FitsAt h es) e (fits_from es 0 None es (λ j. ap (slot_entry es) (omega arith)) tt) in
      record {
        waits = f.0;
        number = f.1;
        fit = f.2;
        first = λ j s w x. subst (AtMost (slot_entry es j).serial) e (most_each 0 None es j s w x);
      }
