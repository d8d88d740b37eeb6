-- A receive is known by the number of posts before it, its serial: no two used entries have one, and after a call a used entry is one that was
-- there, or the one that is posted. Each match takes a receive of its own, and of each receive a done is answered at most once.
use Rattle.std.proofs.Common.{◌≡◌, ℕ, zero, suc, ◌<◌, ◌≤◌, Bool, true, false, ◌⊎◌, List, [], ◌∷◌, length, get_or, set, sym, refl, ap, ◌∙◌, subst₂, inl, inr, ⊎_elim, le_refl, arith}
use mathlib.Core.Bool.{false≢true}
use Rattle.laws.specs.Choose.{pick}
use Rattle.peer.specs.Calls.{Call}
use Rattle.peer.specs.Claims.{Distinct, Once, answers_of, is_done, is_match, numbers_of, receives_of, takes}
use Rattle.peer.specs.Expected.{enter, expected, target_of_call}
use Rattle.peer.specs.Plain.{Entry, Plain, Role, Target, extended_role, fresh_plain, granted_entry, idle, next_after, no_entry, posted, receiving, slot_entry, waiting}
use Rattle.peer.specs.State.{slot_count}
use Rattle.peer.specs.declared.types.Answer.{Answer}
use Rattle.peer.specs.declared.types.Inbound.{Inbound}
use Rattle.peer.specs.declared.types.Incoming.{Incoming}
use Rattle.peer.specs.declared.types.Receive.{Receive}
use Rattle.laws.proofs.Choosing.{branch, clashing, pick_first, tested}
use Rattle.laws.proofs.Listing.{replicate_each, set_cases, set_there}
use Rattle.peer.proofs.PeerSteps.AnswerLaws.{untaken_is}
use Rattle.peer.proofs.History.Facts.{Aims, Entered, Taken, as_before, begins, entered, goes_on, taken_role, with_cancel, with_end, with_grant, with_post, with_segment}

abbrev pub used : Role → Bool
used idle = false
used (waiting r) = true
used (receiving o) = true

abbrev pub waits : Role → Bool
waits idle = false
waits (waiting r) = true
waits (receiving o) = false

abbrev pub role_at : Plain → ℕ → Role
role_at l j = (slot_entry l.entries j).role

abbrev pub serial_at : Plain → ℕ → ℕ
serial_at l j = (slot_entry l.entries j).serial

-- no two used entries have one serial, and the next post has none of theirs
pub record Numbered (l : Plain) : Type 0 where
  pub past : (j : ℕ) → used (role_at l j) ≡ true → serial_at l j < l.posts
  pub apart : (j k : ℕ) → used (role_at l j) ≡ true → used (role_at l k) ≡ true → serial_at l j ≡ serial_at l k → j ≡ k

-- ---- a call

-- entry e was entry d
pub record Was (d e : Entry) : Type 0 where
  pub used_before : used d.role ≡ true
  pub same_serial : e.serial ≡ d.serial
  pub waited_before : waits e.role ≡ true → waits d.role ≡ true

-- entry j was there, or is posted at this place
abbrev pub Came : ℕ → Plain → Plain → ℕ → Type 0
Came place l l' j =
    Was (slot_entry l.entries j) (slot_entry l'.entries j) ⊎ ((j ≡ place) × (serial_at l' j ≡ l.posts) × (l.posts < l'.posts))

-- every used entry was there, but for one that is posted
pub record Passes (l l' : Plain) : Type 0 where
  pub place : ℕ
  pub more : l.posts ≤ l'.posts
  pub came : (j : ℕ) → used (role_at l' j) ≡ true → Came place l l' j

was_same : (d e : Entry) → e ≡ d → used e.role ≡ true → Was d e
was_same d e x u =
    record {
      used_before = ap (λ (y : Entry). used y.role) (sym x) ∙ u;
      same_serial = ap (λ (y : Entry). y.serial) x;
      waited_before = λ w. ap (λ (y : Entry). waits y.role) (sym x) ∙ w;
    }

-- entry i becomes e
passes_set : (l : Plain) (n i : ℕ) (e : Entry) → (used e.role ≡ true → Was (slot_entry l.entries i) e)
    → Passes l (record { next = n; posts = l.posts; entries = set l.entries i e })
passes_set l n i e f =
    record {
      place = 0;
      more = le_refl l.posts;
      came = λ j u. inl (go j u (set_cases l.entries i e no_entry j));
    }
  where
    go : (j : ℕ) → used (slot_entry (set l.entries i e) j).role ≡ true
        → ((j ≡ i) × (slot_entry (set l.entries i e) j ≡ e)) ⊎ (slot_entry (set l.entries i e) j ≡ slot_entry l.entries j)
        → Was (slot_entry l.entries j) (slot_entry (set l.entries i e) j)
    go j u (inl x) =
        subst₂ (λ (k : ℕ) (d : Entry). Was (slot_entry l.entries k) d) (sym x.0) (sym x.1) (f (ap (λ (d : Entry). used d.role) (sym x.1) ∙ u))
    go j u (inr x) = was_same _ _ x u

passes_post : (l : Plain) (i : ℕ) (r : Receive) → Passes l (posted l i r)
passes_post l i r =
    record {
      place = i;
      more = omega arith;
      came = λ j u. ⊎_elim
          (λ x. inr (x.0, ap (λ (d : Entry). d.serial) x.1, omega arith))
          (λ x. inl (was_same _ _ x u))
          (set_cases l.entries i _ no_entry j);
    }

-- a packet that is taken goes to a used entry, whose serial it keeps
pub aims_used : {l : Plain} {h : Incoming} {bytes : List ℕ} {t : Target} {o : Inbound} → Aims l h bytes t o
    → (used (role_at l t.index) ≡ true) × (t.entry.serial ≡ serial_at l t.index)
aims_used (goes_on i o g) = (ap used g.role, refl)
aims_used (begins i r serial m) = (ap used m.chosen.waits, m.chosen.number)

taken_was : {limit : ℕ} {l : Plain} {c : Call} {t : Target} → Taken limit l c t → (e : Entry) → e.serial ≡ t.entry.serial → waits e.role ≡ false
    → Was (slot_entry l.entries t.index) e
taken_was w e s n =
    record {
      used_before = (aims_used w.aims).0;
      same_serial = s ∙ (aims_used w.aims).1;
      waited_before = λ x. clashing (waits e.role) x n;
    }

pub stays : {limit : ℕ} {l : Plain} {c : Call} {t : Target} → Taken limit l c t → waits t.entry.role ≡ false
stays w = ap waits (taken_role w)

pub goes_on_lem : {limit : ℕ} {l : Plain} {c : Call} {t : Target} (n : ℕ) → Taken limit l c t → waits (extended_role n t.entry.role) ≡ false
goes_on_lem n w = ap (λ (u : Role). waits (extended_role n u)) (taken_role w)

pub passes : {limit : ℕ} {l : Plain} {c : Call} {t : Target} {a : Answer} {l' : Plain} → Entered limit l c t a l' → Passes l l'
passes {l} (as_before t a e n) = record { place = 0; more = le_refl l.posts; came = λ j u. inl (was_same _ _ refl u) }
passes {l} (with_post t i r e) = passes_post l i r
passes {l} (with_cancel t i n) = passes_set l l.next i no_entry (λ x. absurd (false≢true x))
passes {l} (with_segment t w) = passes_set l (next_after l t) t.index t.entry (λ x. taken_was w.taken t.entry refl (stays w.taken))
passes {l} (with_grant t n w) =
    passes_set l (next_after l t) t.index (granted_entry n t.entry)
    (λ x. taken_was w.partly.taken (granted_entry n t.entry) refl (goes_on_lem n w.partly.taken))
passes {l} (with_end t a w k) = passes_set l (next_after l t) t.index no_entry (λ x. absurd (false≢true x))

pub numbered : {l l' : Plain} → Passes l l' → Numbered l → Numbered l'
numbered {l} {l'} s n =
    record {
      past = λ j u. ⊎_elim
          (λ w. omega (arith, w.same_serial, n.past j w.used_before, s.more))
          (λ w. omega (arith, w.1, w.2))
          (s.came j u);
      apart = λ j k u v e. both j k e (s.came j u) (s.came k v);
    }
  where
    both : (j k : ℕ) → serial_at l' j ≡ serial_at l' k → Came s.place l l' j → Came s.place l l' k → j ≡ k
    both j k e (inl w) (inl x) = n.apart j k w.used_before x.used_before (sym w.same_serial ∙ e ∙ x.same_serial)
    both j k e (inl w) (inr x) = absurd (omega (arith, w.same_serial, x.1, n.past j w.used_before))
    both j k e (inr w) (inl x) = absurd (omega (arith, x.same_serial, w.1, n.past k x.used_before))
    both j k e (inr w) (inr x) = w.0 ∙ sym x.0

pub fresh_numbered : Numbered fresh_plain
fresh_numbered = record { past = λ j u. unused j u; apart = λ j k u v e. unused j u }
  where
    unused : {C : Type 0} (j : ℕ) → used (role_at fresh_plain j) ≡ true → C
    unused j u = clashing _ u (ap (λ (d : Entry). used d.role) (replicate_each slot_count no_entry j))

-- ---- a receive that is named

-- entry i was live, and is so no more
record Ends (live : Role → Bool) (l : Plain) (i : ℕ) (l' : Plain) : Type 0 where
  was : live (role_at l i) ≡ true
  gone : live (role_at l' i) ≡ false

ends_set : (live : Role → Bool) (l : Plain) (n i : ℕ) (e : Entry) → used (role_at l i) ≡ true → live (role_at l i) ≡ true → live e.role ≡ false
    → Ends live l i (record { next = n; posts = l.posts; entries = set l.entries i e })
ends_set live l n i e u a g =
    let there = set_there l.entries i e no_entry (λ x. clashing (used (role_at l i)) u (ap (λ (d : Entry). used d.role) x)) in
    record { was = a; gone = ap (λ (d : Entry). live d.role) there ∙ g }

aims_waits : {l : Plain} {h : Incoming} {bytes : List ℕ} {t : Target} {o : Inbound} → Aims l h bytes t o → t.matched ≡ true
    → waits (role_at l t.index) ≡ true
aims_waits (goes_on i o g) x = absurd (false≢true x)
aims_waits (begins i r serial m) x = ap waits m.chosen.waits

-- a match ends a receive's waiting
match_ends : {limit : ℕ} {l : Plain} {c : Call} {t : Target} {a : Answer} {l' : Plain} → Entered limit l c t a l' → is_match t a ≡ true
    → Ends waits l t.index l'
match_ends {limit} {l} {c} {t} {a} {l'} w x = go w m.0 m.1
  where
    m : (takes a ≡ true) × (t.matched ≡ true)
    m = pick_first (takes a) t.matched false true (λ y. false≢true y) x

    ended : {t : Target} → Taken limit l c t → (e : Entry) → t.matched ≡ true → waits e.role ≡ false
        → Ends waits l t.index (record { next = next_after l t; posts = l.posts; entries = set l.entries t.index e })
    ended {t} w e y g = ends_set waits l (next_after l t) t.index e (aims_used w.aims).0 (aims_waits w.aims y) g

    go : {t : Target} {a : Answer} {l' : Plain} → Entered limit l c t a l' → takes a ≡ true → t.matched ≡ true → Ends waits l t.index l'
    go (as_before t a e n) x y = clashing (takes a) x e
    go (with_post t i r e) x y = absurd (false≢true x)
    go (with_cancel t i n) x y = absurd (false≢true x)
    go (with_segment t w) x y = ended w.taken t.entry y (stays w.taken)
    go (with_grant t n w) x y = ended w.partly.taken (granted_entry n t.entry) y (goes_on_lem n w.partly.taken)
    go (with_end t a w k) x y = ended w no_entry y refl

done_takes : (t : Target) (a : Answer) → is_done t a ≡ true → takes a ≡ true
done_takes t a e = ⊎_elim (λ x. x) (λ x. clashing (is_done t a) e (untaken_is false false (λ n. false) (λ i id n cq. true) (λ i id n. false) a x)) (tested (takes a))

-- a done ends a receive's use
done_ends : {limit : ℕ} {l : Plain} {c : Call} {t : Target} {a : Answer} {l' : Plain} → Entered limit l c t a l' → is_done t a ≡ true
    → Ends used l t.index l'
done_ends (as_before t a e n) x = clashing (takes a) (done_takes t a x) e
done_ends (with_post t i r e) x = absurd (false≢true x)
done_ends (with_cancel t i n) x = absurd (false≢true x)
done_ends (with_segment t w) x = absurd (false≢true x)
done_ends (with_grant t n w) x = absurd (false≢true x)
done_ends {l} (with_end t a w k) x =
    let u = (aims_used w.aims).0 in
    ends_set used l (next_after l t) t.index no_entry u u refl

-- ---- the receives that a history names

distinct_cons : (n : ℕ) (ns : List ℕ) → ((i : ℕ) → i < length ns → get_or ns i 0 ≡ n → ⊥) → Distinct ns → Distinct (n ∷ ns)
distinct_cons n ns f d zero zero h k e = refl
distinct_cons n ns f d zero (suc j) h k e = absurd (f j (omega arith) (sym e))
distinct_cons n ns f d (suc i) zero h k e = absurd (f i (omega arith) e)
distinct_cons n ns f d (suc i) (suc j) h k e = ap suc (d i j (omega arith) (omega arith) e)

module _ (live : Role → Bool) (named : Target → Answer → Bool)
    (in_use : (u : Role) → live u ≡ true → used u ≡ true)
    (before : (u u' : Role) → used u ≡ true → (waits u' ≡ true → waits u ≡ true) → live u' ≡ true → live u ≡ true)
    (ends : (limit : ℕ) (l : Plain) (c : Call) (t : Target) (a : Answer) (l' : Plain) → Entered limit l c t a l' → named t a ≡ true → Ends live l t.index l')
    (area limit : ℕ) where
  -- what may be named from now on: the live receives, and those to come
  Future : Plain → ℕ → Type 0
  Future l s = ((j : ℕ) × (live (role_at l j) ≡ true) × (serial_at l j ≡ s)) ⊎ (l.posts ≤ s)

  earlier : (l l' : Plain) (s : ℕ) → Passes l l' → Future l' s → Future l s
  unfolding Future
  earlier l l' s p (inl w) = ⊎_elim
      (λ x. inl (w.0, before _ _ x.used_before x.waited_before w.1, sym x.same_serial ∙ w.2))
      (λ x. inr (omega (arith, x.1, w.2)))
      (p.came w.0 (in_use _ w.1))
  earlier l l' s p (inr h) = inr (omega (arith, p.more))

  -- a receive that is named is never named again
  never_again : (l l' : Plain) (i s : ℕ) → Passes l l' → Numbered l → Ends live l i l' → Future l' s → s ≡ serial_at l i → ⊥
  unfolding Future
  never_again l l' i s p n d (inl w) e = ⊎_elim
      (λ x.
      let same = n.apart w.0 i x.used_before (in_use _ d.was) (sym x.same_serial ∙ w.2 ∙ e) in
      clashing (live (role_at l' i)) (ap (λ (k : ℕ). live (role_at l' k)) (sym same) ∙ w.1) d.gone)
      (λ x. omega (arith, x.1, w.2, n.past i (in_use _ d.was)))
      (p.came w.0 (in_use _ w.1))
  never_again l l' i s p n d (inr h) e = omega (arith, p.more, n.past i (in_use _ d.was))

  record Names (l : Plain) (ns : List ℕ) : Type 0 where
    future : (i : ℕ) → i < length ns → Future l (get_or ns i 0)
    distinct : Distinct ns

  names : (l : Plain) (calls : List Call) → Numbered l → Names l (receives_of named limit l calls (answers_of area limit l calls))
  unfolding numbers_of answers_of
  names l [] n = record { future = λ i h. absurd (omega arith); distinct = λ i j h. absurd (omega arith) }
  names l (c ∷ cs) n =
      go (entered area limit l c) (names (enter limit l c (expected area limit l c)) cs (numbered (passes (entered area limit l c)) n))
    where
      t : Target
      t = target_of_call limit l c

      l' : Plain
      l' = enter limit l c (expected area limit l c)

      ns : List ℕ
      ns = receives_of named limit l' cs (answers_of area limit l' cs)

      go : Entered limit l c t (expected area limit l c) l' → Names l' ns
          → Names l (pick (named t (expected area limit l c)) (serial_at l t.index ∷ ns) ns)
      go w r =
          branch (Names l) (named t (expected area limit l c)) (serial_at l t.index ∷ ns) ns
          (λ x.
          let d = ends limit l c t (expected area limit l c) l' w x in
          record {
            future = both d;
            distinct = distinct_cons (serial_at l t.index) ns (λ i h e. never_again l l' t.index (get_or ns i 0) p n d (r.future i h) e) r.distinct;
          })
          (λ x. record { future = λ i h. earlier l l' _ p (r.future i h); distinct = r.distinct })
        where
          p : Passes l l'
          p = passes w

          both : Ends live l t.index l' → (i : ℕ) → i < length (serial_at l t.index ∷ ns) → Future l (get_or (serial_at l t.index ∷ ns) i 0)
          both d zero h = unfold Future in inl (t.index, d.was, refl)
          both d (suc i) h = earlier l l' _ p (r.future i (omega arith))

pub once : Once
unfolding Once
once area limit calls = (
  (names waits is_match (λ u x. waiting_used u x) (λ u u' a b x. b x) (λ limit l c t a l' w x. match_ends w x) area limit fresh_plain calls fresh_numbered).distinct,
  (names used is_done (λ u x. x) (λ u u' a b x. a) (λ limit l c t a l' w x. done_ends w x) area limit fresh_plain calls fresh_numbered).distinct,
)
  where
    waiting_used : (u : Role) → waits u ≡ true → used u ≡ true
    waiting_used idle x = x
    waiting_used (waiting r) x = refl
    waiting_used (receiving o) x = refl
