-- What each verdict on a packet says of the peer and of the map: one walk through the tests.
use Rattle.std.proofs.Common.{◌≡◌, ℕ, ◌+◌, ◌<◌, ◌≤◌, true, false, eqb, List, [], length, sym, refl, ap, ◌∙◌, arith, ltb-false, ltb-true, eqb-true, leb-false, leb-true}
use Rattle.std.specs.Prelude.{Option, Some, None}
use mathlib.Core.Bool.{false≢true}
use Rattle.bitmap.specs.Map.{touched}
use Rattle.protocol.specs.declared.table.Shape.{Shape}
use Rattle.protocol.specs.declared.table.Shape.TheVariants.{Cts, CtsData, Eager, LongCts, Medium}
use Rattle.protocol.specs.declared.refusals.Refusal.{Refusal}
use Rattle.peer.specs.Calls.{packet}
use Rattle.peer.specs.Formed.{Formed}
use Rattle.peer.specs.Incomings.{is_long, is_medium, is_rtm}
use Rattle.peer.specs.Judging.{judge, judge_again, judge_data, judge_fit, judge_found, judge_more, judge_new}
use Rattle.peer.specs.Matching.{ahead, find_open, oldest, same_medium, same_message}
use Rattle.peer.specs.Refusing.{among, refusals_of}
use Rattle.peer.specs.State.{phase_at, phase_fits}
use Rattle.peer.specs.declared.types.Inbound.{Inbound}
use Rattle.peer.specs.declared.types.Incoming.{Incoming}
use Rattle.peer.specs.declared.types.Message.{Message}
use Rattle.peer.specs.declared.types.Peer.{Peer}
use Rattle.peer.specs.declared.types.Phase.{Phase}
use Rattle.peer.specs.declared.types.Receive.{Receive}
use Rattle.peer.specs.declared.types.Verdict.{Verdict}
use Rattle.laws.proofs.Choosing.{and_left, and_right, branch}
use Rattle.peer.proofs.Slots.Slots.{found_open, oldest_fits}
use Rattle.peer.proofs.Slots.Valid.{Valid, Within, open_within}
use Rattle.protocol.specs.Refusals.{number}

-- the packet is matched to the oldest receive that it fits: its id is the next one, and open nowhere

pub record Matched (p : Peer) (h : Incoming) (i : ℕ) (r : Receive) : Type 0 where
  pub age : ℕ
  pub rtm : is_rtm h.shape ≡ true
  pub unopened : find_open h.id 0 p.slots ≡ None
  pub in_order : ahead h.id p.next ≡ 0
  pub chosen : oldest h 0 None p.slots ≡ Some (i, r, age)

pub record Begins (p : Peer) (h : Incoming) (i : ℕ) (r : Receive) : Type 0 where
  pub matched : Matched p h i r
  pub in_capacity : h.length ≤ r.capacity

pub record CutOff (p : Peer) (h : Incoming) (i : ℕ) : Type 0 where
  pub receive : Receive
  pub matched : Matched p h i receive
  pub too_long : receive.capacity < h.length

-- the packet belongs to an open message, of which it brings bytes that are not in yet
pub record Continues (p : Peer) (ws : List ℕ) (h : Incoming) (i : ℕ) (o : Inbound) : Type 0 where
  pub found : find_open h.id 0 p.slots ≡ Some (i, o)
  pub in_length : o.message.granted ≤ o.message.length → h.offset + h.size ≤ o.message.length
  pub in_grant : is_long o.message.shape ≡ true → h.offset + h.size ≤ o.message.granted
  pub unmarked : touched ws (o.receive.start + h.offset) h.size ≡ false
  pub again : is_rtm h.shape ≡ true → is_medium h.shape ≡ true

-- the refusal is one of a packet's
abbrev pub Listed : Refusal → Type 0
Listed k = among (refusals_of (packet [] 0)) (number k) ≡ true

abbrev pub Judged : Peer → List ℕ → Incoming → Verdict → Type 0
Judged p ws h (Verdict.Refuse k) = Listed k
Judged p ws h (Verdict.Truncate i) = CutOff p h i
Judged p ws h (Verdict.Begin i r) = Begins p h i r
Judged p ws h (Verdict.More i o) = Continues p ws h i o

-- a further RTM belongs to no long message
pub medium_only : (m : Message) (h : Incoming) → same_message m h ≡ true → is_long m.shape ≡ true → ⊥
unfolding same_message same_medium
medium_only m h x long = go m.shape (and_left (is_medium m.shape) _ (and_right (is_medium h.shape) _ (and_left (same_medium m h) _ x))) long
  where
    go : (s : Shape) → is_medium s ≡ true → is_long s ≡ true → ⊥
    go Cts a b = false≢true a
    go CtsData a b = false≢true a
    go Eager a b = false≢true a
    go Medium a b = false≢true b
    go LongCts a b = false≢true a

-- a further RTM is a medium one
again_medium : (m : Message) (h : Incoming) → same_message m h ≡ true → is_medium h.shape ≡ true
unfolding same_message same_medium
again_medium m h x = and_left (is_medium h.shape) _ (and_left (same_medium m h) _ x)

pub found_within : (area : ℕ) (p : Peer) (id i : ℕ) (o : Inbound) → Valid area p.slots → find_open id 0 p.slots ≡ Some (i, o) → Within area o
found_within area p id i o v e =
    open_within area o (ap (phase_fits area) (sym (found_open id p.slots i o e).1) ∙ v.each i)

module _ (p : Peer) (ws : List ℕ) (h : Incoming) (n : ℕ) (form : Formed h n) where
  -- a segment of an open message lies in it
  pub again_inside : (o : Inbound) → is_rtm h.shape ≡ true → same_message o.message h ≡ true
      → (h.offset + h.size ≤ o.message.length) × (is_long o.message.shape ≡ true → ⊥)
  unfolding same_message
  again_inside o rtm x =
      let z = and_right (same_medium o.message h) _ x in
      let len : h.length ≡ o.message.length = eqb-true _ _ (and_left _ (eqb h.tag o.message.tag) z) in
      (omega (arith, form.inside rtm), medium_only o.message h x)

  J : Verdict → Type 0
  J = Judged p ws h

  judged_more : (i : ℕ) (o : Inbound) → find_open h.id 0 p.slots ≡ Some (i, o) → (o.message.granted ≤ o.message.length → h.offset + h.size ≤ o.message.length)
      → (is_long o.message.shape ≡ true → h.offset + h.size ≤ o.message.granted) → (is_rtm h.shape ≡ true → is_medium h.shape ≡ true) → J (judge_more ws i o h)
  unfolding J judge_more
  judged_more i o e l g m =
      branch (Judged p ws h) _ _ _ (λ x. refl)
      (λ x. record { found = e; in_length = l; in_grant = g; unmarked = x; again = m })

  judged_again : (i : ℕ) (o : Inbound) → find_open h.id 0 p.slots ≡ Some (i, o) → is_rtm h.shape ≡ true → J (judge_again ws i o h)
  unfolding J judge_again
  judged_again i o e rtm =
      branch (Judged p ws h) _ _ _
      (λ x. let w = again_inside o rtm x in judged_more i o e (λ y. w.0) (λ long. absurd (w.1 long)) (λ y. again_medium o.message h x))
      (λ x. refl)

  judged_data : (i : ℕ) (o : Inbound) → find_open h.id 0 p.slots ≡ Some (i, o) → is_rtm h.shape ≡ false → J (judge_data ws i o h)
  unfolding J judge_data
  judged_data i o e other =
      branch (Judged p ws h) _ _ _
      (λ long. branch (Judged p ws h) _ _ _
      (λ x.
      let g : h.offset + h.size ≤ o.message.granted = leb-true _ _ x in
      judged_more i o e (λ y. omega arith) (λ y. g) (λ rtm. absurd (false≢true (sym other ∙ rtm))))
      (λ x. refl))
      (λ x. refl)

  judged_fit : (f : Option (ℕ × Receive × ℕ)) → oldest h 0 None p.slots ≡ f → is_rtm h.shape ≡ true → find_open h.id 0 p.slots ≡ None
      → ahead h.id p.next ≡ 0 → J (judge_fit h f)
  unfolding J judge_fit
  judged_fit None e rtm unopen next = refl
  judged_fit (Some (i, r, a)) e rtm unopen next =
      let m : Matched p h i r = record { age = a; rtm = rtm; unopened = unopen; in_order = next; chosen = e } in
      branch (Judged p ws h) _ _ _
      (λ x. record { receive = r; matched = m; too_long = ltb-true _ _ x })
      (λ x. record { matched = m; in_capacity = ltb-false _ _ x })

  judged_new : is_rtm h.shape ≡ true → find_open h.id 0 p.slots ≡ None → J (judge_new p h)
  unfolding J judge_new
  judged_new rtm unopen =
      branch (Judged p ws h) _ _ _ (λ x. refl) (λ x.
      branch (Judged p ws h) _ _ _ (λ y. refl) (λ y.
      judged_fit (oldest h 0 None p.slots) refl rtm unopen (omega (arith, leb-false 1 (ahead h.id p.next) y))))

  pub judged : Judged p ws h (judge p ws h)
  unfolding judge judge_found J
  judged = go (find_open h.id 0 p.slots) refl
    where
      go : (f : Option (ℕ × Inbound)) → find_open h.id 0 p.slots ≡ f → Judged p ws h (judge_found p ws h f)
      go (Some (i, o)) e =
          branch (Judged p ws h) _ _ _ (λ x. judged_again i o e x) (λ x. judged_data i o e x)
      go None e =
          branch (Judged p ws h) _ _ _ (λ x. judged_new x e) (λ x. refl)

-- what a verdict's slot holds

pub chosen_at : (p : Peer) (h : Incoming) (i : ℕ) (r : Receive) (m : Matched p h i r) → (i < length p.slots) × (phase_at p.slots i ≡ Phase.Posted r m.age)
chosen_at p h i r m = oldest_fits h p.slots i r m.age m.chosen

pub continued_at : (p : Peer) (ws : List ℕ) (h : Incoming) (i : ℕ) (o : Inbound) → Continues p ws h i o → (i < length p.slots) × (phase_at p.slots i ≡ Phase.Open o)
continued_at p ws h i o c = let (inside, at, id) = found_open h.id p.slots i o c.found in (inside, at)
