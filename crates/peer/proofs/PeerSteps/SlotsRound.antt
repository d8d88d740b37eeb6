-- Slots go from free to posted, to open, back to free: read off what each answer leaves.
use Rattle.std.proofs.Common.{◌≡◌, ℕ, ◌⊎◌, List, sym, ap, ◌∙◌, subst, subst₂, inl, inr}
use native.Mathlib.Decide.{ℕ_discrete}
use Rattle.peer.specs.Calls.{Call, peer_step}
use Rattle.peer.specs.Effects.{Effect}
use Rattle.peer.specs.Moves.{Beginning, Goes, GoingOn, Moved, MovesAreAsSaid, SlotsGoRound, Taking, granted, stays, to_free, to_open, to_posted}
use Rattle.peer.specs.Plain.{idle, receiving, waiting}
use Rattle.peer.specs.SlotMoves.{OnlySlot, role_at}
use Rattle.peer.specs.View.{role_of}
use Rattle.peer.specs.declared.types.Answer.{Answer}
use Rattle.peer.specs.declared.types.Inbound.{Inbound}
use Rattle.peer.specs.declared.types.Peer.{Peer}
use Rattle.peer.proofs.PeerSteps.MovesHold.{moves_are_as_said}

module _ (p q : Peer) (i : ℕ) where
  -- slot i goes on so, and the others stay
  only_goes : OnlySlot i p q → Goes (role_at p i) (role_at q i) → (j : ℕ) → Goes (role_at p j) (role_at q j)
  only_goes o g j = go (ℕ_discrete j i)
    where
      go : Dec (j ≡ i) → Goes (role_at p j) (role_at q j)
      go (yes x) = subst (λ (k : ℕ). Goes (role_at p k) (role_at q k)) (sym x) g
      go (no x) = subst (Goes (role_at p j)) (sym (o.others j x)) (stays (role_at p j))

  freed : role_at q i ≡ idle → Goes (role_at p i) (role_at q i)
  freed e = subst (Goes (role_at p i)) (sym e) (to_free (role_at p i))

module _ (limit : ℕ) (p : Peer) (ws : List ℕ) (c : Call) (f : Effect) where
  -- of a segment's message: a receive was waiting, or the message was open
  was : (i : ℕ) (o : Inbound) → Taking p ws c i o f → (role_at p i ≡ waiting o.receive) ⊎ (role_at p i ≡ receiving o)
  was i o t = go t.how
    where
      go : Beginning p ws t.text i o f.peer.next f.words ⊎ GoingOn p ws t.text i o f.peer.next f.words
          → (role_at p i ≡ waiting o.receive) ⊎ (role_at p i ≡ receiving o)
      go (inl b) = inl (ap role_of b.matched.waits)
      go (inr g) = inr g.receives

  moved_goes : (a : Answer) → Moved limit p ws c f a → (j : ℕ) → Goes (role_at p j) (role_at f.peer j)
  moved_goes (Answer.Refused k) m j = subst (λ (q : Peer). Goes (role_at p j) (role_at q j)) (sym m.peer) (stays (role_at p j))
  moved_goes (Answer.Posted i) (r, e, m) j = only_goes p f.peer i m.only (subst₂ Goes (sym m.free) (sym m.now) (to_posted r)) j
  moved_goes (Answer.Cancelled i) (e, m) j = only_goes p f.peer i m.only (freed p f.peer i m.now) j
  moved_goes Answer.Stored (i, o, m) j = only_goes p f.peer i m.taking.only (go (was i o m.taking)) j
    where
      go : (role_at p i ≡ waiting o.receive) ⊎ (role_at p i ≡ receiving o) → Goes (role_at p i) (role_at f.peer i)
      go (inl x) = subst₂ Goes (sym x) (sym m.now) (to_open o)
      go (inr x) = subst₂ Goes (sym x) (sym m.now) (stays (receiving o))
  moved_goes (Answer.Granted n) (i, o, m) j = only_goes p f.peer i m.taking.only (go (was i o m.taking)) j
    where
      go : (role_at p i ≡ waiting o.receive) ⊎ (role_at p i ≡ receiving o) → Goes (role_at p i) (role_at f.peer i)
      go (inl x) = subst₂ Goes (ap waiting m.more.receive ∙ sym x) (sym m.now) (to_open m.message)
      go (inr x) = subst₂ Goes (sym x) (sym m.now) (granted n o m.message m.more)
  moved_goes (Answer.Done i id n cq) (o, m) j = only_goes p f.peer i m.taking.only (freed p f.peer i m.now) j
  moved_goes (Answer.Truncated i id n) m j = only_goes p f.peer i m.only (freed p f.peer i m.now) j
  moved_goes (Answer.Missing k first) (i, e, m) j = subst (λ (q : Peer). Goes (role_at p j) (role_at q j)) (sym m.unmoved.peer) (stays (role_at p j))

pub slots_go_round : SlotsGoRound
unfolding SlotsGoRound MovesAreAsSaid
slots_go_round area limit p ws c fit eight words j =
    moved_goes limit p ws c (peer_step area limit p ws c) (peer_step area limit p ws c).answer (moves_are_as_said area limit p ws c fit eight words) j
