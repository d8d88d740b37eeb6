-- A walk over the slots, one slot at a time: what is said of the slots from i on, by slot i and the slots behind it, and at the end. What a
-- chain of iterators over the slots gives, by the definitions.
use Rattle.std.proofs.Common.{◌≡◌, ℕ, ◌+◌, ◌<◌, ◌≤◌, Bool, true, false, not, ◌&&◌, ltb, List, [], ◌∷◌, length, drop, refl, ap₂, ◌∙◌, add-one, drop_of_length-le, drop-cons}
use Rattle.std.specs.Prelude.{cond, count_by, Option, None}
use Rattle.std.proofs.lemmas.List.Sums.{sum_by-cons}
use mathlib.Core.Bool.{false≢true}
use Rattle.laws.specs.Choose.{pick}
use Rattle.peer.specs.Calls.{count_older, count_posted, is_older, is_posted, one_older, one_posted}
use Rattle.peer.specs.Matching.{find_open, older_here, oldest, open_here, or_else}
use Rattle.peer.specs.State.{clash, free_slot, is_free, none_clash, pairs_apart, phase_at}
use Rattle.peer.specs.declared.types.Incoming.{Incoming}
use Rattle.peer.specs.declared.types.Phase.{Phase}
use Rattle.peer.specs.declared.types.Receive.{Receive}
use Rattle.peer.specs.declared.types.Slot.{Slot}

module _ (ss : List Slot) (i : ℕ) (h : i < length ss) where
  pub open_turn : (id : ℕ) → find_open id i (drop i ss) ≡ or_else (open_here id i (phase_at ss i)) (find_open id (i + 1) (drop (i + 1) ss))
  unfolding find_open
  open_turn id = rw (add-one, drop-cons ss i free_slot h)

  pub oldest_turn : (g : Incoming) (best : Option (ℕ × Receive × ℕ)) → oldest g i best (drop i ss) ≡ oldest g (i + 1) (older_here g best i (phase_at ss i)) (drop (i + 1) ss)
  unfolding oldest
  oldest_turn g best = rw (add-one, drop-cons ss i free_slot h)

  pub none_turn : (f : Phase) → none_clash f (drop i ss) ≡ (not (clash f (phase_at ss i)) && none_clash f (drop (i + 1) ss))
  none_turn f = rw (add-one, drop-cons ss i free_slot h)

  pub pairs_turn : pairs_apart (drop i ss) ≡ (none_clash (phase_at ss i) (drop (i + 1) ss) && pairs_apart (drop (i + 1) ss))
  unfolding pairs_apart
  pairs_turn = rw (add-one, drop-cons ss i free_slot h)

module _ (ss : List Slot) (i : ℕ) (h : length ss ≤ i) where
  pub open_end : (id : ℕ) → find_open id i (drop i ss) ≡ None
  unfolding find_open
  open_end id = rw (drop_of_length-le ss h)

  pub oldest_end : (g : Incoming) (best : Option (ℕ × Receive × ℕ)) → oldest g i best (drop i ss) ≡ best
  unfolding oldest
  oldest_end g best = rw (drop_of_length-le ss h)

  pub none_end : (f : Phase) → none_clash f (drop i ss) ≡ true
  none_end f = rw (drop_of_length-le ss h)

  pub pairs_end : pairs_apart (drop i ss) ≡ true
  unfolding pairs_apart
  pairs_end = rw (drop_of_length-le ss h)

-- the two words for a choice
chosen : {A : Type 0} (t : Bool) (a b : A) → cond t a b ≡ pick t a b
unfolding pick
chosen true a b = refl
chosen false a b = refl

-- a free slot clashes with none
pub free_apart : (f : Phase) (ss : List Slot) → is_free f ≡ true → none_clash f ss ≡ true
unfolding clash
free_apart f [] e = refl
free_apart Phase.Free (s ∷ ss) e = free_apart Phase.Free ss refl
free_apart (Phase.Posted r a) (s ∷ ss) e = absurd (false≢true e)
free_apart (Phase.Open o) (s ∷ ss) e = absurd (false≢true e)

-- ---- what a chain over the slots gives

pub posted_counted : (ss : List Slot) → count_by (λ (s : Slot). is_posted s.phase) ss ≡ count_posted ss
unfolding count_posted
posted_counted [] = refl
posted_counted (s ∷ ss) =
    sum_by-cons (λ (s : Slot). cond (is_posted s.phase) 1 0) s ss ∙ ap₂ (λ (m n : ℕ). m + n) (one s.phase) (posted_counted ss)
  where
    one : (f : Phase) → cond (is_posted f) 1 0 ≡ one_posted f
    one Phase.Free = refl
    one (Phase.Posted r a) = refl
    one (Phase.Open o) = refl

pub older_counted : (a : ℕ) (ss : List Slot) → count_by (λ (s : Slot). is_older a s.phase) ss ≡ count_older a ss
unfolding count_older
older_counted a [] = refl
older_counted a (s ∷ ss) =
    sum_by-cons (λ (s : Slot). cond (is_older a s.phase) 1 0) s ss ∙ ap₂ (λ (m n : ℕ). m + n) (one s.phase) (older_counted a ss)
  where
    one : (f : Phase) → cond (is_older a f) 1 0 ≡ one_older a f
    one Phase.Free = refl
    one (Phase.Posted r b) = chosen (ltb b a) 1 0
    one (Phase.Open o) = refl
