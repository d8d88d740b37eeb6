-- Demand 2: each accepted segment writes its own data to its own range, and no other arena byte changes, in every run.
use Prim.Native.Nat.{ℕ}
use borrow.Author.Tests.{eq-eqb, ne_eqb}
use lib.Dec.{eqb}
use mathlib.Core.List.{List, [], ◌∷◌}
use mathlib.Core.Path.{◌≡◌, sym, ap, subst, subst₂}
use native.Mathlib.Decide.{ℕ_discrete}
use Rattle.engine.specs.Steps.{World}
use Rattle.guarantees.specs.Delivery.{AllWrite, OwnRange, Writes}
use Rattle.peer.specs.Calls.{Call, call_of}
use Rattle.guarantees.specs.Receiving.{LentRequest, Seen, fresh_world, no_starts, turn_of}
use Rattle.laws.specs.Choose.{pick}
use Rattle.peer.specs.Expected.{enter, target_of_call}
use Rattle.peer.specs.Origins.{Origin, no_origins, note_origin}
use Rattle.peer.specs.Plain.{Plain, fresh_plain}
use Rattle.peer.specs.declared.types.Answer.{Answer}
use Rattle.guarantees.proofs.Seeing.{fresh_tracks}
use Rattle.guarantees.proofs.Tracking.{Tracks, other_stays, own_seen, own_stays, own_writes}
use Rattle.laws.proofs.Choosing.{pick_false, pick_true}
use Rattle.peer.proofs.History.OriginsHold.{Trace, call_traced, fresh_traced}

abbrev Rest : ℕ → List LentRequest → Type 0
Rest p qs = (w : World) (starts : List ℕ) (l : Plain) (gs : List Origin) → Tracks p w starts l → Trace l gs → AllWrite p w l gs qs

written : (p : ℕ) (qs : List LentRequest) → Rest p qs
unfolding AllWrite
written p [] w starts l gs t from = tt
written p (q ∷ qs) w starts l gs t from = go (ℕ_discrete q.peer p) (written p qs)
  where
    c : Call
    c = call_of q.call

    entered : Answer → Plain
    entered a = enter w.engine.limit l c a

    noted : Answer → List Origin
    noted a = note_origin (target_of_call w.engine.limit l c) gs c a

    go : Dec (q.peer ≡ p) → Rest p qs
        → (q.peer ≡ p → Writes p w (turn_of w q).world l gs c (turn_of w q).answer)
        × AllWrite p (turn_of w q).world (pick (eqb q.peer p) (entered (turn_of w q).answer) l) (pick (eqb q.peer p) (noted (turn_of w q).answer) gs) qs
    go (yes e) rest = (
      λ x. own_writes p w starts l t q x gs from,
      subst₂ (λ (m : Plain) (g : List Origin). AllWrite p (turn_of w q).world m g qs) (sym (pick_true _ _ (eq-eqb q.peer p e))) (sym (pick_true _ _ (eq-eqb q.peer p e)))
          (subst (λ (a : Answer). AllWrite p (turn_of w q).world (entered a) (noted a) qs) (sym (ap (λ (s : Seen). s.answer) (own_seen p w starts l t q e)))
          (rest (turn_of w q).world _ _ _ (own_stays p w starts l t q e).tracks (call_traced w.engine.limit l gs from w.engine.area c))),
    )
    go (no e) rest = (
      λ x. absurd (e x),
      subst₂ (λ (m : Plain) (g : List Origin). AllWrite p (turn_of w q).world m g qs) (sym (pick_false _ _ (ne_eqb q.peer p e))) (sym (pick_false _ _ (ne_eqb q.peer p e)))
          (rest (turn_of w q).world starts l gs (other_stays p w starts l t q e).tracks from),
    )

pub own_range : OwnRange
unfolding OwnRange
own_range n area limit p arena map ready h calls =
    written p calls (fresh_world n area limit arena map) no_starts fresh_plain no_origins (fresh_tracks n area limit p arena map ready h) fresh_traced
