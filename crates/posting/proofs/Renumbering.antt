-- Ages counted anew, slot by slot: the copy goes on by one slot, and at its end is the whole.
use Prim.Native.Nat.{ℕ, zero, suc, ◌+◌, ◌≤◌, ◌<◌}
use lib.ListN.{length, get_or, set, take, drop, drop_of_length-le}
use lib.Seq.{take_all, paste, paste-suc}
use mathlib.Core.List.{List, [], ◌∷◌, ◌++◌, append-nil}
use mathlib.Core.Path.{◌≡◌, refl, sym, ap}
use native.Mathlib.Nat.{zero-add}
use native.Mathlib.Numerals.{add-one}
use native.Mathlib.Omega.{arith}
use Rattle.peer.specs.Calls.{renumbered, renumbered_phase}
use Rattle.peer.specs.State.{free_slot, phase_at, slot_with}
use Rattle.peer.specs.declared.types.Slot.{Slot}
use Rattle.peer.proofs.Slots.Ages.{length_renumbered, phase_renumbered}

pub all_renumbered : (ss : List Slot) → paste ss 0 (renumbered ss ss) (length ss) ≡ renumbered ss ss
all_renumbered ss =
    let h : length (renumbered ss ss) ≤ length ss = omega (arith, length_renumbered ss ss) in
    let k : length ss ≤ 0 + length ss = omega arith in
    rw (take_all (length ss) (renumbered ss ss) h, drop_of_length-le ss k) (append-nil (renumbered ss ss))

pub renumbered_turn : (ss l : List Slot) (i : ℕ) → i < length ss → l ≡ paste ss 0 (renumbered ss ss) i
    → set l i (slot_with (renumbered_phase ss (phase_at ss i))) ≡ paste ss 0 (renumbered ss ss) (i + 1)
renumbered_turn ss l i h e =
    let at : get_or (renumbered ss ss) i free_slot ≡ slot_with (renumbered_phase ss (phase_at ss i)) = ap slot_with (phase_renumbered ss ss i) in
    let k : i < length (renumbered ss ss) = omega (arith, length_renumbered ss ss) in
    let h' : 0 + i < length ss = omega arith in
    rw (e, ← at, add-one, ← paste-suc ss 0 (renumbered ss ss) i free_slot h' k, zero-add)

-- the slots that are not passed yet are the old ones
ahead_as_it_was : (ss rs : List Slot) (i : ℕ) → length ss ≡ length rs → get_or (take i rs ++ drop i ss) i free_slot ≡ get_or ss i free_slot
ahead_as_it_was [] [] zero e = refl
ahead_as_it_was [] [] (suc i) e = refl
ahead_as_it_was [] (r ∷ rs) i e = absurd (omega (arith, e))
ahead_as_it_was (s ∷ ss) [] i e = absurd (omega (arith, e))
ahead_as_it_was (s ∷ ss) (r ∷ rs) zero e = refl
ahead_as_it_was (s ∷ ss) (r ∷ rs) (suc i) e = ahead_as_it_was ss rs i (omega (arith, e))

pub not_passed : (ss : List Slot) (i : ℕ) → get_or (paste ss 0 (renumbered ss ss) i) i free_slot ≡ get_or ss i free_slot
not_passed ss i = rw zero-add (ahead_as_it_was ss (renumbered ss ss) i (sym (length_renumbered ss ss)))
