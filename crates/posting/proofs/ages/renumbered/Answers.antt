-- `posting::ages::renumbered` meets its contract. The loop's invariant: the slots passed have their new ages.
use lib.ListN.{length, get_or}
use mathlib.Core.List.{List}
use mathlib.Core.Path.{◌≡◌, ap, ◌∙◌}
use native.Mathlib.Omega.{arith}
use Rattle.laws.proofs.Listing.{length_mapped}
use Rattle.peer.specs.declared.types.Slot.{Slot}
use Rattle.posting.proofs.Renumbering.{all_renumbered, not_passed, renumbered_turn}
use Rattle.peer.specs.State.{free_slot, slot_count}
use Rattle.posting.proofs.ages.renumbered.Goals as goal

pub loop-slot-preserved : goal.loop-slot-preserved
loop-slot-preserved c =
    let ss = c.args.all.slots in
    let len : length ss ≡ slot_count = search length_mapped in
    let here : get_or c.loop-slot.slot-items c.loop-slot.slot-index free_slot ≡ get_or ss c.loop-slot.slot-index free_slot =
    rw c.loop-slot.invariant (not_passed ss c.loop-slot.slot-index) in
    rw (c.renumbered_slot.ensures, here) (renumbered_turn ss c.loop-slot.slot-items c.loop-slot.slot-index (omega (arith, len)) c.loop-slot.invariant)

pub returns : goal.returns
returns c =
    let ss = c.args.all.slots in
    let len : length ss ≡ slot_count = search length_mapped in
    let all : c.loop-slot.slot-index ≡ length ss = omega (arith, len) in
    ap (λ (s : List Slot). record { next = c.args.all.next; slots = s }) (rw all at c.loop-slot.invariant ∙ all_renumbered ss)
