-- `state_words::saving::put_peer` meets its contract. The loop's invariant: the words of the slots passed stand behind the next id.
use Prim.Native.Nat.{◌+◌, ◌*◌, ◌≤◌}
use lib.ListN.{length, set, length-set}
use lib.Seq.{take_all}
use mathlib.Core.Path.{◌≡◌, refl, sym, ◌∙◌}
use native.Mathlib.Omega.{arith}
use Rattle.peer.specs.State.{free_slot, slot_count}
use Rattle.state_words.specs.Flat.{flat}
use Rattle.state_words.specs.Saving.{slot_words}
use Rattle.laws.proofs.Storing.{set_next, store_nothing}
use Rattle.laws.proofs.Listing.{length_mapped}
use Rattle.state_words.proofs.FlatLaws.{flat_turn}
use Rattle.state_words.proofs.Sizes.{length_peer, length_slot}
use Rattle.state_words.proofs.saving.put_peer.Goals as goal

pub loop-i-init : goal.loop-i-init
unfolding flat
loop-i-init c = sym (store_nothing _ _)

pub loop-i-preserved : goal.loop-i-preserved
loop-i-preserved c =
    let a = c.args in
    let w = c.well_formed.0 in
    let len : length a.peer.slots ≡ slot_count = search length_mapped in
    let w = set a.words.now a.at a.peer.next in
    let fits : a.at + 1 + 16 * length a.peer.slots ≤ length w = simp length-set (omega (arith, len)) in
    c.put_words.ensures
    ∙ rw (c.slot_words.ensures, c.loop-i.invariant)
    (flat_turn slot_words 16 a.peer.slots free_slot (λ i h. length_slot _) w (a.at + 1) c.loop-i.i (a.at + 1 + 16 * c.loop-i.i) (omega (arith, len)) refl fits)

pub returns : goal.returns
returns c =
    let a = c.args in
    let w = c.well_formed.0 in
    let len : length a.peer.slots ≡ slot_count = search length_mapped in
    let all : length a.peer.slots ≤ c.loop-i.i = omega (arith, len) in
    let size = length_peer a.peer len in
    rw (take_all c.loop-i.i a.peer.slots all) at c.loop-i.invariant
    ∙ set_next a.words.now a.at a.peer.next (flat slot_words a.peer.slots) (omega (arith, size))
