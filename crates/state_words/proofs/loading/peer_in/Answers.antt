-- `state_words::loading::peer_in` meets its contract. The loop's invariant: the slots passed are those read.
use Prim.Native.Nat.{ℕ, ◌+◌, ◌*◌, ◌%◌, ◌^◌}
use lib.ListN.{get_or, replicate}
use lib.Seq.{paste-zero}
use mathlib.Core.List.{List}
use mathlib.Core.Path.{◌≡◌, refl, ap, ◌∙◌}
use native.Mathlib.Omega.{arith}
use Rattle.peer.specs.State.{free_slot, fresh_peer, slot_count, slot_with}
use Rattle.peer.specs.declared.types.Slot.{Slot}
use Rattle.state_words.specs.Flat.{tabulate}
use Rattle.state_words.specs.Loading.{peer_in, phase_in}
use Rattle.state_words.proofs.FlatLaws.{tabulate_turn, tabulate_all}
use Rattle.state_words.proofs.loading.peer_in.Goals as goal

-- the slots as they are fresh, and the slot that is read at each place
free : List Slot
free = replicate slot_count free_slot

abbrev read : List ℕ → ℕ → ℕ → Slot
read w at i = slot_with (phase_in w (at + 1 + 16 * i))

pub loop-i-init : goal.loop-i-init
unfolding free fresh_peer
loop-i-init c =
    let a = c.args in
    rw c.fresh-peer.ensures (paste-zero free 0 (tabulate (read a.words.now a.at) slot_count))

pub loop-i-preserved : goal.loop-i-preserved
unfolding free
loop-i-preserved c =
    let a = c.args in
    rw c.slot_in.ensures (tabulate_turn (read a.words.now a.at) slot_count free c.loop-i.slot-items c.loop-i.i refl (omega arith) c.loop-i.invariant)

pub returns : goal.returns
unfolding peer_in free
returns c =
    let a = c.args in
    let all : c.loop-i.i ≡ slot_count = omega arith in
    ap (λ (s : List Slot). record { next = get_or a.words.now a.at 0 % 2 ^ 32; slots = s })
    (rw all at c.loop-i.invariant ∙ tabulate_all (read a.words.now a.at) slot_count free refl)
