-- `state_words::loading::peer_in` meets its contract. The loop's invariant: the slots passed are those read.
use Prim.Native.Nat.{ℕ, ◌+◌, ◌*◌}
use lib.ListN.{replicate}
use lib.Seq.{paste}
use mathlib.Core.List.{List}
use mathlib.Core.Path.{◌≡◌}
use Rattle.peer.specs.State.{free_slot, slot_count, slot_with}
use Rattle.peer.specs.declared.types.Slot.{Slot}
use Rattle.state_words.specs.Flat.{tabulate}
use Rattle.state_words.specs.Loading.{phase_in}
use Rattle.state_words.proofs.loading.peer_in.Given as goal

-- the slots as they are fresh, and the slot that is read at each place
abbrev free : List Slot
free = replicate slot_count free_slot

abbrev read : List ℕ → ℕ → ℕ → Slot
read w at i = slot_with (phase_in w (at + 1 + 16 * i))

abbrev pub invariant-loop-i : goal.invariant-loop-i
invariant-loop-i l = l.slot-items ≡ paste free 0 (tabulate (read l.words l.at) slot_count) l.i
