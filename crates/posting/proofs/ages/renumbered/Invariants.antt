-- `posting::ages::renumbered` meets its contract. The loop's invariant: the slots passed have their new ages.
use lib.Seq.{paste}
use mathlib.Core.Path.{◌≡◌}
use Rattle.peer.specs.Calls.{renumbered}
use Rattle.posting.proofs.ages.renumbered.Given as goal

abbrev pub invariant-loop-slot : goal.invariant-loop-slot
invariant-loop-slot l = l.slot-items ≡ paste l.all.slots 0 (renumbered l.all.slots l.all.slots) l.slot-index
