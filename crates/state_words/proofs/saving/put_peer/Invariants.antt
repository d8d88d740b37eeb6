-- `state_words::saving::put_peer` meets its contract. The loop's invariant: the words of the slots passed stand behind the next id.
use Prim.Native.Nat.{◌+◌}
use lib.ListN.{take}
use mathlib.Core.Path.{◌≡◌}
use Rattle.laws.specs.Parts.{store_at}
use Rattle.state_words.specs.Flat.{flat}
use Rattle.state_words.specs.Saving.{slot_words}
use Rattle.state_words.proofs.saving.put_peer.Given as goal

abbrev pub invariant-loop-i : goal.invariant-loop-i
invariant-loop-i l = l.words ≡ store_at l.initial.words (l.at + 1) (flat slot_words (take l.i l.slot-items))
