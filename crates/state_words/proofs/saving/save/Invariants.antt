-- `state_words::saving::save` meets its contract. The loop's invariant: the words of the peers passed stand behind the set-up numbers.
use lib.ListN.{take}
use mathlib.Core.Path.{◌≡◌}
use Rattle.laws.specs.Parts.{store_at}
use Rattle.state_words.specs.Flat.{flat}
use Rattle.state_words.specs.Saving.{peer_words}
use Rattle.state_words.proofs.saving.save.Given as goal

abbrev pub invariant-loop-p : goal.invariant-loop-p
invariant-loop-p l = l.words ≡ store_at l.initial.words 3 (flat peer_words (take l.p l.peer-items))
