-- `bitmap::whole_words::ones_of` meets its contract. The loop's invariant: the total, with the ones of the words to come, is the whole.
use Prim.Native.Nat.{◌+◌, ◌*◌, ◌≤◌}
use lib.ListN.{drop}
use mathlib.Core.Path.{◌≡◌}
use Rattle.bitmap.specs.WholeWords.{ones_of}
use Rattle.bitmap.proofs.whole_words.ones_of.Given as goal

abbrev pub invariant-loop-word : goal.invariant-loop-word
invariant-loop-word l = (l.total ≤ 64 * l.word-index) × (ones_of l.words ≡ l.total + ones_of (drop l.word-index l.words))
