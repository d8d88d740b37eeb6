-- `bitmap::whole_words::or_of` meets its contract. The loop's invariant: what was seen, with what the words to come have, is the whole.
use lib.Bits.{bit_or}
use lib.ListN.{drop}
use mathlib.Core.Path.{◌≡◌}
use Rattle.bitmap.specs.WholeWords.{or_of}
use Rattle.bitmap.proofs.whole_words.or_of.Given as goal

abbrev pub invariant-loop-word : goal.invariant-loop-word
invariant-loop-word l = or_of l.words ≡ bit_or l.seen (or_of (drop l.word-index l.words))
