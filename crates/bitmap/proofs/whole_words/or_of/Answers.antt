-- `bitmap::whole_words::or_of` meets its contract. The loop's invariant: what was seen, with what the words to come have, is the whole.
use mathlib.Core.Path.{sym}
use native.Mathlib.Omega.{arith}
use Rattle.bitmap.proofs.WordFolds.{or_end, or_turn}
use Rattle.bitmap.proofs.whole_words.or_of.Goals as goal

pub loop-word-preserved : goal.loop-word-preserved
loop-word-preserved c = let l = c.loop-word in or_turn _ l.word-index (omega arith) l.seen _ l.invariant

pub returns : goal.returns
returns c = let l = c.loop-word in sym (or_end _ l.word-index (omega arith) l.seen _ l.invariant)
