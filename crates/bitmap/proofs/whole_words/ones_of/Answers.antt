-- `bitmap::whole_words::ones_of` meets its contract. The loop's invariant: the total, with the ones of the words to come, is the whole.
use lib.Count.{ones-le}
use mathlib.Core.Path.{sym}
use native.Mathlib.Omega.{arith}
use Rattle.bitmap.proofs.WordFolds.{ones_end, ones_turn}
use Rattle.bitmap.proofs.whole_words.ones_of.Goals as goal

pub loop-word-preserved : goal.loop-word-preserved
loop-word-preserved c =
    let l = c.loop-word in
    let few = ones-le 64 _ (c.type_inv.words l.word-index).fits in
    (omega arith, ones_turn _ l.word-index (omega arith) l.total _ l.invariant.1)

pub returns : goal.returns
returns c = let l = c.loop-word in sym (ones_end _ l.word-index (omega arith) l.total _ l.invariant.1)
