-- `bitmap::whole_words::full_run` meets its contract. The loop's invariant: the words passed are full, so that the run of those to come is what is left.
use mathlib.Core.Path.{sym}
use native.Mathlib.Omega.{arith}
use Rattle.bitmap.proofs.WordFolds.{run_end, run_stop, run_turn}
use Rattle.bitmap.proofs.whole_words.full_run.Goals as goal

pub returns-then-word : goal.returns-then-word
returns-then-word c = let l = c.loop-k in sym (run_stop _ l.k (omega arith) _ l.invariant c.if-word.true)

pub loop-k-preserved : goal.loop-k-preserved
loop-k-preserved c = let l = c.loop-k in run_turn _ l.k (omega arith) _ l.invariant c.if-word.false

pub returns : goal.returns
returns c = let l = c.loop-k in omega (arith, run_end _ l.k (omega arith) _ l.invariant)
