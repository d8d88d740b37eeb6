-- `bitmap::whole_words::full_run` meets its contract. The loop's invariant: the words passed are full, so that the run of those to come is what is left.
use Prim.Native.Nat.{◌+◌}
use lib.ListN.{drop}
use mathlib.Core.Path.{◌≡◌}
use Rattle.bitmap.specs.WholeWords.{full_run}
use Rattle.bitmap.proofs.whole_words.full_run.Given as goal

abbrev pub invariant-loop-k : goal.invariant-loop-k
invariant-loop-k l = full_run l.words ≡ l.k + full_run (drop l.k l.words)
