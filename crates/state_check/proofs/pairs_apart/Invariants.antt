-- `state_check::pairs_apart` meets its contract. The loop's invariant: the slots passed clash with none behind them.
use lib.ListN.{drop}
use mathlib.Core.Path.{◌≡◌}
use Rattle.peer.specs.State.{pairs_apart}
use Rattle.state_check.proofs.pairs_apart.Given as goal

abbrev pub invariant-loop-i : goal.invariant-loop-i
invariant-loop-i l = pairs_apart l.slots ≡ pairs_apart (drop l.i l.slots)
