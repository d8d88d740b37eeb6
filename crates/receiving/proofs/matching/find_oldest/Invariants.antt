-- `receiving::matching::find_oldest` meets its contract. The loop's invariant: the rest, with the best so far, has the oldest of all.
use Rattle.std.proofs.Common.{◌≡◌, drop}
use Rattle.std.specs.Prelude.{None}
use Rattle.peer.specs.Matching.{oldest}
use Rattle.receiving.proofs.matching.find_oldest.Given as goal

abbrev pub invariant-loop-i : goal.invariant-loop-i
invariant-loop-i l = oldest l.h 0 None l.slots ≡ oldest l.h l.i l.best (drop l.i l.slots)
