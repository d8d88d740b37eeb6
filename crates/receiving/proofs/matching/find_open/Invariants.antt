-- `receiving::matching::find_open` meets its contract. The loop's invariant: no slot passed is open under the id, so that it is looked for in the rest.
use Rattle.std.proofs.Common.{◌≡◌, drop}
use Rattle.peer.specs.Matching.{find_open}
use Rattle.receiving.proofs.matching.find_open.Given as goal

abbrev pub invariant-loop-i : goal.invariant-loop-i
invariant-loop-i l = find_open l.id 0 l.slots ≡ find_open l.id l.i (drop l.i l.slots)
