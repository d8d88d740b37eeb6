-- `trace::number::number_at` meets its contract. The loop's invariant: the groups passed, at most nine, make the sum, and the rest of
-- the number is read from i on.
use Rattle.trace.proofs.NumberLaws.{Underway}
use Rattle.trace.proofs.number.number_at.Given as goal

abbrev pub invariant-loop-i : goal.invariant-loop-i
invariant-loop-i l = Underway l.s l.at l.sum l.weight l.i
