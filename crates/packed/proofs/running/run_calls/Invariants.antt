-- `packed::running::run_calls` meets its contract. The loop's invariant: the state was checked once, and what the calls passed leave, with the rest run from there, is what
-- all of them leave.
use lib.ListN.{length}
use mathlib.Core.Path.{◌≡◌}
use Rattle.engine.specs.Leaves.{world}
use Rattle.guarantees.proofs.CheckedOnce.{CheckedOnce}
use Rattle.packed.specs.Running.{ran_from}
use Rattle.packed.proofs.BatchInvariant.{BatchInvariant}
use Rattle.packed.proofs.running.run_calls.Given as goal

abbrev pub invariant-loop-taken : goal.invariant-loop-taken
invariant-loop-taken l =
    (length l.arena ≡ length l.initial.arena) × (length l.map ≡ length l.initial.map) × (length l.replies ≡ length l.initial.replies) × (length l.answers ≡ length l.initial.answers)
    × CheckedOnce l.good l.engine
    × BatchInvariant l.calls l.bytes l.initial.replies l.most (ran_from (world l.initial.engine l.initial.arena l.initial.map) l.calls l.bytes l.initial.replies l.initial.answers) (world l.engine l.arena l.map) l.replies l.answers l.at l.taken
