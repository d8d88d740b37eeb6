-- `replay::entries::run` meets its contract. The loop's invariant: the state can be, and what the entries taken leave, with the rest run from there, is the whole replay.
use Prim.Native.Nat.{◌-◌}
use lib.ListN.{length}
use mathlib.Core.Bool.{true}
use mathlib.Core.Path.{◌≡◌}
use Rattle.engine.specs.Leaves.{world}
use Rattle.guarantees.specs.Outputs.{run_leaves}
use Rattle.guarantees.proofs.CheckedOnce.{CheckedOnce}
use Rattle.replay.specs.Decoding.{decode}
use Rattle.replay.specs.Lines.{answer_line}
use Rattle.replay.proofs.ReplayInvariant.{ReplayInvariant}
use Rattle.replay.proofs.entries.run.Given as goal

abbrev pub invariant-loop-taken : goal.invariant-loop-taken
invariant-loop-taken l =
    let d = decode l.budget l.trace l.initial.reply l.from in
    (length l.arena ≡ length l.initial.arena) × (length l.map ≡ length l.initial.map) × (length l.reply ≡ length l.initial.reply) × (length l.text ≡ length l.initial.text)
    × CheckedOnce true l.engine
    × ReplayInvariant l.trace l.initial.reply l.budget (run_leaves l.trace l.initial.reply answer_line (world l.initial.engine l.initial.arena l.initial.map) l.initial.text l.at d.calls) d.ending (world l.engine l.arena l.map) l.reply l.text l.place l.written l.taken

abbrev pub decreases-loop-taken : goal.decreases-loop-taken
decreases-loop-taken l = l.budget - l.taken
