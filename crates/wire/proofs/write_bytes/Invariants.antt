-- `wire::write_bytes` meets its contract. The loop's invariant: the bytes passed stand in their place.
use lib.Seq.{paste}
use mathlib.Core.Path.{◌≡◌}
use Rattle.wire.proofs.write_bytes.Given as goal

abbrev pub invariant-loop-i : goal.invariant-loop-i
invariant-loop-i l = l.s ≡ paste l.initial.s l.at l.bytes l.i
