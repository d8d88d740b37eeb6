-- `packet_vectors::words::number_in` meets its contract. The loop's invariant: the number so far is at most the most.
use Rattle.std.proofs.Common.{◌≤◌}
use Rattle.packet_vectors.proofs.words.number_in.Given as goal

abbrev pub invariant-loop-byte : goal.invariant-loop-byte
invariant-loop-byte l = l.value ≤ l.most
