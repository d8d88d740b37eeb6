-- `packet_vectors::hex::decode` meets its contract. The loop's invariant: no more bytes than there is room for. Each turn takes some of the text.
use Rattle.std.proofs.Common.{◌≤◌, length}
use Rattle.packet_vectors.proofs.hex.decode.Given as goal

abbrev pub invariant-loop-count : goal.invariant-loop-count
invariant-loop-count g l = l.count ≤ length l.out

abbrev pub decreases-loop-count : goal.decreases-loop-count
decreases-loop-count g l = length l.rest
