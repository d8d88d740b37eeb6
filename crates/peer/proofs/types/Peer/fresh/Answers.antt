-- `peer::types::Peer::fresh` meets its contract.
use Rattle.std.proofs.Common.{refl}
use Rattle.peer.specs.State.{fresh_peer}
use Rattle.peer.proofs.types.Peer.fresh.Goals as goal

pub returns : goal.returns
unfolding fresh_peer
returns c = refl
