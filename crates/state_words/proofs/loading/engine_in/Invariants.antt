-- `state_words::loading::engine_in` meets its contract. The loop's invariant: the peers passed are those read.
use Prim.Native.Nat.{ℕ, ◌+◌, ◌*◌}
use lib.ListN.{replicate}
use lib.Seq.{paste}
use mathlib.Core.List.{List}
use mathlib.Core.Path.{◌≡◌}
use Rattle.peer.specs.State.{fresh_peer}
use Rattle.peer.specs.declared.types.Peer.{Peer}
use Rattle.engine.specs.SetUp.{peer_count}
use Rattle.state_words.specs.Saving.{peer_size}
use Rattle.state_words.specs.Flat.{tabulate}
use Rattle.state_words.specs.Loading.{peer_in}
use Rattle.state_words.proofs.loading.engine_in.Given as goal

-- the peers as they are fresh, and the peer that is read at each place
abbrev fresh : List Peer
fresh = replicate peer_count fresh_peer

abbrev read : List ℕ → ℕ → Peer
read w p = peer_in w (3 + peer_size * p)

abbrev pub invariant-loop-p : goal.invariant-loop-p
invariant-loop-p l = l.peer-items ≡ paste fresh 0 (tabulate (read l.words) peer_count) l.p
