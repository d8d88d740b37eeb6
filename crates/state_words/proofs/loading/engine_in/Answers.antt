-- `state_words::loading::engine_in` meets its contract. The loop's invariant: the peers passed are those read.
use Prim.Native.Nat.{ℕ, ◌+◌, ◌*◌}
use lib.ListN.{replicate}
use mathlib.Core.List.{List}
use mathlib.Core.Path.{◌≡◌, refl, ◌∙◌}
use native.Mathlib.Omega.{arith}
use Rattle.peer.specs.State.{fresh_peer}
use Rattle.peer.specs.declared.types.Peer.{Peer}
use Rattle.engine.specs.SetUp.{peer_count}
use Rattle.state_words.specs.Saving.{peer_size}
use Rattle.state_words.specs.Flat.{tabulate}
use Rattle.state_words.specs.Loading.{engine_in, peer_in}
use Rattle.state_words.proofs.FlatLaws.{tabulate_turn, tabulate_all}
use Rattle.state_words.proofs.loading.engine_in.Goals as goal

-- the peers as they are fresh, and the peer that is read at each place
fresh : List Peer
fresh = replicate peer_count fresh_peer

abbrev read : List ℕ → ℕ → Peer
read w p = peer_in w (3 + peer_size * p)

pub loop-p-preserved : goal.loop-p-preserved
unfolding fresh
loop-p-preserved c =
    let a = c.args in
    rw c.peer_in.ensures (tabulate_turn (read a.words.now) peer_count fresh c.loop-p.peer-items c.loop-p.p refl (omega arith) c.loop-p.invariant)

pub returns : goal.returns
unfolding engine_in fresh
returns c =
    let a = c.args in
    let all : c.loop-p.p ≡ peer_count = omega arith in
    let peers : c.loop-p.peer-items ≡ tabulate (read a.words.now) peer_count = rw all at c.loop-p.invariant ∙ tabulate_all (read a.words.now) peer_count fresh refl in
    rw (c.fresh-engine.ensures, ← peers)
