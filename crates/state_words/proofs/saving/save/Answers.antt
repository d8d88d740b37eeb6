-- `state_words::saving::save` meets its contract. The loop's invariant: the words of the peers passed stand behind the set-up numbers.
use Prim.Native.Nat.{ℕ, ◌+◌, ◌*◌, ◌≤◌, ◌<◌}
use lib.ListN.{length, get_or, set, length-set}
use lib.Seq.{take_all}
use mathlib.Core.List.{[], ◌∷◌}
use mathlib.Core.Path.{◌≡◌, refl, sym, ◌∙◌}
use native.Mathlib.Omega.{arith}
use Rattle.peer.specs.declared.types.Peer.{Peer}
use Rattle.peer.specs.State.{slot_count}
use Rattle.engine.specs.SetUp.{peer_count}
use Rattle.state_words.specs.Flat.{flat}
use Rattle.state_words.specs.Saving.{engine_words, peer_size, peer_words}
use Rattle.laws.proofs.Storing.{set_next, store_nothing, store_whole}
use Rattle.laws.proofs.Listing.{length_mapped}
use Rattle.state_words.proofs.Elements.{slots_each}
use Rattle.state_words.proofs.FlatLaws.{flat_turn}
use Rattle.state_words.proofs.Sizes.{length_engine, length_peer}
use Rattle.state_words.proofs.saving.save.Goals as goal
use Rattle.state_words.proofs.saving.save.Goals.{Start}

abbrev no_peer : Peer
no_peer = record { next = 0; slots = [] }

eight : (c : Start) → length c.args.engine.peers ≡ peer_count
eight c = search length_mapped

slots : (c : Start) (i : ℕ) → i < length c.args.engine.peers → length (get_or c.args.engine.peers i no_peer).slots ≡ slot_count
slots c i h = slots_each c.args.engine.peers _ c.well_formed.1.0.1.1.0.1.1 i no_peer h

pub loop-p-init : goal.loop-p-init
unfolding flat
loop-p-init c = sym (store_nothing _ _)

pub loop-p-preserved : goal.loop-p-preserved
loop-p-preserved c =
    let a = c.args in
    let len = eight (goal.at.loop-p-preserved c).Start in
    let w = set (set (set a.words.now 0 a.engine.n) 1 a.engine.area) 2 a.engine.limit in
    let fits : 3 + peer_size * length a.engine.peers ≤ length w = simp length-set (omega (arith, len, c.requires)) in
    c.put_peer.ensures
    ∙ rw c.loop-p.invariant
    (flat_turn peer_words peer_size a.engine.peers no_peer (λ i h. length_peer (get_or a.engine.peers i no_peer) (slots (goal.at.loop-p-preserved c).Start i h)) w 3 c.loop-p.p (3 + peer_size * c.loop-p.p) (omega (arith, len)) refl fits)

pub returns : goal.returns
unfolding engine_words
returns c =
    let a = c.args in
    let e = a.engine in
    let w = a.words.now in
    let rest = flat peer_words e.peers in
    let len = eight (goal.at.returns c).Start in
    let all : length e.peers ≤ c.loop-p.p = omega (arith, len) in
    let size = length_engine e no_peer len (slots (goal.at.returns c).Start) in
    rw (take_all c.loop-p.p e.peers all) at c.loop-p.invariant
    ∙ set_next (set (set w 0 e.n) 1 e.area) 2 e.limit rest (simp length-set (omega (arith, size, c.requires)))
    ∙ set_next (set w 0 e.n) 1 e.area (e.limit ∷ rest) (simp length-set (omega (arith, size, c.requires)))
    ∙ set_next w 0 e.n (e.area ∷ e.limit ∷ rest) (omega (arith, size, c.requires)) ∙ store_whole w (engine_words e) (size ∙ sym c.requires)
