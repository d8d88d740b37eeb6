-- How many words a slot, a peer and a state have.
use Prim.Native.Nat.{ℕ, ◌+◌, ◌*◌, ◌<◌}
use lib.ListN.{length, get_or}
use mathlib.Core.Bool.{false}
use mathlib.Core.List.{List}
use mathlib.Core.Path.{◌≡◌, refl, ap, ◌∙◌}
use native.Mathlib.Omega.{arith}
use Rattle.peer.specs.State.{free_slot, fresh_peer, slot_count, slot_with}
use Rattle.peer.specs.declared.types.Peer.{Peer}
use Rattle.peer.specs.declared.types.Phase.{Phase}
use Rattle.peer.specs.declared.types.Slot.{Slot}
use Rattle.engine.specs.SetUp.{peer_count}
use Rattle.engine.specs.declared.types.Engine.{Engine}
use Rattle.state_words.specs.Loading.{engine_in, is_state, peer_in, phase_in}
use Rattle.state_words.specs.Saving.{engine_words, peer_size, peer_words, phase_words, slot_size, slot_words, state_size}
use Rattle.state_words.proofs.FlatLaws.{get_d_tabulate, length_flat, length_tabulate, same_lengths}

length_phase : (f : Phase) → length (phase_words f) ≡ slot_size
unfolding phase_words
length_phase Phase.Free = refl
length_phase (Phase.Posted r age) = refl
length_phase (Phase.Open o) = refl

pub length_slot : (s : Slot) → length (slot_words s) ≡ slot_size
length_slot s = length_phase s.phase

pub length_peer : (p : Peer) → length p.slots ≡ slot_count → length (peer_words p) ≡ peer_size
length_peer p e = omega (arith, length_flat slot_words slot_size p.slots free_slot (λ i h. length_slot (get_or p.slots i free_slot)))

pub length_engine : (e : Engine) (d : Peer) → length e.peers ≡ peer_count → ((i : ℕ) → i < length e.peers → length (get_or e.peers i d).slots ≡ slot_count)
    → length (engine_words e) ≡ state_size
unfolding engine_words
length_engine e d n each = omega (arith, length_flat peer_words peer_size e.peers d (λ i h. length_peer (get_or e.peers i d) (each i h)))

-- words that are read and written again
pub length_again : (w : List ℕ) → length (engine_words (engine_in w)) ≡ state_size
unfolding engine_in peer_in
length_again w =
    let peers = length_tabulate (λ p. peer_in w (3 + peer_size * p)) peer_count in
    length_engine (engine_in w) fresh_peer peers
    (λ i h. ap (λ (p : Peer). length p.slots) (get_d_tabulate (λ p. peer_in w (3 + peer_size * p)) peer_count i fresh_peer (omega (arith, peers)))
    ∙ length_tabulate (λ j. slot_with (phase_in w (3 + peer_size * i + 1 + slot_size * j))) slot_count)

-- a state's words are that many
pub not_state : (w : List ℕ) → (length w ≡ state_size → ⊥) → is_state w ≡ false
unfolding is_state
not_state w n = same_lengths w (engine_words (engine_in w)) (λ e. n (e ∙ length_again w))
