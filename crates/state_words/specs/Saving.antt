-- The engine's state as 64-bit words, which a caller keeps between runs: the set-up numbers n, A and L, then for each peer its next id
-- and 16 words for each slot.
use Rattle.std.specs.Prelude.{ℕ, ◌+◌, ◌*◌, Bool, List, [], ◌∷◌}
use Rattle.protocol.specs.declared.table.Shape.{Shape}
use Rattle.protocol.specs.declared.table.Shape.TheVariants.{Cts, CtsData, Eager, Medium, LongCts}
use Rattle.words.specs.Presence.{bool_bit, option_bit, option_value}
use Rattle.peer.specs.declared.types.Receive.{Receive}
use Rattle.peer.specs.declared.types.Message.{Message}
use Rattle.peer.specs.declared.types.Phase.{Phase}
use Rattle.peer.specs.declared.types.Slot.{Slot}
use Rattle.peer.specs.declared.types.Peer.{Peer}
use Rattle.peer.specs.State.{slot_count}
use Rattle.engine.specs.declared.types.Engine.{Engine}
use Rattle.engine.specs.SetUp.{peer_count}
use Rattle.state_words.specs.Flat.{flat}

-- the words of a slot, of a peer and of the whole state
abbrev pub slot_size : ℕ
slot_size = 16

abbrev pub peer_size : ℕ
peer_size = 1 + slot_size * slot_count

abbrev pub state_size : ℕ
state_size = 3 + peer_size * peer_count

-- a shape by its place among the shapes
abbrev pub shape_number : Shape → ℕ
shape_number Cts = 0
shape_number CtsData = 1
shape_number Eager = 2
shape_number Medium = 3
shape_number LongCts = 4

-- shape and tagged in one word
abbrev pub sort_word : Shape → Bool → ℕ
sort_word s tagged = 2 * shape_number s + bool_bit tagged

-- a phase, by its number, its receive, its age and its message; what it has not is 0
unfoldable pub phase_words : Phase → List ℕ
phase_words Phase.Free = 0 ∷ 0 ∷ 0 ∷ 0 ∷ 0 ∷ 0 ∷ 0 ∷ 0 ∷ 0 ∷ 0 ∷ 0 ∷ 0 ∷ 0 ∷ 0 ∷ 0 ∷ 0 ∷ []
phase_words (Phase.Posted r age) =
    1 ∷ bool_bit r.tagged ∷ r.tag ∷ r.ignore ∷ r.start ∷ r.capacity ∷ age ∷ 0 ∷ 0 ∷ 0 ∷ 0 ∷ 0 ∷ 0 ∷ 0 ∷ 0 ∷ 0 ∷ []
phase_words (Phase.Open o) =
    let r : Receive = o.receive in
    let m : Message = o.message in
    2 ∷ bool_bit r.tagged ∷ r.tag ∷ r.ignore ∷ r.start ∷ r.capacity ∷ 0
    ∷ sort_word m.shape m.tagged ∷ m.id ∷ m.tag ∷ m.length ∷ m.granted ∷ m.send_id ∷ m.credit_request ∷ option_bit m.cq_data ∷ option_value m.cq_data ∷ []

abbrev pub slot_words : Slot → List ℕ
slot_words s = phase_words s.phase

abbrev pub peer_words : Peer → List ℕ
peer_words p = p.next ∷ flat slot_words p.slots

unfoldable pub engine_words : Engine → List ℕ
engine_words e = e.n ∷ e.area ∷ e.limit ∷ flat peer_words e.peers
