-- Saving and loading undo each other. Proved in proofs/RoundTrips.antt.
use Rattle.std.specs.Prelude.{ℕ, ◌^◌, ◌<◌, length, true, List, ◌≡◌, Some}
use Rattle.peer.specs.State.{phase_at, slot_count}
use Rattle.peer.specs.declared.types.Inbound.{Inbound}
use Rattle.peer.specs.declared.types.Message.{Message}
use Rattle.peer.specs.declared.types.Peer.{Peer}
use Rattle.peer.specs.declared.types.Phase.{Phase}
use Rattle.engine.specs.SetUp.{peer_at, peer_count}
use Rattle.engine.specs.declared.types.Engine.{Engine}
use Rattle.state_words.specs.Loading.{is_state, loaded, state_of}
use Rattle.state_words.specs.Saving.{engine_words}

-- a state's words are those of the state that they are read as
unfoldable pub SavedAgain : Type 0
SavedAgain = (w : List ℕ) → is_state w ≡ true → engine_words (state_of w) ≡ w

-- words that an engine was loaded from are those that it is saved as
unfoldable pub LoadedThenSaved : Type 0
LoadedThenSaved = (w : List ℕ) (e : Engine) → loaded w ≡ Some e → engine_words e ≡ w

-- ---- an engine as the code holds it: its arrays have their lengths, and numbers of fewer than 64 bits are within their types

pub record MessageHeld (m : Message) : Type 0 where
  pub id : m.id < 2 ^ 32
  pub send_id : m.send_id < 2 ^ 32
  pub credit_request : m.credit_request < 2 ^ 32

pub record PeerHeld (p : Peer) : Type 0 where
  pub next : p.next < 2 ^ 32
  pub slots : length p.slots ≡ slot_count
  pub messages : (i : ℕ) (o : Inbound) → phase_at p.slots i ≡ Phase.Open o → MessageHeld o.message

pub record Held (e : Engine) : Type 0 where
  pub peers : length e.peers ≡ peer_count
  pub each : (p : ℕ) → p < peer_count → PeerHeld (peer_at e p)

-- such an engine is read from its words
unfoldable pub LoadedAgain : Type 0
LoadedAgain = (e : Engine) → Held e → state_of (engine_words e) ≡ e

-- and is loaded from the words that it was saved as
unfoldable pub SavedThenLoaded : Type 0
SavedThenLoaded = (e : Engine) → Held e → loaded (engine_words e) ≡ Some e
