-- The state that words are read as, and which words are a state's.
use Rattle.std.specs.Prelude.{ℕ, ◌+◌, ◌*◌, ◌/◌, ◌%◌, ◌^◌, List, Bool, get_or, eqb, Option, Some, None}
use Rattle.laws.specs.Choose.{pick}
use Rattle.protocol.specs.declared.table.Shape.{Shape}
use Rattle.protocol.specs.declared.table.Shape.TheVariants.{Cts, CtsData, Eager, Medium, LongCts}
use Rattle.peer.specs.declared.types.Receive.{Receive}
use Rattle.peer.specs.declared.types.Message.{Message}
use Rattle.peer.specs.declared.types.Phase.{Phase}
use Rattle.peer.specs.declared.types.Peer.{Peer}
use Rattle.peer.specs.State.{slot_count, slot_with}
use Rattle.engine.specs.declared.types.Engine.{Engine}
use Rattle.engine.specs.SetUp.{peer_count, engine_of}
use Rattle.state_words.specs.Flat.{tabulate, same}
use Rattle.state_words.specs.Saving.{slot_size, peer_size, engine_words}

abbrev pub receive_in : List ℕ → ℕ → Receive
receive_in w at =
    record {
      tagged = eqb (get_or w (at + 1) 0) 1;
      tag = get_or w (at + 2) 0;
      ignore = get_or w (at + 3) 0;
      start = get_or w (at + 4) 0;
      capacity = get_or w (at + 5) 0;
    }

abbrev pub cq_in : List ℕ → ℕ → Option ℕ
cq_in w at = pick (eqb (get_or w (at + 14) 0) 1) (Some (get_or w (at + 15) 0)) None

-- the shape with this number
abbrev pub shape_in : ℕ → Shape
shape_in n = pick (eqb n 0) Cts (pick (eqb n 1) CtsData (pick (eqb n 2) Eager (pick (eqb n 3) Medium LongCts)))

abbrev pub message_in : List ℕ → ℕ → Message
message_in w at =
    record {
      shape = shape_in (get_or w (at + 7) 0 / 2);
      tagged = eqb (get_or w (at + 7) 0 % 2) 1;
      id = get_or w (at + 8) 0 % 2 ^ 32;
      tag = get_or w (at + 9) 0;
      length = get_or w (at + 10) 0;
      granted = get_or w (at + 11) 0;
      send_id = get_or w (at + 12) 0 % 2 ^ 32;
      credit_request = get_or w (at + 13) 0 % 2 ^ 32;
      cq_data = cq_in w at;
    }

unfoldable pub phase_in : List ℕ → ℕ → Phase
phase_in w at =
    pick (eqb (get_or w at 0) 1) (Phase.Posted (receive_in w at) (get_or w (at + 6) 0))
    (pick (eqb (get_or w at 0) 2) (Phase.Open (record { receive = receive_in w at; message = message_in w at })) Phase.Free)

unfoldable pub peer_in : List ℕ → ℕ → Peer
peer_in w at = record { next = get_or w at 0 % 2 ^ 32; slots = tabulate (λ i. slot_with (phase_in w (at + 1 + slot_size * i))) slot_count }

unfoldable pub engine_in : List ℕ → Engine
engine_in w =
    record {
      peers = tabulate (λ p. peer_in w (3 + peer_size * p)) peer_count;
      n = get_or w 0 0;
      area = get_or w 1 0;
      limit = get_or w 2 0;
    }

-- whether the words are those of a state
unfoldable pub is_state : List ℕ → Bool
is_state w = same w (engine_words (engine_in w))

-- the engine of a state's words, or nothing
unfoldable pub loaded : List ℕ → Option Engine
loaded w = pick (is_state w) (Some (engine_in w)) None

-- the state, or else one of no peers, which every call refuses 2 (01: "a state that can't be")
unfoldable pub state_of : List ℕ → Engine
state_of w = pick (is_state w) (engine_in w) (engine_of 0 0 0)

-- the words after a run that left this engine; words that are no state's stay
unfoldable pub state_after : List ℕ → Engine → List ℕ
state_after w e = pick (is_state w) (engine_words e) w
