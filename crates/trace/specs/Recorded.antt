-- A set-up and entries as they are recorded (01, "Replay": "The trace is n, A, L, then entries: 1 post (peer, kind 0 plain or 1 tagged,
-- tag, ignore, start, capacity); 2 packet (peer, byte count, bytes); 3 cancel (peer, slot)").
use Rattle.std.specs.Prelude.{ℕ, List, [], ◌∷◌, ◌++◌, length}
use Rattle.laws.specs.Choose.{pick}
use Rattle.peer.specs.declared.types.Receive.{Receive}
use Rattle.trace.specs.Numbers.{number_bytes}

-- numbers one after the other
unfoldable pub numbers_bytes : List ℕ → List ℕ
numbers_bytes [] = []
numbers_bytes (n ∷ ns) = number_bytes n ++ numbers_bytes ns

-- "kind 0 plain or 1 tagged"
abbrev pub kind_of : Receive → ℕ
kind_of r = pick r.tagged 1 0

abbrev pub set_up_bytes : ℕ → ℕ → ℕ → List ℕ
set_up_bytes n area limit = numbers_bytes (n ∷ area ∷ limit ∷ [])

abbrev pub post_entry : ℕ → Receive → List ℕ
post_entry peer r = numbers_bytes (1 ∷ peer ∷ kind_of r ∷ r.tag ∷ r.ignore ∷ r.start ∷ r.capacity ∷ [])

abbrev pub packet_entry : ℕ → List ℕ → List ℕ
packet_entry peer bytes = numbers_bytes (2 ∷ peer ∷ length bytes ∷ []) ++ bytes

abbrev pub cancel_entry : ℕ → ℕ → List ℕ
cancel_entry peer slot = numbers_bytes (3 ∷ peer ∷ slot ∷ [])
