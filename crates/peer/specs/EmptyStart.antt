-- A long message that starts empty, in the words of 02, request 3, over bytes, bits and roles: what a LONGCTS RTM without data comes to. Proved in
-- proofs/PeerSteps/EmptyStarts.antt.
use Rattle.std.specs.Prelude.{◌≡◌, ℕ, ◌-◌, ◌*◌, ◌≤◌, min, max, true, ◌⊎◌, List, [], length}
use Rattle.bitmap.specs.Map.{bit_at}
use Rattle.peer.specs.Answers.{on_taken}
use Rattle.peer.specs.Calls.{packet, peer_step}
use Rattle.peer.specs.Effects.{Effect}
use Rattle.peer.specs.PacketBytes.{length_in, size_in, type_in}
use Rattle.peer.specs.Plain.{receiving}
use Rattle.peer.specs.Sentences.{HasByte}
use Rattle.peer.specs.SlotMoves.{Matching, Truncating, role_at}
use Rattle.peer.specs.State.{peer_fits, slot_count}
use Rattle.peer.specs.declared.types.Answer.{Answer}
use Rattle.peer.specs.declared.types.Inbound.{Inbound}
use Rattle.peer.specs.declared.types.Peer.{Peer}
use Rattle.wire.specs.LittleEndian.{le_at}

-- "a LONGCTS RTM .. carries no application data"
abbrev pub EmptyLong : List ℕ → Type 0
EmptyLong bs = ((type_in bs ≡ 68) ⊎ (type_in bs ≡ 69)) × (size_in bs ≡ 0)

-- the packet bs begins a message that fits its receive, and n bytes of it are granted
pub record StartedEmpty (limit : ℕ) (p : Peer) (ws bs : List ℕ) (n : ℕ) (f : Effect) : Type 0 where
  pub slot : ℕ
  pub message : Inbound
  pub matched : Matching p bs slot message.receive
  pub now : role_at f.peer slot ≡ receiving message
  pub length_is : message.message.length ≡ length_in bs
  pub fitting : length_in bs ≤ message.receive.capacity
  -- "Accept 0 bytes when msg_length is at least 1"
  pub some : 1 ≤ length_in bs
  -- "The first grant then starts at offset 0": it counts from the whole length, and the granted end is where it ends
  pub amount : n ≡ min (length_in bs) (min (max (le_at 4 bs 20) 1) 16 * (limit - 32))
  pub ends : message.message.granted ≡ n
  -- nothing is stored, and no byte of the receive counts as in; the other bits stay
  pub content : f.bytes ≡ []
  pub clear : (x : ℕ) → HasByte message.receive x → bit_at f.words x ≡ 0
  pub others : (x : ℕ) → (HasByte message.receive x → ⊥) → bit_at f.words x ≡ bit_at ws x

-- a packet's answer: if it is taken, granted, or truncated as any other; never stored, and never done
abbrev pub StartsEmpty : ℕ → Peer → List ℕ → List ℕ → ℕ → Effect → Answer → Type 0
StartsEmpty limit p ws bs room f a =
    on_taken (Unit {0}) ⊥ (λ n. StartedEmpty limit p ws bs n f) (λ i id n cq. ⊥) (λ i id n. Truncating p ws (packet bs room) i id n f) a

-- every such packet for every peer that can be, also one that no run reaches, on words that cover its area
unfoldable pub EmptyStartIsGranted : Type 0
EmptyStartIsGranted =
    (area limit : ℕ) (p : Peer) (ws bs : List ℕ) (room : ℕ) → peer_fits area p ≡ true → length p.slots ≡ slot_count → area ≤ 64 * length ws → EmptyLong bs
    → let f = peer_step area limit p ws (packet bs room) in
    StartsEmpty limit p ws bs room f f.answer
