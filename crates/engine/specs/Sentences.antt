-- What 01 says of the set-up and of what a call leaves alone, over numbers, bits and bytes. Proved in proofs/OthersHold.antt and proofs/SentencesHold.antt.
use Rattle.std.specs.Prelude.{ℕ, ◌+◌, ◌*◌, ◌<◌, length, get_or, List, ◌≡◌, Ok}
use Rattle.bitmap.specs.Map.{bit_at}
use Rattle.engine.specs.SetUp.{peer_at, peer_count, set_up}
use Rattle.engine.specs.Steps.{World, call_turn}
use Rattle.engine.specs.declared.types.Engine.{Engine}
use Rattle.peer.specs.Calls.{Call}
use Rattle.peer.specs.State.{phase_at, slot_count}
use Rattle.peer.specs.declared.types.Phase.{Phase}

-- an engine as the code holds it: eight peers, and each in use has eight slots
pub record Eights (e : Engine) : Type 0 where
  pub peers : length e.peers ≡ peer_count
  pub slots : (p : ℕ) → p < e.n → length (peer_at e p).slots ≡ slot_count

-- ---- set-up

-- the engine has the set-up's three numbers, and of its peers each "starts with next id 0 and eight free slots"
pub record FreshEngine (n area limit : ℕ) (e : Engine) : Type 0 where
  pub n_is : e.n ≡ n
  pub area_is : e.area ≡ area
  pub limit_is : e.limit ≡ limit
  pub eights : Eights e
  pub next : (p : ℕ) → p < n → (peer_at e p).next ≡ 0
  pub free : (p i : ℕ) → p < n → i < slot_count → phase_at (peer_at e p).slots i ≡ Phase.Free

-- "Set-up clears the map": it has as many words as before, and no bit of it is set
pub record ClearMap (before after : List ℕ) : Type 0 where
  pub size : length after ≡ length before
  pub clear : (i : ℕ) → bit_at after i ≡ 0

-- what a set-up that is not refused leaves
unfoldable pub SetUpStartsFresh : Type 0
SetUpStartsFresh =
    (n area limit arena : ℕ) (map : List ℕ) → (set_up n area limit arena map).started.answer ≡ Ok tt
    → FreshEngine n area limit (set_up n area limit arena map).started.engine × ClearMap map (set_up n area limit arena map).map

-- ---- what a call leaves alone

-- peer q has in w' what it has in w: "slots, area or bits", and its next id
pub record SameFor (q : ℕ) (w w' : World) : Type 0 where
  pub next : (peer_at w'.engine q).next ≡ (peer_at w.engine q).next
  pub slots : (peer_at w'.engine q).slots ≡ (peer_at w.engine q).slots
  pub bytes : (x : ℕ) → x < w.engine.area → get_or w'.arena (q * w.engine.area + x) 0 ≡ get_or w.arena (q * w.engine.area + x) 0
  pub bits : (x : ℕ) → x < w.engine.area → bit_at w'.map (q * w.engine.area + x) ≡ bit_at w.map (q * w.engine.area + x)

-- "No peer uses another's slots, area or bits": a call of p, in every world, leaves every other peer what it had
unfoldable pub OthersKept : Type 0
OthersKept =
    (w : World) → Eights w.engine → (p : ℕ) (c : Call) (q : ℕ) → q < w.engine.n → (q ≡ p → ⊥) → SameFor q w (call_turn w p c).world

-- every call leaves the set-up numbers, and arena and map as long as they were
pub record SameSetUp (w w' : World) : Type 0 where
  pub n : w'.engine.n ≡ w.engine.n
  pub area : w'.engine.area ≡ w.engine.area
  pub limit : w'.engine.limit ≡ w.engine.limit
  pub arena : length w'.arena ≡ length w.arena
  pub map : length w'.map ≡ length w.map

unfoldable pub SetUpKept : Type 0
SetUpKept = (w : World) → Eights w.engine → (p : ℕ) (c : Call) → SameSetUp w (call_turn w p c).world
