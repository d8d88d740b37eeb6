-- The engine's checks in 01's own words: those of the set-up (1), and of a call 2, 3 and 4, in front of the peer's own. A call is refused by the
-- first that fails, and by none exactly if it is not refused. Proved in proofs/EngineChecked.antt and proofs/AreaBits.antt.
use Rattle.std.specs.Prelude.{ℕ, ◌+◌, ◌*◌, ◌/◌, ◌%◌, ◌^◌, ◌≤◌, ◌<◌, length, get_or, List, ◌∷◌, map, ◌⊎◌, ◌↔◌, ◌≢◌, ◌≡◌, Ok, Err}
use Rattle.bitmap.specs.Map.{bit_at}
use Rattle.protocol.specs.Checks.{Said, gives, refused}
use Rattle.peer.specs.Calls.{Call}
use Rattle.peer.specs.CannotBe.{Breaks, Clause}
use Rattle.peer.specs.Checks.{CallCheck, CallFails, call_refused_as, checks_of}
use Rattle.peer.specs.Claims.{AreBytes}
use Rattle.peer.specs.Firsts.{RefusedByFirst}
use Rattle.peer.specs.Says.{said}
use Rattle.peer.specs.View.{view_of}
use Rattle.engine.specs.Sentences.{Eights}
use Rattle.engine.specs.SetUp.{peer_at, set_up}
use Rattle.engine.specs.Steps.{World, call_turn, words_of}
use Rattle.engine.specs.declared.types.Engine.{Engine}
use Rattle.protocol.specs.Refusals.{number}
use Rattle.engine.specs.SetUp.{Ready}

-- ---- the numbers and the lengths

-- not "peers n, 1 to 8; area A, a multiple of 64 from 64 to 8,192; packet limit L, 64 to 8,192"
pub data Outside (n area limit : ℕ) : Type 0 where
  no_peer : n < 1 → Outside n area limit
  many_peers : 8 < n → Outside n area limit
  short_area : area < 64 → Outside n area limit
  long_area : 8192 < area → Outside n area limit
  uneven_area : area % 64 ≢ 0 → Outside n area limit
  low_limit : limit < 64 → Outside n area limit
  high_limit : 8192 < limit → Outside n area limit

-- not "an arena of exactly n×A bytes"; not "exactly n×A/64 words"
abbrev pub WrongLengths : ℕ → ℕ → ℕ → ℕ → Type 0
WrongLengths n area arena map = (arena ≢ n * area) ⊎ (map ≢ n * area / 64)

-- ---- set-up

-- what set-up answers: 01's number, or nothing but that it is ready
abbrev pub ready_says : Ready → Said (Unit {0})
ready_says (Ok tt) = gives tt
ready_says (Err k) = refused (number k)

-- 1: "set-up numbers or lent lengths are wrong"
abbrev pub SetUpFails : ℕ → ℕ → ℕ → ℕ → ℕ → Type 0
SetUpFails n area limit arena map = Outside n area limit ⊎ WrongLengths n area arena map

unfoldable pub SetUpIsChecked : Type 0
SetUpIsChecked =
    (n area limit arena : ℕ) (map : List ℕ)
    → ((ready_says (set_up n area limit arena map).started.answer ≡ refused 1) ↔ SetUpFails n area limit arena (length map))
    × ((ready_says (set_up n area limit arena map).started.answer ≡ gives tt) ↔ (SetUpFails n area limit arena (length map) → ⊥))

-- ---- a call

pub data TurnCheck : Type 0 where
  cannot_be wrong_lent unknown_peer : TurnCheck
  own : CallCheck → TurnCheck

-- "Packet order: 2, 3, 4, ..", "Post: 2, 3, 4, ..", "Cancel and report: 2, 3, 4, .."
abbrev pub checks_at : Call → List TurnCheck
checks_at c = cannot_be ∷ wrong_lent ∷ unknown_peer ∷ map own (checks_of c)

abbrev pub turn_refused_as : TurnCheck → ℕ
turn_refused_as cannot_be = 2
turn_refused_as wrong_lent = 3
turn_refused_as unknown_peer = 4
turn_refused_as (own c) = call_refused_as c

-- the check of a call of peer p fails
abbrev pub TurnFails : World → ℕ → TurnCheck → Type 0
-- 2: "a state that can't be: set-up numbers outside limits; within one peer below n" a clause of specs/CannotBe.antt of the crate peer
TurnFails w p cannot_be =
    Outside w.engine.n w.engine.area w.engine.limit
    ⊎ ((q : ℕ) × (q < w.engine.n) × (c : Clause) × Breaks w.engine.area (peer_at w.engine q) c)
-- 3: "arena or map has the wrong length"
TurnFails w p wrong_lent = WrongLengths w.engine.n w.engine.area (length w.arena) (length w.map)
-- 4: "peer not below n"
TurnFails w p unknown_peer = w.engine.n ≤ p
-- from 5 on, the peer's own, by its state and its words of the map
TurnFails w p (own c) =
    CallFails w.engine.area w.engine.limit (view_of (peer_at w.engine p) (words_of w p)) c

-- an engine as the code holds it, with ids of 4 bytes
pub record WithIds (e : Engine) : Type 0 where
  pub eights : Eights e
  pub ids : (p : ℕ) → p < e.n → (peer_at e p).next < 2 ^ 32

-- of every world, also one that no run reaches
unfoldable pub TurnsAreChecked : Type 0
TurnsAreChecked =
    (w : World) (p : ℕ) (c : Call) → WithIds w.engine → AreBytes c → RefusedByFirst (TurnFails w p) turn_refused_as (checks_at c) (said (call_turn w p c).answer)

-- the words by which the peer's own checks go: bit x of them is that of byte x of the peer's area ("Peer p owns bytes p×A to p×A+A−1"; "byte i is
-- bit i mod 64 of word i/64, lowest first")
unfoldable pub WordsAreTheAreasBits : Type 0
WordsAreTheAreasBits =
    (w : World) (p x : ℕ) → w.engine.area % 64 ≡ 0 → x < w.engine.area
    → bit_at (words_of w p) x ≡ get_or w.map ((p * w.engine.area + x) / 64) 0 / 2 ^ ((p * w.engine.area + x) % 64) % 2
