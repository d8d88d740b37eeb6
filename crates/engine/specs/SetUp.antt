-- The set-up: its limits, the fresh engine, and which engines can be.
use Rattle.std.specs.Prelude.{ℕ, ◌*◌, ◌/◌, ◌%◌, List, Bool, ◌&&◌, length, get_or, take, replicate, leb, eqb, Ok, Err, Result}
use Rattle.std.specs.List.{list_all}
use Rattle.laws.specs.Choose.{pick}
use Rattle.protocol.specs.Refusals.{bad_set_up}
use Rattle.protocol.specs.Limits.{packet_limit}
use Rattle.protocol.specs.declared.refusals.Refusal.{Refusal}
use Rattle.peer.specs.declared.types.Peer.{Peer}
use Rattle.peer.specs.State.{area_limit, fresh_peer, peer_fits}
use Rattle.engine.specs.declared.types.Engine.{Engine}
use Rattle.engine.specs.declared.types.Started.{Started}

abbrev pub peer_count : ℕ
peer_count = 8

-- "peers n, 1 to 8; area A, a multiple of 64 from 64 to 8,192; packet limit L, 64 to 8,192"
unfoldable pub numbers_fit : ℕ → ℕ → ℕ → Bool
numbers_fit n area limit =
    leb 1 n && (leb n peer_count && (leb 64 area && (leb area area_limit && (eqb (area % 64) 0 && (leb 64 limit && leb limit packet_limit)))))

-- "an arena of exactly n×A bytes"; the map is "exactly n×A/64 words"
unfoldable pub lent_fits : ℕ → ℕ → ℕ → ℕ → Bool
lent_fits n area arena map = eqb arena (n * area) && eqb map (n * (area / 64))

abbrev pub engine_of : ℕ → ℕ → ℕ → Engine
engine_of n area limit = record { peers = replicate peer_count fresh_peer; n = n; area = area; limit = limit }

-- ---- the call

-- what it answers
abbrev pub Ready : Type 0
Ready = Result (Unit {0}) Refusal

-- what set-up leaves: its result, and the map
pub record Prepared : Type 0 where
  pub started : Started
  pub map : List ℕ

-- refused, the engine is one of no peers, which every call refuses 2
abbrev pub not_started : List ℕ → Prepared
not_started map = record { started = record { answer = Err bad_set_up; engine = engine_of 0 0 0 }; map = map }

-- "Set-up clears the map and leaves the arena"
unfoldable pub set_up : ℕ → ℕ → ℕ → ℕ → List ℕ → Prepared
set_up n area limit arena map =
    pick (numbers_fit n area limit && lent_fits n area arena (length map))
    (record { started = record { answer = Ok tt; engine = engine_of n area limit }; map = replicate (length map) 0 })
    (not_started map)

-- ---- refusal 2

abbrev pub all_peers_fit : ℕ → List Peer → Bool
all_peers_fit area ps = list_all (λ (p : Peer). peer_fits area p) ps

-- not "a state that can't be", over every peer below n
unfoldable pub engine_fits : Engine → Bool
engine_fits e = numbers_fit e.n e.area e.limit && all_peers_fit e.area (take e.n e.peers)

abbrev pub peer_at : Engine → ℕ → Peer
peer_at e p = get_or e.peers p fresh_peer
