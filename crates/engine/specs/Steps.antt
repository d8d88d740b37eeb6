-- One call of the engine: the checks 2, 3 and 4, then the peer's own step on its own part of arena and map.
use Rattle.std.specs.Prelude.{ℕ, ◌+◌, ◌*◌, ◌/◌, List, [], length, set, ltb}
use Rattle.laws.specs.Choose.{pick}
use Rattle.laws.specs.Parts.{part, store_at}
use Rattle.protocol.specs.declared.refusals.Refusal.{Refusal}
use Rattle.protocol.specs.Refusals.{bad_lent, bad_peer, bad_state}
use Rattle.peer.specs.declared.types.Peer.{Peer}
use Rattle.peer.specs.declared.types.Answer.{Answer}
use Rattle.peer.specs.Calls.{Call, peer_step}
use Rattle.peer.specs.Effects.{Effect}
use Rattle.engine.specs.declared.types.Engine.{Engine}
use Rattle.engine.specs.SetUp.{lent_fits, engine_fits, peer_at}

-- what a run hands from call to call
pub record World : Type 0 where
  pub engine : Engine
  pub arena : List ℕ
  pub map : List ℕ

-- what a call leaves: the world, its answer, and the reply packet, which stands at the reply buffer's start
pub record Turn : Type 0 where
  pub world : World
  pub answer : Answer
  pub reply : List ℕ

-- "Each refusal returns its number alone and changes nothing lent"
abbrev pub refused_turn : World → Refusal → Turn
refused_turn w k = record { world = w; answer = Answer.Refused k; reply = [] }

-- the map words of peer p
abbrev pub words_of : World → ℕ → List ℕ
words_of w p = part w.map (p * (w.engine.area / 64)) (w.engine.area / 64)

abbrev pub with_peer : Engine → ℕ → Peer → Engine
with_peer e p q = record { peers = set e.peers p q; n = e.n; area = e.area; limit = e.limit }

-- the effect of peer p's call, put into the whole: "Peer p owns bytes p×A to p×A+A−1"
unfoldable pub put_back : World → ℕ → Effect → Turn
put_back w p f =
    record {
      world = record {
        engine = with_peer w.engine p f.peer;
        arena = store_at w.arena (p * w.engine.area + f.at) f.bytes;
        map = store_at w.map (p * (w.engine.area / 64)) f.words;
      };
      answer = f.answer;
      reply = f.reply;
    }

unfoldable pub peer_turn : World → ℕ → Call → Turn
peer_turn w p c = put_back w p (peer_step w.engine.area w.engine.limit (peer_at w.engine p) (words_of w p) c)

-- refusals 2, 3 and 4 come first, in this order
unfoldable pub call_turn : World → ℕ → Call → Turn
call_turn w p c =
    pick (engine_fits w.engine)
    (pick (lent_fits w.engine.n w.engine.area (length w.arena) (length w.map))
    (pick (ltb p w.engine.n) (peer_turn w p c) (refused_turn w bad_peer))
    (refused_turn w bad_lent))
    (refused_turn w bad_state)
