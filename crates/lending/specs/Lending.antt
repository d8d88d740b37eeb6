-- One peer's call, in its own part of the whole: what it asks, and what it leaves.
use Rattle.std.specs.Prelude.{ℕ, ◌+◌, ◌*◌, ◌/◌, ◌%◌, ◌≤◌, List, ◌≡◌, true}
use Rattle.laws.specs.Parts.{store_at}
use Rattle.peer.specs.declared.types.Peer.{Peer}
use Rattle.peer.specs.declared.types.Step.{Step}
use Rattle.peer.specs.Effects.{Effect}
use Rattle.peer.specs.State.{area_limit, peer_fits}
use Rattle.protocol.specs.Limits.{packet_limit}

-- the step, and the lent arena, map and replies
pub record Lent : Type 0 where
  pub step : Step
  pub arena : List ℕ
  pub map : List ℕ
  pub reply : List ℕ

-- the call's reply buffer begins at `place` of the replies
abbrev pub leaves_at : ℕ → ℕ → ℕ → List ℕ → List ℕ → List ℕ → Effect → Lent
leaves_at place area p arena map replies f =
    record {
      step = record { peer = f.peer; answer = f.answer };
      arena = store_at arena (p * area + f.at) f.bytes;
      map = store_at map (p * (area / 64)) f.words;
      reply = store_at replies place f.reply;
    }

-- what its caller has checked: the peer can be, and its words of the map are there
pub record WordsOwned (area p map : ℕ) (q : Peer) : Type 0 where
  pub fits : peer_fits area q ≡ true
  pub whole : area % 64 ≡ 0
  pub short : area ≤ area_limit
  pub in_map : p * (area / 64) + area / 64 ≤ map

-- and so are its bytes of the arena
pub record Owned (area limit p arena map : ℕ) (q : Peer) : Type 0 where
  pub mapped : WordsOwned area p map q
  pub low : 64 ≤ limit
  pub high : limit ≤ packet_limit
  pub in_arena : p * area + area ≤ arena
