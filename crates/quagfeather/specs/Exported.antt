-- What the exported functions answer and leave, by numbers and lists, where no definition below says it.
use Rattle.std.specs.Prelude.{ℕ, ◌+◌, ◌*◌, ◌/◌, List, Bool, ◌&&◌, length, leb}
use Rattle.laws.specs.Choose.{pick}
use Rattle.bitmap.specs.Map.{marked, touched}
use Rattle.peer.specs.State.{area_limit}
use Rattle.engine.specs.SetUp.{peer_count}
use Rattle.replay.specs.Replaying.{ReplayLeaves}

-- the length of a replay's text, and what the replay leaves of all that is lent
pub record Texts : Type 0 where
  pub written : ℕ
  pub arena : List ℕ
  pub map : List ℕ
  pub reply : List ℕ
  pub text : List ℕ

abbrev pub texts : ReplayLeaves → Texts
texts l = record { written = l.replayed.written; arena = l.arena; map = l.map; reply = l.reply; text = l.text }

-- the n bits from `at` on lie in a map of so many words, which a set-up can have
unfoldable pub in_map : ℕ → ℕ → ℕ → Bool
in_map words at n = leb words (peer_count * (area_limit / 64)) && leb (at + n) (64 * words)

-- the overlap test by itself: outside the map 3, one of the bits set 16, else 0
unfoldable pub overlap_test_of : List ℕ → ℕ → ℕ → ℕ
overlap_test_of m at n = pick (in_map (length m) at n) (pick (touched m at n) 16 0) 3

-- 0 or the refusal's number, and the map
pub record Marked : Type 0 where
  pub refusal : ℕ
  pub map : List ℕ

-- marking by itself, whether a bit is set or not: outside the map 3
unfoldable pub mark_untested_of : List ℕ → ℕ → ℕ → Marked
mark_untested_of m at n = pick (in_map (length m) at n) (record { refusal = 0; map = marked m at n }) (record { refusal = 3; map = m })

-- both: outside the map 3, one of the bits set 16, else they are marked
unfoldable pub mark_of : List ℕ → ℕ → ℕ → Marked
mark_of m at n =
    pick (in_map (length m) at n)
    (pick (touched m at n) (record { refusal = 16; map = m }) (record { refusal = 0; map = marked m at n }))
    (record { refusal = 3; map = m })
