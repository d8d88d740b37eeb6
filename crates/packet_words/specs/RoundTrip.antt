-- Reader and writer on words undo each other (01: "Reading a written packet gives the values written. Writing the values read gives the same
-- bytes, except that padding, and multiuse without its flag, become zero"). Proved in proofs/BackAndForth.antt.
use Rattle.std.specs.Prelude.{ℕ, ◌^◌, ◌≤◌, ◌<◌, length, get_or, take, drop, List, ◌≡◌}
use Rattle.laws.specs.Parts.{store_at}
use Rattle.protocol.specs.Checks.{gives}
use Rattle.protocol.specs.RoundTrip.{blanked}
use Rattle.packet_words.specs.Says.{put_says, took_says, words_say}
use Rattle.packet_words.specs.Values.{read_into}
use Rattle.packet_words.specs.Writing.{write_from}

-- "Reading a written packet gives the values written", for all words that the writer takes; "bytes past the packet stay"
unfoldable pub ReadsWordsWritten : Type 0
ReadsWordsWritten =
    (v raw body out values : List ℕ) (size n : ℕ)
    → ((i : ℕ) → get_or v i 0 < 2 ^ 64)
    → 19 ≤ length values
    → put_says (write_from v raw body out size) ≡ gives n
    → let left = (write_from v raw body out size).out in
    (took_says (take n left) (read_into (take n left) values) ≡ gives (words_say v raw body))
    × (drop n left ≡ drop n out)

-- "Writing the values read gives the same bytes, except that padding, and multiuse without its flag, become zero": for all words v that say the
-- values read, such as the words read themselves
unfoldable pub WritesWordsRead : Type 0
WritesWordsRead =
    (bs values v raw body out : List ℕ) (size : ℕ)
    → ((i : ℕ) → get_or bs i 0 < 256)
    → length bs ≤ length out
    → 19 ≤ length v
    → took_says bs (read_into bs values) ≡ gives (words_say v raw body)
    → write_from v raw body out size ≡ record { refusal = 0; out = store_at out 0 (blanked bs); size = length bs }
