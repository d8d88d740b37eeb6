-- The reader into words says what the packet reader says (01: "Reader alone: the same from 6 to 11"; "A packet's values are ..").
-- Proved in proofs/WordsTold.antt.
use Rattle.std.specs.Prelude.{ℕ, ◌≤◌, ◌<◌, length, List, ◌≡◌}
use Rattle.protocol.specs.Checks.{refused}
use Rattle.protocol.specs.Reading.{read_of}
use Rattle.protocol.specs.Says.{read_says}
use Rattle.protocol.specs.Types.{every_row}
use Rattle.packet_words.specs.Says.{took_says}
use Rattle.packet_words.specs.Values.{read_into}
use Rattle.protocol.specs.Limits.{packet_limit}

-- the refusal's number, or the packet's values, wherever there are words enough; else 21
unfoldable pub ReadsIntoWords : Type 0
ReadsIntoWords =
    (bs values : List ℕ)
    → (19 ≤ length values → took_says bs (read_into bs values) ≡ read_says bs (read_of every_row packet_limit bs))
    × (length values < 19 → took_says bs (read_into bs values) ≡ refused 21)

-- "Each refusal returns its number alone and changes nothing lent"
unfoldable pub RefusedReadChangesNothing : Type 0
RefusedReadChangesNothing =
    (bs values : List ℕ) (n : ℕ) → took_says bs (read_into bs values) ≡ refused n → read_into bs values ≡ record { refusal = n; values = values }
