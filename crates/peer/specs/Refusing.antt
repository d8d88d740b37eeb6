-- The refusals of each of a peer's calls, in their order (01: "Packet order: ..", "Post: ..", "Cancel and report: .."), from 5 on.
use Rattle.std.specs.Prelude.{ℕ, Bool, false, ◌||◌, List, [], ◌∷◌, ◌==◌}
use Rattle.peer.specs.Calls.{Call, post, packet, cancel, report}

abbrev pub refusals_of : Call → List ℕ
refusals_of (post r) = 11 ∷ 19 ∷ 18 ∷ []
refusals_of (packet bs room) = 5 ∷ 6 ∷ 7 ∷ 8 ∷ 9 ∷ 10 ∷ 11 ∷ 14 ∷ 16 ∷ 15 ∷ 12 ∷ 13 ∷ 17 ∷ []
refusals_of (cancel i) = 20 ∷ []
refusals_of (report i) = 20 ∷ []

-- k is one of the numbers
abbrev pub among : List ℕ → ℕ → Bool
among [] k = false
among (x ∷ xs) k = x == k || among xs k
