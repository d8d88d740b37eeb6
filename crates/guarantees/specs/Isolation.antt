-- Demand 3, whole: a single claim about two lists of calls. Proved in proofs/Isolated.antt.
use Rattle.std.specs.Prelude.{ℕ, ◌<◌, ◌≡◌, List, length, Ok}
use Rattle.engine.specs.SetUp.{set_up}
use Rattle.guarantees.specs.Runs.{SeesTheSame}
use Rattle.guarantees.specs.Receiving.{fresh_world, no_starts, receiving}

-- "Take any two lists of calls .. Each list starts from a fresh set-up, with the same numbers in both .. Pick any one peer. Let its calls be
-- the same in both lists, in the same order; let all other peers' calls, their number and their places, and the bytes first lying in the
-- arena, differ at will. Then each of that peer's calls gets the same answer in both runs, refusals, counts and reply packets included, and
-- each of its messages holds the same bytes when it is done"
unfoldable pub Isolation : Type 0
Isolation =
    (n area limit p : ℕ) (arena₁ arena₂ map₁ map₂ : List ℕ)
    → (set_up n area limit (length arena₁) map₁).started.answer ≡ Ok tt
    → (set_up n area limit (length arena₂) map₂).started.answer ≡ Ok tt
    → p < n
    → SeesTheSame receiving p no_starts (fresh_world n area limit arena₁ map₁) (fresh_world n area limit arena₂ map₂)
