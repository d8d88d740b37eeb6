-- Laws of the room that a text takes, and of what is lent on to the engine.
use Prim.Native.Nat.{ℕ, ◌+◌, ◌-◌, ◌*◌, ◌/◌, ◌≤◌}
use borrow.Author.Tests.{leb-true, leb-false, le-leb, lt-leb}
use lib.Dec.{leb}
use mathlib.Core.Bool.{◌&&◌}
use mathlib.Core.Logic.{⊎_elim}
use mathlib.Core.Path.{◌≡◌, sym, ◌∙◌}
use native.Mathlib.Omega.{arith}
use Rattle.laws.proofs.Choosing.{and_right, branch, tested}
use Rattle.engine.specs.SetUp.{peer_count}
use Rattle.replay.specs.Replaying.{lent_of}
use Rattle.peer.specs.State.{area_limit}

-- the room is counted by lines, behind that of the first and the last
pub room_by_lines : (budget text : ℕ) → 64 ≤ text → leb budget ((text - 64) / 80) ≡ leb (64 + 80 * budget) text
room_by_lines budget text h =
    ⊎_elim
    (λ t. let l = leb-true budget ((text - 64) / 80) t in t ∙ sym (le-leb (64 + 80 * budget) text (omega arith)))
    (λ t. let l = leb-false budget ((text - 64) / 80) t in t ∙ sym (lt-leb (64 + 80 * budget) text (omega arith)))
    (tested (leb budget ((text - 64) / 80)))

-- what is lent on is there
pub lent_there : (n each there : ℕ) → lent_of n each there ≤ there
unfolding lent_of
lent_there n each there =
    branch (λ (k : ℕ). k ≤ there) (leb n peer_count && (leb each area_limit && leb (n * each) there)) _ _
    (λ t. leb-true (n * each) there (and_right (leb each area_limit) _ (and_right (leb n peer_count) _ t)))
    (λ t. omega arith)
