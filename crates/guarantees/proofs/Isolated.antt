-- Demand 3: what a peer sees is made from its own calls alone, so two runs with the same calls of that peer show it the same.
use Rattle.guarantees.specs.Isolation.{Isolation}
use Rattle.guarantees.specs.Receiving.{no_starts}
use Rattle.peer.specs.Plain.{fresh_plain}
use Rattle.guarantees.proofs.ByHistory.{sees_the_same}
use Rattle.guarantees.proofs.Seeing.{followed, fresh_follows}

pub isolation : Isolation
unfolding Isolation
isolation n area limit p arena₁ arena₂ map₁ map₂ ready₁ ready₂ h =
    sees_the_same (followed p area limit) no_starts fresh_plain _ _
    (fresh_follows n area limit p arena₁ map₁ ready₁ h) (fresh_follows n area limit p arena₂ map₂ ready₂ h)
