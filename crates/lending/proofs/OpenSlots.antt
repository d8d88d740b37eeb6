-- A message that is open in a slot of a peer that can be lies where the map has bits.
use Prim.Native.Nat.{ℕ, ◌*◌}
use mathlib.Core.Path.{◌≡◌, sym, ap, ◌∙◌}
use native.Mathlib.Omega.{arith}
use Rattle.peer.specs.State.{phase_at, phase_fits}
use Rattle.peer.specs.declared.types.Inbound.{Inbound}
use Rattle.peer.specs.declared.types.Peer.{Peer}
use Rattle.peer.specs.declared.types.Phase.{Phase}
use Rattle.receiving.specs.Preconditions.{Mapped, Mapping}
use Rattle.peer.proofs.Slots.Valid.{fits_valid, open_within}

pub open_mapped : (words : ℕ) (p : Peer) (i : ℕ) (o : Inbound) → Mapped (64 * words) words p → phase_at p.slots i ≡ Phase.Open o → Mapping words o
open_mapped words p i o m e =
    let w = open_within (64 * words) o (ap (phase_fits (64 * words)) (sym e) ∙ (fits_valid (64 * words) p m.fits).each i) in
    record { in_map = omega (arith, w.in_area, w.in_range); small = m.small }
