-- Each element of an array is a value of its type: a peer in an array has eight slots.
use Prim.Native.Nat.{ℕ, zero, suc, ◌<◌}
use base.Fml.{Fml}
use denote.Array.{each}
use denote.Shadow.{shadow}
use lib.ListN.{length, get_or}
use mathlib.Core.List.{List, [], ◌∷◌}
use mathlib.Core.Path.{◌≡◌}
use mir.Val.{Val}
use native.Mathlib.Omega.{arith}
use Rattle.laws.proofs.Listing.{length_mapped}
use Rattle.peer.specs.State.{slot_count}
use Rattle.peer.specs.declared.types.Peer.{Peer}
use Rattle.peer.specs.contracts.types.Peer as peer

each_at : {A : Type 0} (own : A → List Val → Fml) (l : List A) (us : List Val) → shadow (each A own l us) → (i : ℕ) (d : A) → i < length l
    → (u : Val) × shadow (own (get_or l i d) (u ∷ []))
each_at own [] us s i d h = absurd (omega arith)
each_at own (x ∷ l) [] s i d h = absurd s
each_at own (x ∷ l) (u ∷ us) s zero d h = (u, s.0)
each_at own (x ∷ l) (u ∷ us) s (suc i) d h = each_at own l us s.1 i d (omega arith)

pub slots_each : (l : List Peer) (us : List Val) → shadow (each (peer.the_row).Denot (peer.the_row).own_val l us)
    → (i : ℕ) (d : Peer) → i < length l → length (get_or l i d).slots ≡ slot_count
slots_each l us s i d h =
    let held = each_at (peer.the_row).own_val l us s i d h in
    search length_mapped
