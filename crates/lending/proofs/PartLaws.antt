-- One peer's packet, put into the whole of what is lent.
use Prim.Native.Nat.{ℕ, ◌+◌, ◌-◌, ◌*◌, ◌/◌}
use borrow.Rule.Slice.PartMut.{put_mid}
use lib.ListN.{length, take, drop}
use mathlib.Core.Bool.{true}
use mathlib.Core.List.{List}
use mathlib.Core.Path.{◌≡◌, ap, ◌∙◌}
use Rattle.laws.specs.Parts.{part}
use Rattle.laws.proofs.Storing.{length_part, lent_part, put_part, put_store}
use Rattle.peer.specs.Calls.{packet, packet_effect, peer_step}
use Rattle.peer.specs.Effects.{Effect}
use Rattle.receiving.specs.Leaves.{PacketLeaves, packet_leaves}
use Rattle.peer.specs.State.{peer_fits, slot_count}
use Rattle.peer.specs.declared.types.Peer.{Peer}
use Rattle.peer.proofs.PeerSteps.Kept.{Kept, step_kept}
use Rattle.peer.proofs.Slots.Valid.{fits_valid}
use Rattle.lending.specs.Lending.{Lent, Owned, leaves_at}

packet_kept : (area limit : ℕ) (q : Peer) (ws bs : List ℕ) (room : ℕ) → peer_fits area q ≡ true → length q.slots ≡ slot_count
    → Kept area q ws (packet_effect limit q ws bs room)
packet_kept area limit q ws bs room e n = unfold peer_step in step_kept area limit q ws (packet bs room) (fits_valid area q e) n

module _ (area limit p : ℕ) (q : Peer) (arena map reply bs : List ℕ) (o : Owned area limit p (length arena) (length map) q) (eight : length q.slots ≡ slot_count) where
  abbrev base : ℕ
  base = p * area

  abbrev size : ℕ
  size = area / 64

  abbrev first : ℕ
  first = p * (area / 64)

  abbrev effect : Effect
  effect = packet_effect limit q (part map first size) bs (length reply)

  pub packet_put : (l : PacketLeaves)
      → l ≡ packet_leaves (take (base + area - base) (drop base arena)) reply (packet_effect limit q (take (first + size - first) (drop first map)) bs (length reply))
      → ◌≡◌ {A = Lent}
      (record { step = l.step; arena = put_mid base (base + area - base) arena l.area; map = put_mid first (first + size - first) map l.words; reply = l.reply })
      (leaves_at 0 area p arena map reply effect)
  packet_put l e =
      let k = packet_kept area limit q (part map first size) bs (length reply) o.mapped.fits eight in
      let n : length effect.words ≡ size = k.words ∙ length_part map first size o.mapped.in_map in
      let e' : l ≡ packet_leaves (take (base + area - base) (drop base arena)) reply effect =
      e ∙ ap (λ (ws : List ℕ). packet_leaves (take (base + area - base) (drop base arena)) reply (packet_effect limit q ws bs (length reply))) (lent_part map first size) in
      rw (e', put_store arena base area effect.at effect.bytes o.in_arena k.in_area, put_part map effect.words first size n)
