-- One call's step, with its reply buffer put back into the replies.
use Prim.Native.Nat.{ℕ, ◌+◌, ◌-◌, ◌*◌, ◌/◌, ◌≤◌}
use borrow.Rule.Slice.PartMut.{put_mid}
use lib.ListN.{length, take, drop, length-append, length-drop}
use mathlib.Core.List.{List}
use mathlib.Core.Path.{◌≡◌, refl, sym, ap, ◌∙◌}
use native.Mathlib.Nat.{add-zero}
use native.Mathlib.Omega.{arith}
use Rattle.laws.specs.Parts.{part, store_at}
use Rattle.laws.proofs.Storing.{length_lent, lent_part, put_store, store_nothing, store_own}
use Rattle.peer.specs.Calls.{call_of, packet_effect}
use Rattle.peer.specs.Effects.{Effect, quiet}
use Rattle.peer.specs.LentCalls.{local_call_of}
use Rattle.peer.specs.declared.types.LocalCall.{LocalCall}
use Rattle.peer.specs.declared.types.Peer.{Peer}
use Rattle.peer.specs.declared.types.Step.{Step}
use Rattle.lending.specs.Lending.{Lent, leaves_at}

-- a call without a reply buffer is the same with a buffer's bytes and with its length
pub local_call : (c : LocalCall) → local_call_of c ≡ call_of (local_call_of c)
local_call (LocalCall.Post r) = refl
local_call (LocalCall.Cancel i) = refl
local_call (LocalCall.Report i) = refl

-- a store that keeps the list's length has room there
store_fits : (l s : List ℕ) → length (store_at l 0 s) ≡ length l → length s ≤ length l
unfolding store_at
store_fits l s e = let n = simp (length-append, length-drop) at e in omega arith

module _ (place area p : ℕ) (arena map replies : List ℕ) where
  -- a call that changes nothing but the peer
  pub quiet_leaves : (s : Step) (f : Effect) → p * (area / 64) + area / 64 ≤ length map
      → quiet s.peer (part map (p * (area / 64)) (area / 64)) s.answer ≡ f
      → ◌≡◌ {A = Lent} (record { step = s; arena = arena; map = map; reply = replies }) (leaves_at place area p arena map replies f)
  quiet_leaves s f h e =
      rw (← e, store_nothing arena (p * area + 0), store_own map (p * (area / 64)) (area / 64) h, store_nothing replies place)

  -- a packet, whose reply buffer was lent on
  pub packet_leaves_lem : (room limit : ℕ) (q : Peer) (ws bs : List ℕ) (l : Lent) → place + room ≤ length replies
      → length l.reply ≡ length (take (place + room - place) (drop place replies))
      → l ≡ leaves_at 0 area p arena map (take (place + room - place) (drop place replies)) (packet_effect limit q ws bs (length (take (place + room - place) (drop place replies))))
      → ◌≡◌ {A = Lent} (record { step = l.step; arena = l.arena; map = l.map; reply = put_mid place (place + room - place) replies l.reply })
      (leaves_at place area p arena map replies (packet_effect limit q ws bs (length (part replies place room))))
  packet_leaves_lem room limit q ws bs l h n e =
      let buffer = take (place + room - place) (drop place replies) in
      let f = packet_effect limit q ws bs (length buffer) in
      let fit : length f.reply ≤ length buffer = store_fits buffer f.reply (sym (ap (λ (x : Lent). length x.reply) e) ∙ n) in
      let size : length buffer ≡ room = length_lent replies place room h in
      let at : place + 0 ≡ place = add-zero place in
      ap (λ (x : Lent). record { step = x.step; arena = x.arena; map = x.map; reply = put_mid place (place + room - place) replies x.reply }) e
      ∙ rw (put_store replies place room 0 f.reply h (omega arith), at) (rw (lent_part replies place room))
