-- The bytes of a packet that is read from a trace stand within the trace.
use Prim.Native.Nat.{ℕ, ◌+◌, ◌≤◌}
use borrow.Author.Tests.{leb-true}
use lib.Dec.{leb}
use lib.ListN.{length}
use mathlib.Core.List.{List}
use mathlib.Core.Path.{◌≡◌}
use Rattle.std.specs.Prelude.{Option, None, Some}
use Rattle.laws.proofs.Choosing.{branch, pick_either}
use Rattle.peer.specs.LentCalls.{on_packet_at}
use Rattle.peer.specs.declared.types.Call.{Call}
use Rattle.peer.specs.declared.types.Receive.{Receive}
use Rattle.peer.specs.declared.types.Request.{Request}
use Rattle.trace.specs.Entries.{cancel_at, entry_at, on_number, on_pair, packet_at, pair_at, post_at, post_of, receive_at}
use Rattle.trace.specs.Numbers.{number_at}

-- a packet's bytes stand within a trace of n
abbrev pub PacketInside : ℕ → Call → Type 0
PacketInside n c = on_packet_at (Unit {0}) (λ sent reply. sent.at + sent.size ≤ n) c

abbrev Holds : ℕ → Option (Request × ℕ) → Type 0
Holds n None = Unit {0}
Holds n (Some (q, next)) = PacketInside n q.call

module _ (n : ℕ) where
  on_number_lem : (m : Option (ℕ × ℕ)) (f : ℕ → ℕ → Option (Request × ℕ)) → ((v next : ℕ) → Holds n (f v next)) → Holds n (on_number m None f)
  on_number_lem None f h = tt
  on_number_lem (Some (v, next)) f h = h v next

  on_pair_lem : (m : Option (ℕ × ℕ × ℕ)) (f : ℕ → ℕ → ℕ → Option (Request × ℕ)) → ((a b next : ℕ) → Holds n (f a b next)) → Holds n (on_pair m None f)
  on_pair_lem None f h = tt
  on_pair_lem (Some (a, b, next)) f h = h a b next

  post : (peer : ℕ) (a : Option (Receive × ℕ)) → Holds n (post_of peer a)
  post peer None = tt
  post peer (Some (r, next)) = tt

module _ (s : List ℕ) where
  holds : (at : ℕ) → Holds (length s) (entry_at s at)
  unfolding entry_at post_at packet_at cancel_at
  holds at =
      let P = Holds (length s) in
      on_number_lem (length s) (number_at s at) _ (λ first next.
      pick_either P _
      (on_pair_lem (length s) (pair_at s next) _ (λ peer kind m. pick_either P _ (post (length s) peer (receive_at s m kind)) tt))
      (pick_either P _
      (on_pair_lem (length s) (pair_at s next) _ (λ peer count m. branch P (leb (m + count) (length s)) _ _ (λ t. leb-true _ _ t) (λ t. tt)))
      (pick_either P _ (on_pair_lem (length s) (pair_at s next) _ (λ peer slot m. tt)) tt)))

  pub entry_inside : (at : ℕ) (q : Request) (next : ℕ) → entry_at s at ≡ Some (q, next) → PacketInside (length s) q.call
  entry_inside at q next h = rw h at (holds at)
