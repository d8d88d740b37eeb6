-- Demand 2, delivery: what a peer sees of a run is what the plain receiver makes of that peer's own calls. Proved in proofs/Seeing.antt, Delivering.antt and Ranges.antt.
use Rattle.std.specs.Prelude.{ℕ, ◌+◌, ◌*◌, ◌<◌, eqb, length, true, List, [], ◌∷◌, ◌≡◌, Ok}
use Rattle.engine.specs.SetUp.{set_up}
use Rattle.engine.specs.Steps.{World}
use Rattle.peer.specs.Calls.{Call, call_of, packet}
use Rattle.guarantees.specs.Runs.{alone, calls_of, observe}
use Rattle.guarantees.specs.Receiving.{LentRequest, Seen, fresh_world, no_starts, receiving, turn_of}
use Rattle.laws.specs.Choose.{pick}
use Rattle.laws.specs.Parts.{store_at}
use Rattle.protocol.specs.Reading.{read_of}
use Rattle.protocol.specs.declared.types.Packet.{Packet}
use Rattle.protocol.specs.Types.{served_row}
use Rattle.peer.specs.Claims.{AllBytes, BytesClaim, CountsUp, Distinct, DoneClaim, GrantClaim, InOrder, TruncateClaim, ids_of, is_done, is_match, receives_of, takes}
use Rattle.peer.specs.Expected.{enter, expected, expected_bytes, plain_step, target_of_call}
use Rattle.peer.specs.Says.{said}
use Rattle.peer.specs.Origins.{Origin, OriginClaim, OwnClaim, ReplyClaim, no_origins, note_origin, origin_of_call}
use Rattle.peer.specs.Plain.{Plain, fresh_plain}
use Rattle.peer.specs.declared.types.Answer.{Answer}

-- what 01 demands of one call after the history l
abbrev pub demanded : ℕ → ℕ → Plain → Call → Seen
demanded area limit l c =
    record {
      answer = (plain_step area limit l c).answer;
      says = said (plain_step area limit l c).answer;
      reply = (plain_step area limit l c).reply;
      bytes = (plain_step area limit l c).bytes;
    }

-- and of a list of them
abbrev pub plain_run : ℕ → ℕ → Plain → List Call → List Seen
plain_run area limit l cs = alone (demanded area limit) (λ (l : Plain) (c : Call). (plain_step area limit l c).after) l cs

-- in every run all that a peer sees (answers with every number, reply packets, and of done messages the bytes, read off the arena) is what
-- 01 demands after the history of that peer's calls alone
unfoldable pub SeenByHistory : Type 0
SeenByHistory =
    (n area limit p : ℕ) (arena map : List ℕ)
    → (set_up n area limit (length arena) map).started.answer ≡ Ok tt
    → p < n
    → (calls : List LentRequest)
    → observe receiving p (fresh_world n area limit arena map) no_starts calls ≡ plain_run area limit fresh_plain (calls_of receiving p calls)

-- ---- each call of a run, by the peer's history before it

-- what demand 2 says of one call c after the history l with the origins gs, of which s was seen
pub record Delivered (area limit : ℕ) (l : Plain) (gs : List Origin) (c : Call) (s : Seen) : Type 0 where
  -- the answer, refusals included, and each number that it says
  pub answer : s.answer ≡ expected area limit l c
  pub says : s.says ≡ said (expected area limit l c)
  -- done exactly at the packet with which accepted segments cover every byte
  pub done : DoneClaim (target_of_call limit l c) s.answer
  -- in message order, to the receive posted first of those that fit
  pub order : (bs : List ℕ) (room : ℕ) (q : Packet) → c ≡ packet bs room → read_of served_row limit bs ≡ Ok q → takes s.answer ≡ true
      → (target_of_call limit l c).matched ≡ true → InOrder l q (target_of_call limit l c)
  -- truncated exactly if the message is longer than the oldest fitting receive
  pub truncated : (bs : List ℕ) (room : ℕ) (q : Packet) → c ≡ packet bs room → read_of served_row limit bs ≡ Ok q
      → TruncateClaim l q (target_of_call limit l c) s.answer
  -- the message is that of the packet that matched it, in the receive that was posted; done answers that packet's CQ data
  pub origin : OriginClaim (origin_of_call limit l gs c s.answer) (target_of_call limit l c) s.answer
  -- the reply packet is a CTS for that message, or none
  pub reply : ReplyClaim (origin_of_call limit l gs c s.answer) s.answer s.reply
  -- a done message's bytes, as the arena has them, are at each offset those of the one accepted segment that covers it
  pub read : s.bytes ≡ expected_bytes (target_of_call limit l c).entry.segments s.answer
  pub bytes : BytesClaim (target_of_call limit l c) s.answer
  -- the grants of a long message
  pub grants : GrantClaim limit (target_of_call limit l c) s.answer

-- each call with what was seen of it, neither more nor fewer
unfoldable pub AllDelivered : ℕ → ℕ → Plain → List Origin → List Call → List Seen → Type 0
AllDelivered area limit l gs [] [] = Unit {0}
AllDelivered area limit l gs [] (s ∷ ss) = ⊥
AllDelivered area limit l gs (c ∷ cs) [] = ⊥
AllDelivered area limit l gs (c ∷ cs) (s ∷ ss) =
    Delivered area limit l gs c s × AllDelivered area limit (enter limit l c s.answer) (note_origin (target_of_call limit l c) gs c s.answer) cs ss

abbrev pub answers_in : List Seen → List Answer
answers_in [] = []
answers_in (s ∷ ss) = s.answer ∷ answers_in ss

-- what demand 2 says of all calls of a peer, of which ss was seen
pub record DeliveredAll (area limit : ℕ) (calls : List Call) (ss : List Seen) : Type 0 where
  pub each : AllDelivered area limit fresh_plain no_origins calls ss
  -- "and once": each match takes a receive of its own, and of each a done is answered at most once
  pub matched_once : Distinct (receives_of is_match limit fresh_plain calls (answers_in ss))
  pub done_once : Distinct (receives_of is_done limit fresh_plain calls (answers_in ss))
  -- "in message order": the k-th message that is matched, truncated ones counted, has the id k mod 2^32
  pub counted : AllBytes calls → CountsUp (ids_of limit fresh_plain calls (answers_in ss))

-- every call of every peer in every run
unfoldable pub Delivery : Type 0
Delivery =
    (n area limit p : ℕ) (arena map : List ℕ)
    → (set_up n area limit (length arena) map).started.answer ≡ Ok tt
    → p < n
    → (calls : List LentRequest)
    → DeliveredAll area limit (calls_of receiving p calls) (observe receiving p (fresh_world n area limit arena map) no_starts calls)

-- ---- what is written

-- a call c of peer p, answered a, after the history l with the origins gs writes its own packet's data into its own range of the receive that
-- was posted, and nothing else into the arena
pub record Writes (p : ℕ) (w w' : World) (l : Plain) (gs : List Origin) (c : Call) (a : Answer) : Type 0 where
  pub at : ℕ
  pub bytes : List ℕ
  pub claim : OwnClaim w.engine.area (origin_of_call w.engine.limit l gs c a) c a at bytes
  pub arena : w'.arena ≡ store_at w.arena (p * w.engine.area + at) bytes

-- at every call of peer p in a run from w
unfoldable pub AllWrite : ℕ → World → Plain → List Origin → List LentRequest → Type 0
AllWrite p w l gs [] = Unit {0}
AllWrite p w l gs (q ∷ qs) =
    (q.peer ≡ p → Writes p w (turn_of w q).world l gs (call_of q.call) (turn_of w q).answer)
    × AllWrite p (turn_of w q).world
    (pick (eqb q.peer p) (enter w.engine.limit l (call_of q.call) (turn_of w q).answer) l)
    (pick (eqb q.peer p) (note_origin (target_of_call w.engine.limit l (call_of q.call)) gs (call_of q.call) (turn_of w q).answer) gs) qs

-- "Each accepted segment puts its own data into its own range of its own buffer and changes no other arena byte", in every run
unfoldable pub OwnRange : Type 0
OwnRange =
    (n area limit p : ℕ) (arena map : List ℕ)
    → (set_up n area limit (length arena) map).started.answer ≡ Ok tt
    → p < n
    → (calls : List LentRequest)
    → AllWrite p (fresh_world n area limit arena map) fresh_plain no_origins calls
