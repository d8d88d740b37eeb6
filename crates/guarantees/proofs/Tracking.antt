-- One peer of a run, tracked by its history: its own calls yield what is demanded, and other calls leave what it has.
use Prim.Native.Nat.{ℕ, ◌+◌, ◌*◌, ◌≤◌, ◌<◌}
use lib.ListN.{length, get_or, take}
use lib.Seq.{ext_get_or}
use mathlib.Core.List.{List, []}
use mathlib.Core.Path.{◌≡◌, refl, sym, ap, ◌∙◌, subst, subst₂}
use native.Mathlib.Decide.{dec_lt}
use native.Mathlib.Omega.{arith}
use Rattle.engine.specs.SetUp.{peer_at}
use Rattle.engine.specs.Steps.{Turn, World, call_turn, put_back, words_of}
use Rattle.guarantees.specs.Delivery.{Writes, demanded}
use Rattle.peer.specs.Calls.{LentCall, call_of, cancel, packet, peer_step, post, report}
use Rattle.peer.specs.LentCalls.{buffer_of}
use Rattle.guarantees.specs.Receiving.{LentRequest, Seen, asked, bytes_seen, reply_seen, seen_at, turn_of}
use Rattle.laws.specs.Parts.{part, store_at}
use Rattle.peer.specs.Answers.{on_done}
use Rattle.peer.specs.Claims.{WriteClaim}
use Rattle.peer.specs.Coverage.{Segment, byte_of, bytes_from, inside}
use Rattle.peer.specs.Effects.{Effect}
use Rattle.peer.specs.Expected.{enter, expected, expected_bytes, expected_reply, target_of_call}
use Rattle.peer.specs.Says.{said}
use Rattle.peer.specs.Origins.{Origin, OwnClaim, origin_of_call}
use Rattle.peer.specs.Plain.{Plain, Target}
use Rattle.peer.specs.Starts.{note_start}
use Rattle.peer.specs.declared.types.Answer.{Answer}
use Rattle.peer.specs.declared.types.Peer.{Peer}
use Rattle.engine.proofs.OthersHold.{others_same}
use Rattle.engine.proofs.WorldTurns.{byte_own, good_turn, peer_other, peer_own, turn_none, turn_own, words_other, words_own}
use Rattle.engine.proofs.Worlds.{Good, byte_in, kept, lent_lengths, part_inside, words_cover}
use Rattle.laws.proofs.Reading.{get_d_part}
use Rattle.laws.proofs.Storing.{length_part, part_store}
use Rattle.peer.proofs.Plain.Agreement.{Agrees, meets, mirrors}
use Rattle.peer.proofs.PeerSteps.AnswerLaws.{taken_same}
use Rattle.peer.proofs.Plain.CoverageLaws.{Wrote, byte_at, length_bytes}
use Rattle.peer.proofs.Plain.Entered.{agrees_kept}
use Rattle.peer.proofs.History.Facts.{answer_facts}
use Rattle.peer.proofs.PeerSteps.Kept.{Kept}
use Rattle.peer.proofs.History.OriginReplies.{own_claim}
use Rattle.peer.proofs.History.OriginsHold.{Trace, call_claim}
use Rattle.peer.proofs.Plain.Replies.{Holds, Replying, Starts, Yielded, met_yields, room_of, starts_stepped, step_replies}
use Rattle.peer.proofs.Plain.Steps.{Stepped, stepped}

-- the state, the map and the arena of peer p say what its history l says
pub record Tracks (p : ℕ) (w : World) (starts : List ℕ) (l : Plain) : Type 0 where
  pub good : Good w
  pub below : p < w.engine.n
  pub agrees : Agrees (peer_at w.engine p) (words_of w p) (byte_in w p) l
  pub from : Starts (peer_at w.engine p).slots starts

-- the peer is tracked in the world after a call, too, and the numbers stay
pub record Stays (p : ℕ) (w w' : World) (starts : List ℕ) (l : Plain) : Type 0 where
  pub tracks : Tracks p w' starts l
  pub area : w'.engine.area ≡ w.engine.area
  pub limit : w'.engine.limit ≡ w.engine.limit

-- ---- what is seen of a call

-- the reply packet stands at the buffer's start
buffer_reply : (buffer reply : List ℕ) → length reply ≡ 24 → 24 ≤ length buffer → take 24 (store_at buffer 0 reply) ≡ reply
buffer_reply buffer reply e h = ap (λ (n : ℕ). take n (store_at buffer 0 reply)) (sym e) ∙ (unfold part in part_store buffer 0 reply (omega arith))

-- the room that a call lends for its reply
pub room_of_lem : (a : LentCall) → room_of (call_of a) ≡ length (buffer_of a)
room_of_lem (post r) = refl
room_of_lem (packet bs buffer) = refl
room_of_lem (cancel i) = refl
room_of_lem (report i) = refl

-- of a grant the first 24 bytes of the buffer are the reply, of any other answer there is none
reply_seen_lem : (t : Target) (a : Answer) (buffer reply : List ℕ) → reply ≡ expected_reply t a → Replying (length buffer) reply a
    → reply_seen (store_at buffer 0 reply) a ≡ expected_reply t a
reply_seen_lem t a buffer reply e g =
    taken_same [] a
    (λ n x.
    let (size, room) = subst (Replying (length buffer) reply) x g in
    buffer_reply buffer reply size room ∙ e ∙ ap (expected_reply t) x)
    (λ i id n cq x. refl)

-- the bytes of a done message
part_bytes : (arena : List ℕ) (at n : ℕ) (gs : List Segment) → at + n ≤ length arena → ((o : ℕ) → o < n → get_or arena (at + o) 0 ≡ byte_of gs o)
    → part arena at n ≡ bytes_from gs 0 n
part_bytes arena at n gs h f =
    ext_get_or 0 (part arena at n) (bytes_from gs 0 n) (length_part arena at n h ∙ sym (length_bytes gs 0 n))
    (λ i q.
    let q' : i < n = omega (arith, length_part arena at n h) in
    get_d_part arena at n i 0 q' ∙ f i q' ∙ ap (byte_of gs) (omega arith) ∙ sym (byte_at gs 0 n i q'))

bytes_seen_lem : (arena : List ℕ) (base area : ℕ) (starts : List ℕ) (gs : List Segment) (a : Answer) → base + area ≤ length arena
    → on_done (Unit {0}) (λ i id n cq. Holds area (λ x. get_or arena (base + x) 0) starts gs i n) a
    → bytes_seen arena base starts a ≡ expected_bytes gs a
bytes_seen_lem arena base area starts gs a h d =
    taken_same [] a (λ n x. refl)
    (λ i id n cq x.
    let (inside, byte) = subst (on_done (Unit {0}) (λ i id n cq. Holds area (λ x. get_or arena (base + x) 0) starts gs i n)) x d in
    part_bytes arena (base + get_or starts i 0) n gs (omega arith) (λ o l. ap (λ (k : ℕ). get_or arena k 0) (omega arith) ∙ byte o l))

-- ---- the peer's own call

module _ (p : ℕ) (w : World) (starts : List ℕ) (l : Plain) (t : Tracks p w starts l) (a : LentCall) where
  abbrev f : Effect
  f = peer_step w.engine.area w.engine.limit (peer_at w.engine p) (words_of w p) (call_of a)

  abbrev own : LentRequest
  own = asked p a

  turn : turn_of w own ≡ put_back w p f
  unfolding turn_of
  turn = turn_own w t.good p t.below (call_of a)

  k : Kept w.engine.area (peer_at w.engine p) (words_of w p) f
  k = kept w t.good p t.below (call_of a)

  abbrev w' : World
  w' = (put_back w p f).world

  wrote : Wrote w.engine.area (byte_in w p) (byte_in w' p) f.at f.bytes
  wrote = byte_own w t.good p t.below f k

  step : Stepped w.engine.area w.engine.limit (peer_at w.engine p) (words_of w p) (byte_in w' p) l (call_of a)
  step =
      stepped w.engine.area w.engine.limit (peer_at w.engine p) (words_of w p) (byte_in w p) (byte_in w' p) l (t.good.each p t.below) (t.good.slots p t.below)
      (words_cover w t.good p t.below) t.agrees (call_of a) wrote

  yields : Yielded w.engine.area (byte_in w' p) starts (target_of_call w.engine.limit l (call_of a)) f
  yields =
      met_yields w.engine.area w.engine.limit (peer_at w.engine p) (words_of w p) (byte_in w p) (byte_in w' p) l starts (t.good.each p t.below)
      (words_cover w t.good p t.below) t.agrees t.from
      (meets w.engine.area w.engine.limit (peer_at w.engine p) (words_of w p) l (t.good.each p t.below) (mirrors t.agrees) (call_of a)).1
      wrote

  -- a grant leaves room for its CTS
  roomy : Replying (length (buffer_of a)) f.reply f.answer
  roomy =
      subst (λ (n : ℕ). Replying n f.reply f.answer) (room_of_lem a)
      (step_replies w.engine.area w.engine.limit (peer_at w.engine p) (words_of w p) (call_of a))

  tracked : Tracks p w' (note_start starts (call_of a) f.answer) (enter w.engine.limit l (call_of a) (expected w.engine.area w.engine.limit l (call_of a)))
  tracked =
      record {
        good = good_turn w t.good p t.below f k;
        below = unfold put_back in t.below;
        agrees = subst₂ (λ (q : Peer) (ws : List ℕ). Agrees q ws (byte_in w' p) (enter w.engine.limit l (call_of a) (expected w.engine.area w.engine.limit l (call_of a))))
            (sym (peer_own w t.good p t.below f k)) (sym (words_own w t.good p t.below f k)) step.agrees;
        from = subst (λ (q : Peer). Starts q.slots (note_start starts (call_of a) f.answer)) (sym (peer_own w t.good p t.below f k))
            (starts_stepped w.engine.area w.engine.limit (peer_at w.engine p) (words_of w p) starts (call_of a) (t.good.each p t.below)
            (t.good.slots p t.below) t.from);
      }

  seen : seen_at w starts own ≡ demanded w.engine.area w.engine.limit l (call_of a)
  seen =
      ap (λ (u : Turn). record { answer = u.answer; says = said u.answer; reply = reply_seen (store_at (buffer_of a) 0 u.reply) u.answer; bytes = bytes_seen u.world.arena (p * w.engine.area) starts u.answer }) turn
      ∙ (unfold put_back in (three refl reply bytes ∙ ap (λ (x : Answer). record { answer = x; says = said x; reply = expected_reply target x; bytes = expected_bytes gs x }) step.answer))
    where
      target : Target
      target = target_of_call w.engine.limit l (call_of a)

      gs : List Segment
      gs = target.entry.segments

      three : {x y : Answer} {r s b c : List ℕ} → x ≡ y → r ≡ s → b ≡ c → ◌≡◌ {A = Seen} (record { answer = x; says = said x; reply = r; bytes = b }) (record { answer = y; says = said y; reply = s; bytes = c })
      three d e h = λ i. record { answer = d i; says = said (d i); reply = e i; bytes = h i }

      reply : reply_seen (store_at (buffer_of a) 0 f.reply) f.answer ≡ expected_reply target f.answer
      reply = reply_seen_lem target f.answer (buffer_of a) f.reply yields.reply roomy

      bytes : bytes_seen w'.arena (p * w.engine.area) starts f.answer ≡ expected_bytes gs f.answer
      bytes =
          bytes_seen_lem w'.arena (p * w.engine.area) w.engine.area starts gs f.answer
          (omega (
            arith,
            (lent_lengths w.engine.n w.engine.area (length w'.arena) (length w'.map) (unfold put_back in tracked.good.lent)).0,
            part_inside w.engine.n p w.engine.area t.below,
          ))
          (unfold put_back in yields.done)

  stays : Stays p w (turn_of w own).world (note_start starts (call_of a) (turn_of w own).answer)
      (enter w.engine.limit l (call_of a) (expected w.engine.area w.engine.limit l (call_of a)))
  stays =
      subst (λ (u : Turn). Stays p w u.world (note_start starts (call_of a) u.answer)
      (enter w.engine.limit l (call_of a) (expected w.engine.area w.engine.limit l (call_of a)))) (sym turn)
      (unfold put_back in record { tracks = tracked; area = refl; limit = refl })

  -- what it writes, by the peer's origins
  writes : (gs : List Origin) → Trace l gs → Writes p w (turn_of w own).world l gs (call_of a) (turn_of w own).answer
  writes gs from =
      subst (λ (u : Turn). Writes p w u.world l gs (call_of a) u.answer) (sym turn)
      (record {
        at = f.at;
        bytes = f.bytes;
        claim = unfold put_back in subst (λ (x : Answer). OwnClaim w.engine.area (origin_of_call w.engine.limit l gs (call_of a) x) (call_of a) x f.at f.bytes) (sym step.answer) claim;
        arena = unfold put_back in refl;
      })
    where
      e : Answer
      e = expected w.engine.area w.engine.limit l (call_of a)

      t' : Target
      t' = target_of_call w.engine.limit l (call_of a)

      claim : OwnClaim w.engine.area (origin_of_call w.engine.limit l gs (call_of a) e) (call_of a) e f.at f.bytes
      claim =
          own_claim w.engine.area w.engine.limit l (call_of a) t' (origin_of_call w.engine.limit l gs (call_of a) e) f.at f.bytes e
          (answer_facts w.engine.area w.engine.limit l (call_of a)) (call_claim w.engine.limit l gs from w.engine.area (call_of a))
          (subst (λ (x : Answer). WriteClaim w.engine.area t' x f.at f.bytes) step.answer yields.writes)

module _ (p : ℕ) (w : World) (starts : List ℕ) (l : Plain) (t : Tracks p w starts l) (q : LentRequest) where
  is : q.peer ≡ p → asked p q.call ≡ q
  is e = ap (λ (n : ℕ). asked n q.call) (sym e)

  pub own_seen : q.peer ≡ p → seen_at w starts q ≡ demanded w.engine.area w.engine.limit l (call_of q.call)
  own_seen e = subst (λ (r : LentRequest). seen_at w starts r ≡ demanded w.engine.area w.engine.limit l (call_of q.call)) (is e) (seen p w starts l t q.call)

  pub own_stays : q.peer ≡ p → Stays p w (turn_of w q).world (note_start starts (call_of q.call) (turn_of w q).answer)
      (enter w.engine.limit l (call_of q.call) (expected w.engine.area w.engine.limit l (call_of q.call)))
  own_stays e =
      subst (λ (r : LentRequest). Stays p w (turn_of w r).world (note_start starts (call_of q.call) (turn_of w r).answer)
      (enter w.engine.limit l (call_of q.call) (expected w.engine.area w.engine.limit l (call_of q.call)))) (is e) (stays p w starts l t q.call)

  pub own_writes : q.peer ≡ p → (gs : List Origin) → Trace l gs → Writes p w (turn_of w q).world l gs (call_of q.call) (turn_of w q).answer
  own_writes e gs from =
      subst (λ (r : LentRequest). Writes p w (turn_of w r).world l gs (call_of q.call) (turn_of w r).answer) (is e) (writes p w starts l t q.call gs from)

  -- ---- another's call

  pub other_stays : (q.peer ≡ p → ⊥) → Stays p w (turn_of w q).world starts l
  unfolding turn_of
  other_stays d = elim (dec_lt q.peer w.engine.n) as (λ x. Fine (call_turn w q.peer (call_of q.call))) [
    | yes h ↦ subst Fine (sym (turn_own w t.good q.peer h (call_of q.call))) (made h)
    | no h ↦ subst Fine (sym (turn_none w t.good q.peer (omega (arith, h)) (call_of q.call))) (record { tracks = t; area = refl; limit = refl })
  ]
    where
      Fine : Turn → Type 0
      Fine u = Stays p w u.world starts l

      f : Effect
      f = peer_step w.engine.area w.engine.limit (peer_at w.engine q.peer) (words_of w q.peer) (call_of q.call)

      made : q.peer < w.engine.n → Fine (put_back w q.peer f)
      made h =
          unfold put_back in
          record {
            tracks = record {
              good = good_turn w t.good q.peer h f k;
              below = t.below;
              agrees = subst₂ (λ (x : Peer) (ws : List ℕ). Agrees x ws (byte_in (put_back w q.peer f).world p) l)
                  (sym (peer_other w t.good q.peer h f k p e)) (sym (words_other w t.good q.peer h f k p t.below e))
                  (agrees_kept w.engine.area (peer_at w.engine p) (words_of w p) (byte_in w p) (byte_in (put_back w q.peer f).world p) l (t.good.each p t.below)
                  (others_same w t.good q.peer h f k p e).bytes t.agrees);
              from = subst (λ (x : Peer). Starts x.slots starts) (sym (peer_other w t.good q.peer h f k p e)) t.from;
            };
            area = refl;
            limit = refl;
          }
        where
          e : p ≡ q.peer → ⊥
          e x = d (sym x)

          k : Kept w.engine.area (peer_at w.engine q.peer) (words_of w q.peer) f
          k = kept w t.good q.peer h (call_of q.call)
