-- A grant's reply is a CTS for the matching packet's message, and an accepted segment's bytes are its packet's, in the receive that was posted:
-- the statements of specs/Origins.antt on replies and writes.
use Rattle.std.proofs.Common.{◌≡◌, ℕ, ◌+◌, ◌-◌, ◌^◌, ◌<◌, ◌≤◌, min, max, ◌⊎◌, List, [], ◌∷◌, length, get_or, sym, ap, ◌∙◌, subst, subst₂, inl, inr, mul-le-mul, arith}
use Rattle.protocol.specs.Cts.{cts_bytes}
use Rattle.protocol.specs.CtsSentences.{CtsReadBack, ReadsAsCts}
use Rattle.protocol.specs.Sentences.{NumbersAreLittleEndian}
use Rattle.peer.specs.Answers.{on_accepted}
use Rattle.peer.specs.Calls.{Call}
use Rattle.peer.specs.Claims.{SegmentIn, WriteClaim, history}
use Rattle.peer.specs.Coverage.{Segment}
use Rattle.peer.specs.Effects.{grant_of}
use Rattle.peer.specs.Expected.{expected, expected_reply, message_of, target_message}
use Rattle.laws.specs.Choose.{pick}
use Rattle.peer.specs.Sentences.{LongIs68And69}
use Rattle.peer.specs.Incomings.{is_long}
use Rattle.peer.specs.Origins.{AcceptedFromOrigin, Comes, GrantIsACts, Origin, OriginClaim, OwnClaim, OwnSegment, ReplyClaim, origin_of_call, origins_of}
use Rattle.peer.specs.PacketBytes.{id_in, length_as, length_in, offset_in, type_in}
use Rattle.peer.specs.Plain.{Plain, Target, segment_of}
use Rattle.peer.specs.declared.types.Answer.{Answer}
use Rattle.peer.specs.declared.types.Inbound.{Inbound}
use Rattle.peer.specs.declared.types.Incoming.{Incoming}
use Rattle.peer.specs.declared.types.Message.{Message}
use Rattle.peer.specs.declared.types.Receive.{Receive}
use Rattle.wire.specs.LittleEndian.{le_at}
use Rattle.protocol.proofs.CtsRead.{cts_read_back}
use Rattle.protocol.proofs.SentencesHold.{numbers_are_little_endian}
use Rattle.peer.proofs.PeerSteps.AnswerLaws.{claim_both, untaken_is}
use Rattle.peer.proofs.Sentences.BytesHold.{bytes_told, read_says_lem}
use Rattle.peer.proofs.History.Facts.{Aims, AnswerFacts, GrantFacts, Taken, answer_facts, begins, bytes_of, goes_on, head_of, same_message_lem, taken_role}
use Rattle.peer.proofs.History.OriginsHold.{accepted_from_origin}
use Rattle.peer.proofs.Sentences.SentencesHold.{long_is_68_and_69}

-- ---- a grant

-- a message of which bytes are left is granted some, and no more than are left
pub grant_some : (limit : ℕ) (m : Message) → 64 ≤ limit → m.granted < m.length → 1 ≤ grant_of limit m
unfolding grant_of
grant_some limit m low short =
    let some : 1 ≤ min (max m.credit_request 1) 16 = omega arith in
    let each : 1 ≤ limit - 32 = omega arith in
    omega (arith, mul-le-mul some each)

pub grant_left : (limit : ℕ) (m : Message) → grant_of limit m ≤ m.length
unfolding grant_of
grant_left limit m = omega arith

below : (n : ℕ) (bs : List ℕ) (at : ℕ) → ((i : ℕ) → get_or bs i 0 < 256) → le_at n bs at < 256 ^ n
unfolding NumbersAreLittleEndian
below n bs at b = (numbers_are_little_endian n bs at b).0

-- a LONGCTS RTM has its message's length in its bytes
long_length : (bs : List ℕ) → (type_in bs ≡ 68) ⊎ (type_in bs ≡ 69) → length_in bs ≡ le_at 8 bs 8
unfolding length_in pick
long_length bs (inl e) = ap (λ (k : ℕ). length_as k bs) e
long_length bs (inr e) = ap (λ (k : ℕ). length_as k bs) e

module _ (limit : ℕ) (low : 64 ≤ limit) (l : Plain) (c : Call) (t : Target) (g : Origin) where
  granted_cts : (n : ℕ) → GrantFacts limit l c t n → Comes g t → ReplyClaim g (Answer.Granted n) (expected_reply t (Answer.Granted n))
  granted_cts n w k b =
      unfold CtsReadBack in
      subst₂ (λ (send recv : ℕ). ReadsAsCts (cts_bytes send recv n) (le_at 4 g.rtm 16) (id_in g.rtm) n) (sym send) (sym recv)
      (cts_read_back (le_at 4 g.rtm 16) (id_in g.rtm) n (below 4 g.rtm 16 b) (below 4 g.rtm 4 b)
      (subst (λ (x : ℕ). 1 ≤ x) (sym amount) (grant_some limit m low short))
      (omega (arith, amount, grant_left limit m, size, below 8 g.rtm 8 b)))
    where
      m : Message
      m = k.message.message

      is : w.partly.taken.message ≡ k.message
      is = same_message_lem (taken_role w.partly.taken) k.role

      long : (get_or g.rtm 0 0 ≡ 68) ⊎ (get_or g.rtm 0 0 ≡ 69)
      long =
          unfold LongIs68And69 in
          subst (λ (n : ℕ). (n ≡ 68) ⊎ (n ≡ 69)) k.begun.kind
          ((long_is_68_and_69 m.shape m.tagged).0 (ap (λ (o : Inbound). is_long o.message.shape) (sym is) ∙ w.long))

      amount : n ≡ grant_of limit m
      amount = w.amount ∙ ap (λ (o : Inbound). grant_of limit o.message) is

      short : m.granted < m.length
      short = subst (λ (o : Inbound). o.message.granted < o.message.length) is w.short

      size : m.length ≡ le_at 8 g.rtm 8
      size = k.begun.size ∙ long_length g.rtm long

      message : target_message t ≡ m
      message = ap message_of k.role

      send : (target_message t).send_id ≡ le_at 4 g.rtm 16
      send = ap (λ (x : Message). x.send_id) message ∙ (k.begun.long long).0

      recv : (target_message t).id ≡ id_in g.rtm
      recv = ap (λ (x : Message). x.id) message ∙ k.begun.id

  reply_claim : (a : Answer) → AnswerFacts limit l c t a → OriginClaim g t a → ReplyClaim g a (expected_reply t a)
  reply_claim a w o =
      claim_both a (λ e x y. untaken_is [] [] _ (λ i id n cq. []) (λ i id n. []) a e) (λ e x y. ap (expected_reply t) e)
      (λ n e x y. subst (λ (b : Answer). ReplyClaim g (Answer.Granted n) (expected_reply t b)) (sym e) (granted_cts n x y))
      (λ slot id n cq e x y. ap (expected_reply t) e) (λ slot id n e x y. ap (expected_reply t) e) w o

pub grant_is_a_cts : GrantIsACts
unfolding GrantIsACts
grant_is_a_cts area limit calls c low =
    let l : Plain = history area limit calls in
    reply_claim limit low l c _ (origin_of_call limit l (origins_of area limit calls) c (expected area limit l c)) (expected area limit l c)
    (answer_facts area limit l c) (unfold AcceptedFromOrigin in accepted_from_origin area limit calls c)

-- ---- what is written

-- the segment that is accepted is the packet's
latest : {l : Plain} {h : Incoming} {bytes : List ℕ} {t : Target} {o : Inbound} {g : Segment} {gs : List Segment} → Aims l h bytes t o
    → t.entry.segments ≡ g ∷ gs → g ≡ segment_of h bytes
latest (goes_on i o k) e = cc
latest (begins i r serial m) e = cc

module _ (area limit : ℕ) (l : Plain) (c : Call) (t : Target) (g : Origin) (at : ℕ) (bytes : List ℕ) where
  own_segment : Taken limit l c t → Comes g t → SegmentIn area t at bytes → OwnSegment area g c at bytes
  own_segment w k s =
      record {
        text = w.brings.text;
        room = w.brings.room;
        call = w.brings.call;
        content = s.content ∙ ap (λ (x : Segment). x.bytes) is ∙ (bytes_told limit w.brings.text w.brings.read w.brings.reads).rest;
        place = s.place ∙ ap (λ (r : Receive). r.start + s.segment.offset) receive ∙ ap (λ (n : ℕ). g.posted.start + n) offset;
        in_buffer = subst (λ (n : ℕ). n + length bytes ≤ g.posted.capacity) offset
            (subst (λ (r : Receive). s.segment.offset + length bytes ≤ r.capacity) receive
            (omega (arith, s.in_message, s.in_buffer, ap length s.content)));
        in_area = subst (λ (r : Receive). r.start + r.capacity ≤ area) receive s.in_area;
      }
    where
      is : s.segment ≡ segment_of (head_of w.brings) (bytes_of w.brings)
      is = latest w.aims s.latest

      receive : s.message.receive ≡ g.posted
      receive = ap (λ (o : Inbound). o.receive) (same_message_lem s.role k.role) ∙ k.receive

      offset : s.segment.offset ≡ offset_in w.brings.text
      offset = ap (λ (x : Segment). x.offset) is ∙ (read_says_lem limit w.brings.text w.brings.read w.brings.reads).offset

  pub own_claim : (a : Answer) → AnswerFacts limit l c t a → OriginClaim g t a → WriteClaim area t a at bytes → OwnClaim area g c a at bytes
  own_claim a w o s =
      claim_both a (λ e f x. x) (λ e f x. f x) (λ n e f x. f x) (λ slot id n cq e f x. f x) (λ slot id n e f x. x) own s
    where
      own : on_accepted (Unit {0}) (SegmentIn area t at bytes → OwnSegment area g c at bytes) a
      own =
          claim_both a (λ e x y. tt) (λ e x y. own_segment x.taken y) (λ n e x y. own_segment x.partly.taken y)
          (λ slot id n cq e x y. own_segment x.taken y.comes) (λ slot id n e x y. tt) w o
