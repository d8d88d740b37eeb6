-- A LONGCTS RTM without data that is taken is granted from offset 0 or truncated: the statement of specs/EmptyStart.antt, read off what each
-- answer leaves.
use Rattle.std.proofs.Common.{◌≡◌, ℕ, ◌+◌, ◌-◌, ◌*◌, ◌≤◌, min, max, ◌⊎◌, List, [], length, drop, ap, ◌∙◌, subst, ap₂, ⊎_elim, arith, drop_of_length-le}
use mathlib.Core.Logic.{⊎_map}
use Rattle.protocol.specs.Sentences.{head_in}
use Rattle.peer.specs.Calls.{packet, peer_step}
use Rattle.peer.specs.Checks.{Long}
use Rattle.peer.specs.Effects.{Effect}
use Rattle.peer.specs.EmptyStart.{EmptyLong, EmptyStartIsGranted, StartedEmpty, StartsEmpty}
use Rattle.peer.specs.Moves.{Beginning, GoingOn, Granting, InSegment, Moved, MovesAreAsSaid, Taking}
use Rattle.peer.specs.PacketBytes.{RtmIn, size_in}
use Rattle.peer.specs.declared.types.Answer.{Answer}
use Rattle.peer.specs.declared.types.Inbound.{Inbound}
use Rattle.peer.specs.declared.types.Peer.{Peer}
use Rattle.peer.specs.declared.types.Receive.{Receive}
use Rattle.peer.proofs.PeerSteps.MovesHold.{moves_are_as_said}

module _ (limit : ℕ) (p : Peer) (ws bs : List ℕ) (room : ℕ) (empty : EmptyLong bs) (f : Effect) where
  rtm : RtmIn bs
  rtm = ⊎_elim (λ e. (omega arith, omega arith)) (λ e. (omega arith, omega arith)) empty.0

  -- no packet that goes on with a message: those are medium or CTSDATA
  not_more : (i : ℕ) (o : Inbound) (n : ℕ) (now : List ℕ) → GoingOn p ws bs i o n now → ⊥
  not_more i o n now g = ⊎_elim (λ e. ⊎_elim (λ y. omega arith) (λ y. omega arith) empty.0) (λ e. ⊎_elim (λ y. omega arith) (λ y. omega arith) empty.0) (g.again rtm)

  text_is : (i : ℕ) (o : Inbound) (t : Taking p ws (packet bs room) i o f) → t.text ≡ bs
  text_is i o t = cc t.call

  begins : (i : ℕ) (o : Inbound) → Taking p ws (packet bs room) i o f → Beginning p ws bs i o f.peer.next f.words
  begins i o t = ⊎_elim (λ b. b) (λ g. absurd (not_more i o _ _ g)) how
    where
      how : Beginning p ws bs i o f.peer.next f.words ⊎ GoingOn p ws bs i o f.peer.next f.words
      how = subst (λ (x : List ℕ). Beginning p ws x i o f.peer.next f.words ⊎ GoingOn p ws x i o f.peer.next f.words) (text_is i o t) t.how

  -- and the message that it begins is a long one, of which nothing is granted before the first CTS
  long : (i : ℕ) (o : Inbound) (n : ℕ) (now : List ℕ) → Beginning p ws bs i o n now → Long o.message
  long i o n now b = ⊎_map (λ e. b.message.kind ∙ e) (λ e. b.message.kind ∙ e) empty.0

  nothing : (i : ℕ) (o : Inbound) (n : ℕ) (now : List ℕ) → Beginning p ws bs i o n now → o.message.granted ≡ 0
  nothing i o n now b = b.granted ∙ empty.1

  no_byte : (r : Receive) (x : ℕ) → InSegment bs r x → ⊥
  no_byte r x w = omega (arith, empty.1, w.0, w.1)

  no_data : drop (head_in bs) bs ≡ []
  no_data = let all : length bs ≤ head_in bs = unfold size_in in omega (arith, empty.1) in drop_of_length-le bs all

  started : (i : ℕ) (o : Inbound) (n : ℕ) → Granting limit p ws (packet bs room) i o n f → StartedEmpty limit p ws bs n f
  started i o n g =
      record {
        slot = i;
        message = m;
        matched = rw g.more.receive b.matched;
        now = g.now;
        length_is = g.more.size ∙ b.message.size;
        fitting = rw (g.more.receive, ← b.message.size) b.fitting;
        some = rw (← b.message.size) (b.some (long i o _ _ b));
        amount = g.amount
            ∙ ap₂ (λ (x y : ℕ). min x (min (max y 1) 16 * (limit - 32))) (omega (arith, b.message.size, nothing i o _ _ b)) (b.message.long empty.0).1;
        ends = omega (arith, g.more.granted, nothing i o _ _ b);
        content = g.taking.content ∙ ap (λ (x : List ℕ). drop (head_in x) x) (text_is i o g.taking) ∙ no_data;
        clear = λ x w. b.bits.clear x (rw g.more.receive at w) (no_byte o.receive x);
        others = λ x w. b.bits.others x (λ y. w (rw g.more.receive y));
      }
    where
      m : Inbound
      m = g.message

      b : Beginning p ws bs i o f.peer.next f.words
      b = begins i o g.taking

  starts : (a : Answer) → Moved limit p ws (packet bs room) f a → StartsEmpty limit p ws bs room f a
  starts (Answer.Refused k) m = tt
  starts (Answer.Posted i) m = tt
  starts (Answer.Cancelled i) m = tt
  starts Answer.Stored (i, o, m) =
      let b = begins i o m.taking in
      let (x, l, z) = m.waits (long i o _ _ b) in
      omega (arith, nothing i o _ _ b)
  starts (Answer.Granted n) (i, o, m) = started i o n m
  starts (Answer.Done i id n cq) (o, m) =
      let b = begins i o m.taking in
      let one = b.some (long i o _ _ b) in
      let set = m.whole 0 (omega (arith, m.length_is)) in
      let unset = b.bits.clear (o.receive.start + 0) (omega arith, omega (arith, b.fitting)) (no_byte o.receive (o.receive.start + 0)) in
      omega arith
  starts (Answer.Truncated i id n) m = m
  starts (Answer.Missing k first) m = tt

pub empty_start_is_granted : EmptyStartIsGranted
unfolding EmptyStartIsGranted MovesAreAsSaid
empty_start_is_granted area limit p ws bs room fit eight words empty =
    let f = peer_step area limit p ws (packet bs room) in
    starts limit p ws bs room empty f f.answer (moves_are_as_said area limit p ws (packet bs room) fit eight words)
