-- A message is answered done at the packet with which its accepted segments cover every byte, and at no other; a done message has at every
-- offset the byte of the one accepted segment that covers it.
use Rattle.std.proofs.Common.{◌≡◌, ℕ, zero, suc, ◌+◌, ◌-◌, ◌<◌, Bool, true, false, ◌||◌, List, [], ◌∷◌, length, get_or, sym, refl, ap, ◌∙◌, subst, ⊎_elim, arith}
use mathlib.Core.Bool.{false≢true, or-true}
use Rattle.bitmap.specs.Offsets.{some_of}
use Rattle.laws.specs.Choose.{pick}
use Rattle.peer.specs.Calls.{Call}
use Rattle.peer.specs.Claims.{ByteFrom, BytesBySegments, BytesClaim, DoneClaim, DoneWhenCovered, Unfinished, history, segment_at}
use Rattle.peer.specs.Coverage.{Segment, byte_of, covers, inside}
use Rattle.peer.specs.Expected.{expected, target_of_call}
use Rattle.peer.specs.Sentences.{SomeOfIsSomeOffset}
use Rattle.peer.specs.Plain.{Entry, Plain, Target, segment_of, slot_entry}
use Rattle.peer.specs.declared.types.Answer.{Answer}
use Rattle.peer.specs.declared.types.Inbound.{Inbound}
use Rattle.peer.specs.declared.types.Incoming.{Incoming}
use Rattle.laws.proofs.Choosing.{tested, clashing, pick_false, pick_true}
use Rattle.peer.proofs.PeerSteps.AnswerLaws.{claim_from}
use Rattle.peer.proofs.Plain.CoverageLaws.{all_at, byte_at, inside_end, length_bytes}
use Rattle.peer.proofs.History.Facts.{Aims, AnswerFacts, Every, Lasting, Partly, answer_facts, begins, bytes_of, every_entry, goes_on, head_of, taken_role}
use Rattle.peer.proofs.Sentences.OffsetsHold.{some_of_is_some_offset}
use Rattle.peer.proofs.Sentences.PacketsRead.{read_formed}

done_claim : (limit : ℕ) (l : Plain) (c : Call) (t : Target) (a : Answer) → AnswerFacts limit l c t a → DoneClaim t a
done_claim limit l c t a w =
    claim_from a (λ e u. tt) (λ e x. left x) (λ n e x. left x.partly)
    (λ slot id n cq e x. record {
      message = x.taken.message;
      covered = record { role = taken_role x.taken; covered = x.covered };
      slot_is = x.slot_is;
      id_is = x.id_is;
      length_is = x.length_is;
    })
    (λ slot id n e x. tt) w
  where
    left : Partly limit l c t → Unfinished t
    left p = record { message = p.taken.message; covered = record { role = taken_role p.taken; covered = p.covered } }

pub done_when_covered : DoneWhenCovered
unfolding DoneWhenCovered
done_when_covered area limit calls c =
    let l : Plain = history area limit calls in
    done_claim limit l c (target_of_call limit l c) (expected area limit l c) (answer_facts area limit l c)

-- ---- segments that share no offset

abbrev Apart : List Segment → Type 0
Apart [] = Unit {0}
Apart (g ∷ gs) = ((o : ℕ) → inside g o ≡ true → covers gs o ≡ false) × Apart gs

covers_by : (gs : List Segment) (o k : ℕ) → k < length gs → inside (segment_at gs k) o ≡ true → covers gs o ≡ true
unfolding covers
covers_by [] o k h e = absurd (omega arith)
covers_by (g ∷ gs) o zero h e = rw e
covers_by (g ∷ gs) o (suc k) h e = rw (covers_by gs o k (omega arith) e, or-true)

byte_from : (gs : List Segment) (o : ℕ) → Apart gs → covers gs o ≡ true → ByteFrom gs o (byte_of gs o)
unfolding covers byte_of
byte_from [] o a e = absurd (false≢true e)
byte_from (g ∷ gs) o a e = go (inside g o) refl (byte_from gs o a.1) e
  where
    go : (b : Bool) → inside g o ≡ b → (covers gs o ≡ true → ByteFrom gs o (byte_of gs o)) → (b || covers gs o) ≡ true
        → ByteFrom (g ∷ gs) o (pick (inside g o) (get_or g.bytes (o - g.offset) 0) (byte_of gs o))
    go true x rest y =
        record {
          index = 0;
          in_list = omega arith;
          covered = x;
          byte = pick_true _ _ x;
          only = only;
        }
      where
        only : (k : ℕ) → k < length (g ∷ gs) → inside (segment_at (g ∷ gs) k) o ≡ true → k ≡ 0
        only zero h z = refl
        only (suc k) h z = clashing (covers gs o) (covers_by gs o k (omega arith) z) (a.0 o x)
    go false x rest y =
        let w = rest y in
        record {
          index = suc w.index;
          in_list = omega (arith, w.in_list);
          covered = w.covered;
          byte = pick_false _ _ x ∙ w.byte;
          only = only w;
        }
      where
        only : (w : ByteFrom gs o (byte_of gs o)) (k : ℕ) → k < length (g ∷ gs) → inside (segment_at (g ∷ gs) k) o ≡ true → k ≡ suc w.index
        only w zero h z = clashing (inside g o) z x
        only w (suc k) h z = ap suc (w.only k (omega arith) z)

-- ---- accepted segments are apart

none_of : (f : ℕ → Bool) (at n k : ℕ) → some_of f at n ≡ false → k < n → f (at + k) ≡ false
unfolding SomeOfIsSomeOffset
none_of f at n k e h =
    ⊎_elim (λ x. clashing (some_of f at n) ((some_of_is_some_offset f at n).1 (at + k, omega arith, omega arith, x)) e) (λ x. x) (tested (f (at + k)))

segments_apart : (l : Plain) (h : Incoming) (bytes : List ℕ) (t : Target) (o : Inbound) → h.size ≡ length bytes
    → ((j : ℕ) → Apart (slot_entry l.entries j).segments) → Aims l h bytes t o → Apart t.entry.segments
unfolding covers
segments_apart l h bytes _ _ size f (goes_on i o g) = (
  λ k x.
      let w = inside_end (segment_of h bytes) k x in
      ap (covers (slot_entry l.entries i).segments) (omega arith)
      ∙ none_of (covers (slot_entry l.entries i).segments) h.offset h.size (k - h.offset) g.new (omega arith),
  f i,
)
segments_apart l h bytes _ _ size f (begins i r serial m) = (λ k x. refl, tt)

apart_lasts : (limit : ℕ) → Lasting limit (λ (e : Entry). Apart e.segments)
apart_lasts limit =
    record {
      unused = tt;
      waits = λ r serial. tt;
      takes_in = λ l c t f w.
          let b = w.brings in
          segments_apart l (head_of b) (bytes_of b) t w.message (read_formed limit b.text b.read b.reads).size f w.aims;
      grants = λ l c t n w a. a;
    }

-- ---- the claim

bytes_claim : (limit : ℕ) (l : Plain) (c : Call) (t : Target) (a : Answer) → Every (λ (e : Entry). Apart e.segments) l → AnswerFacts limit l c t a → BytesClaim t a
bytes_claim limit l c t a f w =
    claim_from a (λ e u. tt) (λ e x. tt) (λ n e x. tt)
    (λ slot id n cq e x. (
      length_bytes t.entry.segments 0 n,
      λ o h.
          let at : 0 + o ≡ o = omega arith in
          subst (ByteFrom t.entry.segments o) (sym (byte_at t.entry.segments 0 n o h ∙ ap (byte_of t.entry.segments) at))
          (byte_from t.entry.segments o ((apart_lasts limit).takes_in l c t f x.taken)
          (ap (covers t.entry.segments) (sym at) ∙ all_at (covers t.entry.segments) 0 _ o x.covered (omega (arith, x.length_is)))),
    ))
    (λ slot id n e x. tt) w

pub bytes_by_segments : BytesBySegments
unfolding BytesBySegments
bytes_by_segments area limit calls c =
    let l : Plain = history area limit calls in
    bytes_claim limit l c (target_of_call limit l c) (expected area limit l c)
    (every_entry area limit (λ (e : Entry). Apart e.segments) (apart_lasts limit) calls) (answer_facts area limit l c)
