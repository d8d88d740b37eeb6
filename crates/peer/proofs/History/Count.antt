-- The k-th message that is matched has the id k mod 2^32: next counts the matches.
use Rattle.std.proofs.Common.{◌≡◌, ℕ, zero, suc, ◌+◌, ◌%◌, ◌^◌, ◌<◌, Bool, true, false, List, [], ◌∷◌, length, get_or, sym, refl, ap, ◌∙◌, subst, arith}
use mathlib.Core.Bool.{false≢true}
use Rattle.laws.specs.Choose.{pick}
use Rattle.protocol.specs.Sentences.{NumbersAreLittleEndian}
use Rattle.peer.specs.Calls.{Call}
use Rattle.peer.specs.Claims.{AllBytes, AreBytes, MatchedByCount, answers_of, id_at, ids_of, is_match, numbers_of, takes}
use Rattle.peer.specs.Expected.{enter, expected, target_of_call}
use Rattle.peer.specs.Matching.{ahead}
use Rattle.peer.specs.Plain.{Plain, Target, fresh_plain}
use Rattle.peer.specs.declared.types.Answer.{Answer}
use Rattle.peer.specs.declared.types.Inbound.{Inbound}
use Rattle.peer.specs.declared.types.Incoming.{Incoming}
use Rattle.wire.specs.LittleEndian.{le_at}
use Rattle.laws.proofs.Choosing.{branch, pick_first}
use Rattle.protocol.proofs.SentencesHold.{numbers_are_little_endian}
use Rattle.peer.proofs.Sentences.BytesHold.{read_says_lem}
use Rattle.peer.proofs.History.Facts.{Aims, Entered, answer_facts, as_before, begins, entered, goes_on, taken_by, with_cancel, with_end, with_grant, with_post, with_segment}

-- ---- the next id

-- next moves on at a match, and at no other call
pub next_after_lem : {limit : ℕ} {l : Plain} {c : Call} {t : Target} {a : Answer} {l' : Plain} → Entered limit l c t a l'
    → l'.next ≡ pick (is_match t a) ((l.next + 1) % 4294967296) l.next
unfolding pick
next_after_lem (as_before t a e n) = rw e
next_after_lem (with_post t i r e) = refl
next_after_lem (with_cancel t i n) = refl
next_after_lem (with_segment t w) = refl
next_after_lem (with_grant t n w) = refl
next_after_lem (with_end t a w e) = rw e

-- ---- a match

small_id : (bs : List ℕ) → ((i : ℕ) → get_or bs i 0 < 256) → le_at 4 bs 4 < 2 ^ 32
unfolding NumbersAreLittleEndian
small_id bs b = (numbers_are_little_endian 4 bs 4 b).0

next_id : (id next : ℕ) → id < 2 ^ 32 → next < 2 ^ 32 → ahead id next ≡ 0 → id ≡ next
unfolding ahead
next_id id next h k e = omega arith

aimed_id : {l : Plain} {h : Incoming} {bytes : List ℕ} {t : Target} {o : Inbound} → Aims l h bytes t o → t.matched ≡ true → ahead h.id l.next ≡ 0
aimed_id (goes_on i o g) x = absurd (false≢true x)
aimed_id (begins i r serial m) x = m.next

-- the packet that is matched has the next id
module _ (area limit : ℕ) (l : Plain) (c : Call) where
  abbrev t : Target
  t = target_of_call limit l c

  abbrev a : Answer
  a = expected area limit l c

  match_id : AreBytes c → l.next < 2 ^ 32 → is_match t a ≡ true → id_at l t c ≡ l.next
  match_id b small x =
      let (took, matched) = pick_first (takes a) t.matched false true (λ y. false≢true y) x in
      let w = taken_by a (answer_facts area limit l c) took in
      let b' = subst AreBytes w.brings.call b in
      let id = (read_says_lem limit w.brings.text w.brings.read w.brings.reads).id in
      ap (id_at l t) w.brings.call
      ∙ next_id (le_at 4 w.brings.text 4) l.next (small_id w.brings.text b') small
      (ap (λ (n : ℕ). ahead n l.next) (sym id) ∙ aimed_id w.aims matched)

-- ---- all matches

counts : (area limit : ℕ) (l : Plain) (calls : List Call) (m : ℕ) → AllBytes calls → l.next ≡ m % 2 ^ 32
    → (k : ℕ) → k < length (ids_of limit l calls (answers_of area limit l calls)) → get_or (ids_of limit l calls (answers_of area limit l calls)) k 0 ≡ (m + k) % 2 ^ 32
unfolding numbers_of answers_of
counts area limit l [] m b e = λ k h. absurd (omega arith)
counts area limit l (c ∷ cs) m b e =
    branch (λ (ns : List ℕ). (k : ℕ) → k < length ns → get_or ns k 0 ≡ (m + k) % 2 ^ 32) (is_match t' a') (id_at l t' c ∷ rest) rest
    (λ x. first x (counts area limit l' cs (m + 1) b.1 (moved ∙ ap (λ (y : Bool). pick y ((l.next + 1) % 4294967296) l.next) x ∙ on)))
    (λ x. counts area limit l' cs m b.1 (moved ∙ ap (λ (y : Bool). pick y ((l.next + 1) % 4294967296) l.next) x ∙ off))
  where
    t' : Target
    t' = target_of_call limit l c

    a' : Answer
    a' = expected area limit l c

    l' : Plain
    l' = enter limit l c a'

    rest : List ℕ
    rest = ids_of limit l' cs (answers_of area limit l' cs)

    moved : l'.next ≡ pick (is_match t' a') ((l.next + 1) % 4294967296) l.next
    moved = next_after_lem (entered area limit l c)

    on : pick true ((l.next + 1) % 4294967296) l.next ≡ (m + 1) % 2 ^ 32
    on = unfold pick in omega (arith, e)

    off : pick false ((l.next + 1) % 4294967296) l.next ≡ m % 2 ^ 32
    off = unfold pick in e

    first : is_match t' a' ≡ true → ((k : ℕ) → k < length rest → get_or rest k 0 ≡ (m + 1 + k) % 2 ^ 32)
        → (k : ℕ) → k < length (id_at l t' c ∷ rest) → get_or (id_at l t' c ∷ rest) k 0 ≡ (m + k) % 2 ^ 32
    first x r zero h = match_id area limit l c b.0 (omega (arith, e)) x ∙ e ∙ ap (λ (n : ℕ). n % 2 ^ 32) (omega arith)
    first x r (suc k) h = r k (omega arith) ∙ ap (λ (n : ℕ). n % 2 ^ 32) (omega arith)

pub matched_by_count : MatchedByCount
unfolding MatchedByCount
matched_by_count area limit calls b k h = counts area limit fresh_plain calls 0 b refl k h ∙ ap (λ (n : ℕ). n % 2 ^ 32) (omega arith)
