-- Grants: what was granted of a long message adds up to its length when it is done, and there are few of them.
use Rattle.std.proofs.Common.{◌≡◌, ℕ, ◌+◌, ◌-◌, ◌*◌, ◌<◌, ◌≤◌, min, max, true, false, List, ◌∷◌, length, sym, ap, ◌∙◌, subst, ⊎_elim, mul-le-mul_right, suc-mul, one-mul, le-div_iff_mul-le, zero-mul, arith}
use mathlib.Core.Bool.{false≢true}
use native.Mathlib.Decide.{dec_lt}
use Rattle.peer.specs.Calls.{Call}
use Rattle.peer.specs.Claims.{GrantClaim, GrantsBounded, history, round_up, total}
use Rattle.peer.specs.Coverage.{all_of, covers, inside}
use Rattle.peer.specs.Effects.{extended, grant_of, opened}
use Rattle.peer.specs.Expected.{expected, target_of_call}
use Rattle.peer.specs.Formed.{Formed}
use Rattle.peer.specs.Incomings.{is_long, is_rtm}
use Rattle.peer.specs.Plain.{Entry, Plain, Target, begun_entry, extended_role, granted_entry, grown, receiving, segment_of, slot_entry}
use Rattle.peer.specs.declared.types.Answer.{Answer}
use Rattle.peer.specs.declared.types.Inbound.{Inbound}
use Rattle.peer.specs.declared.types.Incoming.{Incoming}
use Rattle.peer.specs.declared.types.Receive.{Receive}
use Rattle.laws.proofs.Choosing.{or_cases}
use Rattle.peer.proofs.PeerSteps.AnswerLaws.{claim_from}
use Rattle.peer.proofs.Plain.CoverageLaws.{all_at, inside_end}
use Rattle.peer.proofs.History.Facts.{Aims, AnswerFacts, Every, Lasting, Taken, answer_facts, begins, bytes_of, every_entry, goes_on, head_of, in_grant_lem, same_message_lem, taken_role}
use Rattle.peer.proofs.Sentences.PacketsRead.{read_formed}

-- of an open message: all that may come is its RTM's data and the grants; what came lies below; each grant but one that reaches the length is
-- for at least L - 32 bytes
record Paid (limit : ℕ) (e : Entry) (o : Inbound) : Type 0 where
  sums : o.message.granted ≡ e.rtm + total e.grants
  in_length : o.message.granted ≤ o.message.length
  below : is_long o.message.shape ≡ true → (k : ℕ) → covers e.segments k ≡ true → k < o.message.granted
  reach : o.message.granted < o.message.length → length e.grants * (limit - 32) + e.rtm ≤ o.message.granted

abbrev Pays : ℕ → Entry → Type 0
Pays limit e = (o : Inbound) → e.role ≡ receiving o → Paid limit e o

-- ---- a segment more

paid_on : (limit : ℕ) (e : Entry) (o : Inbound) (h : Incoming) (bytes : List ℕ) → h.size ≡ length bytes
    → (is_long o.message.shape ≡ true → h.offset + h.size ≤ o.message.granted) → Paid limit e o → Paid limit (grown e (segment_of h bytes)) o
unfolding covers
paid_on limit e o h bytes size g p =
    record {
      sums = p.sums;
      in_length = p.in_length;
      below = λ long k x. ⊎_elim
          (λ y. omega (arith, (inside_end (segment_of h bytes) k y).1, g long))
          (λ y. p.below long k y)
          (or_cases (inside (segment_of h bytes) k) (covers e.segments k) x);
      reach = p.reach;
    }

paid_first : (limit : ℕ) (h : Incoming) (bytes : List ℕ) (r : Receive) (serial : ℕ) → Formed h (length bytes) → is_rtm h.shape ≡ true
    → Paid limit (begun_entry r serial h (segment_of h bytes)) (opened r h)
unfolding covers
paid_first limit h bytes r serial f rtm =
    record {
      sums = omega arith;
      in_length = omega (arith, f.inside rtm);
      below = λ long k x. ⊎_elim
          (λ y. omega (arith, (inside_end (segment_of h bytes) k y).1, f.size, f.start long))
          (λ y. absurd (false≢true y))
          (or_cases (inside (segment_of h bytes) k) false x);
      reach = λ y. omega (arith, zero-mul (limit - 32));
    }

pays_taken : (limit : ℕ) (l : Plain) (h : Incoming) (bytes : List ℕ) (t : Target) (o : Inbound) → Formed h (length bytes) → Every (Pays limit) l
    → Aims l h bytes t o → Paid limit t.entry o
pays_taken limit l h bytes _ _ form f (goes_on i o g) = paid_on limit (slot_entry l.entries i) o h bytes form.size (in_grant_lem g.belongs) (f i o g.role)
pays_taken limit l h bytes _ _ form f (begins i r serial m) = paid_first limit h bytes r serial form m.rtm

-- ---- a grant more

paid_more : (limit n : ℕ) (e : Entry) (o : Inbound) → o.message.granted < o.message.length → n ≡ grant_of limit o.message → Paid limit e o
    → Paid limit (granted_entry n e) (extended n o)
unfolding grant_of
paid_more limit n e o short amount p =
    record {
      sums = omega (arith, p.sums);
      in_length = omega arith;
      below = λ long k x. omega (arith, p.below long k x);
      reach = λ y. omega (arith, suc-mul (length e.grants) (limit - 32), p.reach short, least);
    }
  where
    credits : ℕ
    credits = min (max o.message.credit_request 1) 16

    least : limit - 32 ≤ credits * (limit - 32)
    least = omega (arith, mul-le-mul_right {m = 1} {n = credits} (limit - 32) (omega arith), one-mul (limit - 32))

pays_role : (limit : ℕ) (e : Entry) (o : Inbound) → e.role ≡ receiving o → Paid limit e o → Pays limit e
pays_role limit e o x p q y = let same : o ≡ q = cc in subst (Paid limit e) same p

paid_taken : (limit : ℕ) (l : Plain) (c : Call) (t : Target) → Every (Pays limit) l → (w : Taken limit l c t) → Paid limit t.entry w.message
paid_taken limit l c t f w =
    let b = w.brings in
    pays_taken limit l (head_of b) (bytes_of b) t w.message (read_formed limit b.text b.read b.reads) f w.aims

pays_last : (limit : ℕ) → Lasting limit (Pays limit)
pays_last limit =
    record {
      unused = λ o e. absurd (let z : ◌≡◌ {A = ℕ} 0 1 = cc in omega arith);
      waits = λ r serial o e. absurd (let z : ◌≡◌ {A = ℕ} 0 1 = cc in omega arith);
      takes_in = λ l c t f w. pays_role limit t.entry w.message (taken_role w) (paid_taken limit l c t f w);
      grants = λ l c t n w p.
          let o = w.partly.taken.message in
          let role = taken_role w.partly.taken in
          pays_role limit (granted_entry n t.entry) (extended n o) (ap (extended_role n) role) (paid_more limit n t.entry o w.short w.amount (p o role));
    }

-- ---- the claim

all_granted : (limit : ℕ) (e : Entry) (o : Inbound) → Paid limit e o → all_of (covers e.segments) 0 o.message.length ≡ true
    → is_long o.message.shape ≡ true → e.rtm + total e.grants ≡ o.message.length
all_granted limit e o p x long = go (dec_lt o.message.granted o.message.length)
  where
    go : Dec (o.message.granted < o.message.length) → e.rtm + total e.grants ≡ o.message.length
    go (yes y) = absurd (omega (arith, p.below long (0 + o.message.granted) (all_at (covers e.segments) 0 o.message.length o.message.granted x y)))
    go (no y) = omega (arith, y, p.sums, p.in_length)

few_grants : (limit n : ℕ) (e : Entry) (o : Inbound) → 64 ≤ limit → Paid limit e o → o.message.granted < o.message.length
    → length (n ∷ e.grants) ≤ round_up (o.message.length - e.rtm) (limit - 32)
few_grants limit n e o big p short =
    (le-div_iff_mul-le {k = limit - 32} (omega arith)).1 (omega (arith, suc-mul (length e.grants) (limit - 32), p.reach short))

grant_claim : (limit : ℕ) (l : Plain) (c : Call) (t : Target) (a : Answer) → 64 ≤ limit → Every (Pays limit) l → AnswerFacts limit l c t a → GrantClaim limit t a
grant_claim limit l c t a big f w =
    claim_from a (λ e u. tt) (λ e x. tt)
    (λ n e x.
    let taken = x.partly.taken in
    record {
      few = λ o role.
          let same : taken.message ≡ o = same_message_lem (taken_role taken) role in
          subst (λ (x : Inbound). length (n ∷ t.entry.grants) ≤ round_up (x.message.length - t.entry.rtm) (limit - 32)) same
          (few_grants limit n t.entry taken.message big (paid_taken limit l c t f taken) x.short);
    })
    (λ slot id n cq e x.
    record {
      adds = λ o role long.
          let same : o ≡ x.taken.message = same_message_lem role (taken_role x.taken) in
          all_granted limit t.entry x.taken.message (paid_taken limit l c t f x.taken) x.covered
          (ap (λ (y : Inbound). is_long y.message.shape) (sym same) ∙ long)
          ∙ sym x.length_is;
    })
    (λ slot id n e x. tt) w

pub grants_bounded : GrantsBounded
unfolding GrantsBounded
grants_bounded area limit calls c big =
    let l : Plain = history area limit calls in
    grant_claim limit l c (target_of_call limit l c) (expected area limit l c) big (every_entry area limit (Pays limit) (pays_last limit) calls)
    (answer_facts area limit l c)
