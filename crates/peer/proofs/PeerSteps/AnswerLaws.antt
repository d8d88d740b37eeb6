-- The table of answers that take a packet: a claim follows from others if it does so at each of them, and all other answers are alike.
use Rattle.std.specs.Prelude.{Option}
use Rattle.std.proofs.Common.{◌≡◌, ℕ, true, false, List, refl, true≢false, arith}
use mathlib.Core.Bool.{false≢true}
use Rattle.peer.specs.Answers.{on_granted, on_taken}
use Rattle.peer.specs.Claims.{is_grant, takes}
use Rattle.peer.specs.Coverage.{Segment}
use Rattle.peer.specs.Effects.{grant_of, settled_as}
use Rattle.peer.specs.Expected.{expect_taken}
use Rattle.peer.specs.Says.{refused, said}
use Rattle.peer.specs.declared.types.Answer.{Answer}
use Rattle.peer.specs.declared.types.Inbound.{Inbound}
use Rattle.peer.specs.declared.types.Progress.{Progress}
use Rattle.laws.proofs.Choosing.{pick_either}

-- one claim from two others
pub claim_both : {U S A R W Q : Type 0} {G H K : ℕ → Type 0} {D E F : ℕ → ℕ → ℕ → Option ℕ → Type 0} {T X Y : ℕ → ℕ → ℕ → Type 0} (a : Answer)
    → (takes a ≡ false → U → A → W) → (a ≡ Answer.Stored → S → R → Q) → ((n : ℕ) → a ≡ Answer.Granted n → G n → H n → K n)
    → ((i id n : ℕ) (cq : Option ℕ) → a ≡ Answer.Done i id n cq → D i id n cq → E i id n cq → F i id n cq)
    → ((i id n : ℕ) → a ≡ Answer.Truncated i id n → T i id n → X i id n → Y i id n)
    → on_taken U S G D T a → on_taken A R H E X a → on_taken W Q K F Y a
claim_both (Answer.Refused k) u s g d t w x = u refl w x
claim_both (Answer.Posted slot) u s g d t w x = u refl w x
claim_both (Answer.Cancelled slot) u s g d t w x = u refl w x
claim_both Answer.Stored u s g d t w x = s refl w x
claim_both (Answer.Granted n) u s g d t w x = g n refl w x
claim_both (Answer.Done slot id n cq) u s g d t w x = d slot id n cq refl w x
claim_both (Answer.Truncated slot id n) u s g d t w x = t slot id n refl w x
claim_both (Answer.Missing received first) u s g d t w x = u refl w x

-- one from another
pub claim_from : {U S A R : Type 0} {G H : ℕ → Type 0} {D E : ℕ → ℕ → ℕ → Option ℕ → Type 0} {T X : ℕ → ℕ → ℕ → Type 0} (a : Answer)
    → (takes a ≡ false → U → A) → (a ≡ Answer.Stored → S → R) → ((n : ℕ) → a ≡ Answer.Granted n → G n → H n)
    → ((i id n : ℕ) (cq : Option ℕ) → a ≡ Answer.Done i id n cq → D i id n cq → E i id n cq)
    → ((i id n : ℕ) → a ≡ Answer.Truncated i id n → T i id n → X i id n)
    → on_taken U S G D T a → on_taken A R H E X a
claim_from a u s g d t w =
    claim_both a (λ e x y. u e x) (λ e x y. s e x) (λ n e x y. g n e x) (λ i id n cq e x y. d i id n cq e x) (λ i id n e x y. t i id n e x) w w

-- what is claimed of all that take the packet
pub claim_taken : {S : Type 0} (a : Answer) → on_taken (Unit {0}) S (λ n. S) (λ i id n cq. S) (λ i id n. S) a → takes a ≡ true → S
claim_taken (Answer.Refused k) w e = absurd (false≢true e)
claim_taken (Answer.Posted slot) w e = absurd (false≢true e)
claim_taken (Answer.Cancelled slot) w e = absurd (false≢true e)
claim_taken Answer.Stored w e = w
claim_taken (Answer.Granted n) w e = w
claim_taken (Answer.Done slot id n cq) w e = w
claim_taken (Answer.Truncated slot id n) w e = w
claim_taken (Answer.Missing received first) w e = absurd (false≢true e)

-- an answer that takes none
pub untaken_is : {A : Type 0} (u s : A) (g : ℕ → A) (d : ℕ → ℕ → ℕ → Option ℕ → A) (t : ℕ → ℕ → ℕ → A) (a : Answer) → takes a ≡ false
    → on_taken u s g d t a ≡ u
untaken_is u s g d t (Answer.Refused k) e = refl
untaken_is u s g d t (Answer.Posted slot) e = refl
untaken_is u s g d t (Answer.Cancelled slot) e = refl
untaken_is u s g d t Answer.Stored e = absurd (true≢false e)
untaken_is u s g d t (Answer.Granted n) e = absurd (true≢false e)
untaken_is u s g d t (Answer.Done slot id n cq) e = absurd (true≢false e)
untaken_is u s g d t (Answer.Truncated slot id n) e = absurd (true≢false e)
untaken_is u s g d t (Answer.Missing received first) e = refl

-- tables of a granted and a done that are alike there
pub taken_same : {A : Type 0} (u : A) {g h : ℕ → A} {d e : ℕ → ℕ → ℕ → Option ℕ → A} (a : Answer)
    → ((n : ℕ) → a ≡ Answer.Granted n → g n ≡ h n) → ((i id n : ℕ) (cq : Option ℕ) → a ≡ Answer.Done i id n cq → d i id n cq ≡ e i id n cq)
    → on_taken u u g d (λ i id n. u) a ≡ on_taken u u h e (λ i id n. u) a
taken_same u (Answer.Refused k) x y = refl
taken_same u (Answer.Posted slot) x y = refl
taken_same u (Answer.Cancelled slot) x y = refl
taken_same u Answer.Stored x y = refl
taken_same u (Answer.Granted n) x y = x n refl
taken_same u (Answer.Done slot id n cq) x y = y slot id n cq refl
taken_same u (Answer.Truncated slot id n) x y = refl
taken_same u (Answer.Missing received first) x y = refl

-- what is claimed of a grant, and of all others
pub granted_or_not : {U G : Type 0} (a : Answer) → on_granted U (λ n. G) a → (is_grant a ≡ false → U) × (is_grant a ≡ true → G)
granted_or_not (Answer.Refused k) w = (λ e. w, λ e. absurd (false≢true e))
granted_or_not (Answer.Posted slot) w = (λ e. w, λ e. absurd (false≢true e))
granted_or_not (Answer.Cancelled slot) w = (λ e. w, λ e. absurd (false≢true e))
granted_or_not Answer.Stored w = (λ e. w, λ e. absurd (false≢true e))
granted_or_not (Answer.Granted n) w = (λ e. absurd (true≢false e), λ e. w)
granted_or_not (Answer.Done slot id n cq) w = (λ e. w, λ e. absurd (false≢true e))
granted_or_not (Answer.Truncated slot id n) w = (λ e. w, λ e. absurd (false≢true e))
granted_or_not (Answer.Missing received first) w = (λ e. w, λ e. absurd (false≢true e))

-- ---- which answers take a packet

-- such an answer is no refusal
pub takes_unrefused : (a : Answer) → takes a ≡ true → (said a).word ≡ refused → ⊥
takes_unrefused (Answer.Refused k) e x = false≢true e
takes_unrefused (Answer.Posted slot) e x = false≢true e
takes_unrefused (Answer.Cancelled slot) e x = false≢true e
takes_unrefused Answer.Stored e x = let z : ◌≡◌ {A = ℕ} 0 1 = cc in omega arith
takes_unrefused (Answer.Granted n) e x = let z : ◌≡◌ {A = ℕ} 0 1 = cc in omega arith
takes_unrefused (Answer.Done slot id n cq) e x = let z : ◌≡◌ {A = ℕ} 0 1 = cc in omega arith
takes_unrefused (Answer.Truncated slot id n) e x = let z : ◌≡◌ {A = ℕ} 0 1 = cc in omega arith
takes_unrefused (Answer.Missing received first) e x = false≢true e

-- that of an accepted segment does
pub settled_takes : (limit i : ℕ) (o : Inbound) (g : Progress) → takes (settled_as limit i o g).answer ≡ true
unfolding settled_as
settled_takes limit i o Progress.Whole = refl
settled_takes limit i o Progress.Due = refl
settled_takes limit i o Progress.Partial = refl

pub expect_takes : (limit i : ℕ) (o : Inbound) (gs : List Segment) → takes (expect_taken limit i o gs) ≡ true
unfolding expect_taken
expect_takes limit i o gs =
    pick_either (λ (a : Answer). takes a ≡ true) _ refl (pick_either (λ (a : Answer). takes a ≡ true) _ {a = Answer.Granted (grant_of limit o.message)} {b = Answer.Stored} refl refl)
