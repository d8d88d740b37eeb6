-- In every state that can be, a call is refused by the first of its checks that fails: the statement of specs/Checks.antt. A plain receiver
-- that says of refusals what the peer says has the peer's view, and the answers of the two are alike.
use Rattle.std.proofs.Common.{◌≡◌, ℕ, zero, suc, ◌+◌, ◌*◌, ◌%◌, ◌^◌, ◌<◌, ◌≤◌, Bool, true, false, ◌&&◌, eqb, List, [], ◌∷◌, length, sym, refl, ap, ◌∙◌, subst, ⊎_elim, arith, le-ltb, lt-ltb, le-leb}
use borrow.Author.Tests.{lt-leb}
use lib.ListN.{get_or-eq_default}
use mathlib.Core.Bool.{and-false}
use native.Mathlib.Decide.{ℕ_discrete}
use Rattle.bitmap.specs.Map.{bit, bit_at}
use Rattle.laws.specs.Choose.{pick}
use Rattle.peer.specs.Calls.{Call, peer_step}
use Rattle.peer.specs.CannotBe.{CanBeIfNoClauseIsBroken, one_id}
use Rattle.peer.specs.Checks.{CallsAreChecked, CallFails, checks_of, call_refused_as}
use Rattle.peer.specs.Claims.{AreBytes}
use Rattle.peer.specs.Coverage.{Segment, covers, inside}
use Rattle.peer.specs.Expected.{expected}
use Rattle.peer.specs.Plain.{Entry, Plain, slot_entry}
use Rattle.peer.specs.Says.{said}
use Rattle.peer.specs.State.{peer_fits, phase_at, slot_count}
use Rattle.peer.specs.View.{OneEach, View, marked_in, role_of, view_in, view_of}
use Rattle.peer.specs.declared.types.Answer.{Answer}
use Rattle.peer.specs.declared.types.Inbound.{Inbound}
use Rattle.peer.specs.declared.types.Peer.{Peer}
use Rattle.peer.specs.declared.types.Phase.{Phase}
use Rattle.bitmap.proofs.Word.{no_bit}
use Rattle.laws.proofs.Choosing.{branch}
use Rattle.laws.proofs.Comparing.{le_or_lt}
use Rattle.peer.proofs.Plain.Agreement.{Alike, Mirrors, meets, same, taken}
use Rattle.peer.proofs.PeerSteps.AnswerLaws.{takes_unrefused}
use Rattle.peer.proofs.Refusals.AnswersChecked.{answer_checked}
use Rattle.peer.proofs.Slots.CannotBeLaws.{can_be_if_no_clause_is_broken}
use Rattle.peer.proofs.Refusals.FirstLaws.{gone_refused, gone_unrefused}
use Rattle.peer.proofs.Refusals.PostChecked.{GoneFor}
use Rattle.peer.proofs.Plain.Roles.{role_lengths}
use Rattle.peer.proofs.Slots.Valid.{fits_valid}
use Rattle.peer.proofs.Slots.Slots.{entries_ordered, entries_roles, entries_of, entry_role, entry_of, open_phase, slot_entry_lem}

-- ---- segments that cover what a map has

-- one of a byte for each of the n offsets that have f
segments_of : (ℕ → Bool) → ℕ → List Segment
segments_of f zero = []
segments_of f (suc n) = pick (f n) (record { offset = n; bytes = 0 ∷ [] } ∷ segments_of f n) (segments_of f n)

module _ (f : ℕ → Bool) where
  one_inside : (n x : ℕ) → (x ≡ n → ⊥) → inside (record { offset = n; bytes = 0 ∷ [] }) x ≡ false
  unfolding inside
  one_inside n x d = ⊎_elim
      (λ h. ap (λ (t : Bool). lib.Dec.leb n x && t) (le-ltb x (n + 1) (omega (arith, d))) ∙ and-false (lib.Dec.leb n x))
      (λ h. ap (λ (t : Bool). t && lib.Dec.ltb x (n + 1)) (lt-leb n x h)) (le_or_lt n x)

  out_of : (n x : ℕ) → n ≤ x → covers (segments_of f n) x ≡ false
  unfolding segments_of covers
  out_of zero x h = refl
  out_of (suc n) x h =
      branch (λ (gs : List Segment). covers gs x ≡ false) (f n) _ _ (λ e. rw (one_inside n x (λ d. omega arith)) (out_of n x (omega arith))) (λ e. out_of n x (omega arith))

  in_them : (n x : ℕ) → x < n → covers (segments_of f n) x ≡ f x
  unfolding segments_of covers inside
  in_them zero x h = absurd (omega arith)
  in_them (suc n) x h = go (ℕ_discrete x n) (λ d. in_them n x (omega (arith, d)))
    where
      P : List Segment → Type 0
      P gs = covers gs x ≡ f x

      go : Dec (x ≡ n) → ((x ≡ n → ⊥) → P (segments_of f n)) → P (pick (f n) (record { offset = n; bytes = 0 ∷ [] } ∷ segments_of f n) (segments_of f n))
      go (yes d) rest =
          branch P (f n) _ _ (λ e. rw (le-leb n x (omega arith), lt-ltb x (n + 1) (omega arith)) (sym (ap f d ∙ e)))
          (λ e. out_of n x (omega arith) ∙ sym (ap f d ∙ e))
      go (no d) rest = branch P (f n) _ _ (λ e. rw (one_inside n x d) (rest d)) (λ e. rest d)

-- a word that is not there has no bit
bit_beyond : (ws : List ℕ) (x : ℕ) → 64 * length ws ≤ x → bit_at ws x ≡ 0
unfolding bit_at
bit_beyond ws x h = ap (λ (w : ℕ). bit w (x % 64)) (get_or-eq_default ws 0 (omega arith)) ∙ no_bit (x % 64)

-- ---- the plain receiver of a peer

module _ (area limit : ℕ) (p : Peer) (ws : List ℕ) where
  pub one_each : peer_fits area p ≡ true → OneEach (view_of p ws)
  unfolding CanBeIfNoClauseIsBroken
  one_each fit id j k o m x y = go (ℕ_discrete j k)
    where
      go : Dec (j ≡ k) → j ≡ k
      go (yes e) = e
      go (no n) =
          absurd ((can_be_if_no_clause_is_broken area p).0 fit one_id (j, k, n, o, m, open_phase (phase_at p.slots j) o x.0, open_phase (phase_at p.slots k) m y.0, x.1 ∙ sym y.1))

  -- the bit of offset x of the message
  marked : Inbound → ℕ → Bool
  marked o x = eqb (bit_at ws (o.receive.start + x)) 1

  segments : Inbound → List Segment
  segments o = segments_of (marked o) (64 * length ws)

  covered : (o : Inbound) (x : ℕ) → covers (segments o) x ≡ marked o x
  unfolding segments
  covered o x = ⊎_elim
      (λ h. out_of (marked o) (64 * length ws) x h ∙ sym (beyond h))
      (λ h. in_them (marked o) (64 * length ws) x h) (le_or_lt (64 * length ws) x)
    where
      beyond : 64 * length ws ≤ x → marked o x ≡ false
      beyond h = unfold marked in ap (λ (b : ℕ). eqb b 1) (bit_beyond ws (o.receive.start + x) (omega arith))

  mirror : Plain
  mirror = record { next = p.next; posts = 0; entries = entries_of segments p.slots }

  mirrored : Mirrors p ws mirror
  unfolding mirror marked
  mirrored =
      record {
        next = refl;
        same = entries_roles segments p.slots;
        ordered = entries_ordered segments p.slots;
        bits = λ i o e x h.
            sym (covered o x)
            ∙ ap (λ (d : Entry). covers d.segments x) (sym (slot_entry_lem segments p.slots i ∙ ap (entry_of segments) e));
      }

  same_view : view_in mirror ≡ view_of p ws
  unfolding mirror
  same_view = λ z. record { next = p.next; role = λ i. role i z; taken = λ i x. taken_in i x z }
    where
      role : (i : ℕ) → (slot_entry (entries_of segments p.slots) i).role ≡ role_of (phase_at p.slots i)
      role i = ap (λ (e : Entry). e.role) (slot_entry_lem segments p.slots i) ∙ entry_role segments (phase_at p.slots i)

      at : (f : Phase) (x : ℕ) → covers (entry_of segments f).segments x ≡ marked_in ws f x
      at Phase.Free x = unfold covers in refl
      at (Phase.Posted r a) x = unfold covers in refl
      at (Phase.Open o) x = unfold marked in covered o x

      taken_in : (i x : ℕ) → covers (slot_entry (entries_of segments p.slots) i).segments x ≡ marked_in ws (phase_at p.slots i) x
      taken_in i x = ap (λ (e : Entry). covers e.segments x) (slot_entry_lem segments p.slots i) ∙ at (phase_at p.slots i) x

  pub step_checked : (c : Call) → peer_fits area p ≡ true → length p.slots ≡ slot_count → p.next < 2 ^ 32 → AreBytes c
      → GoneFor area limit (view_of p ws) (checks_of c) (peer_step area limit p ws c).answer
  unfolding mirror
  step_checked c fit eight small b =
      go (meets area limit p ws mirror (fits_valid area p fit) mirrored c).0
      (subst (λ (v : View). GoneFor area limit v (checks_of c) (expected area limit mirror c)) same_view
      (answer_checked area limit mirror c (subst OneEach (sym same_view) (one_each fit))
      (sym (role_lengths p.slots mirror.entries (entries_roles segments p.slots)) ∙ eight) small b))
    where
      go : {a d : Answer} → Alike (area ≤ 64 * length ws) a d → GoneFor area limit (view_of p ws) (checks_of c) d
          → GoneFor area limit (view_of p ws) (checks_of c) a
      go (same a) g = g
      go (taken a d x y e) g = gone_unrefused (CallFails area limit (view_of p ws)) call_refused_as (checks_of c) (said d) (said a) (takes_unrefused d y) (takes_unrefused a x) g

-- ---- the statement

pub calls_are_checked : CallsAreChecked
unfolding CallsAreChecked
calls_are_checked area limit p ws c fit eight small b =
    gone_refused (CallFails area limit (view_of p ws)) call_refused_as (checks_of c) (said (peer_step area limit p ws c).answer) (step_checked area limit p ws c fit eight small b)
