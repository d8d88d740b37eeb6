-- After every history the answer that 01 demands is a refusal by the first check that fails: the statement of specs/Checks.antt on histories.
use Rattle.std.proofs.Common.{◌≡◌, ℕ, ◌+◌, ◌-◌, ◌*◌, ◌^◌, ◌<◌, ◌≤◌, Bool, false, ◌&&◌, ltb, leb, ◌⊎◌, List, [], ◌∷◌, length, get_or, replicate, sym, ap, ◌∙◌, subst, inl, inr, arith, lit<, le-ltb, lt-ltb, le-leb}
use borrow.Author.Tests.{lt-leb}
use lib.ListN.{length-replicate}
use mathlib.Core.Bool.{and-false}
use Rattle.laws.specs.Choose.{pick}
use Rattle.peer.specs.Calls.{Call, peer_step}
use Rattle.peer.specs.Checks.{AnswersAreChecked, HistoriesAreChecked}
use Rattle.peer.specs.Claims.{is_match, history, plain_after}
use Rattle.peer.specs.Expected.{enter, expected}
use Rattle.peer.specs.Plain.{Plain, Target, fresh_plain, slot_entry}
use Rattle.peer.specs.State.{free_slot, fresh_peer, phase_at, slot_count}
use Rattle.peer.specs.View.{OneEach, role_of, view_in}
use Rattle.peer.specs.declared.types.Answer.{Answer}
use Rattle.peer.specs.declared.types.Peer.{Peer}
use Rattle.laws.proofs.Choosing.{and_intro, pick_either, pick_false, pick_true}
use Rattle.peer.proofs.Plain.Agreement.{Agrees}
use Rattle.peer.proofs.Refusals.AcceptOrRefuse.{one_each}
use Rattle.peer.proofs.Plain.CoverageLaws.{Wrote}
use Rattle.peer.proofs.History.Count.{next_after_lem}
use Rattle.peer.proofs.History.Facts.{Entered, entered}
use Rattle.peer.proofs.PeerSteps.Kept.{step_kept}
use Rattle.peer.proofs.Plain.Roles.{role_at, role_lengths}
use Rattle.peer.proofs.Plain.Steps.{fresh_agrees, fresh_valid, stepped}
use Rattle.peer.proofs.Slots.Valid.{Valid, valid_fits}
use Rattle.peer.proofs.Refusals.AnswersChecked.{answers_are_checked}

-- a peer that agrees with the history
record Run (area : ℕ) (l : Plain) : Type 0 where
  peer : Peer
  words : List ℕ
  mem : ℕ → ℕ
  valid : Valid area peer.slots
  slots : length peer.slots ≡ slot_count
  big : area ≤ 64 * length words
  agrees : Agrees peer words mem l

-- memory with the bytes put in from `at` on
abbrev written : (ℕ → ℕ) → ℕ → List ℕ → ℕ → ℕ
written mem at bytes y = pick (leb at y && ltb y (at + length bytes)) (get_or bytes (y - at) 0) (mem y)

wrote : (area : ℕ) (mem : ℕ → ℕ) (at : ℕ) (bytes : List ℕ) → Wrote area mem (written mem at bytes) at bytes
wrote area mem at bytes =
    record {
      written = λ x h.
          pick_true _ _ (and_intro _ _ (le-leb at (at + x) (omega arith)) (lt-ltb (at + x) (at + length bytes) (omega arith)))
          ∙ ap (λ (n : ℕ). get_or bytes n 0) (omega arith);
      kept = λ y h d. pick_false _ _ (out y d);
    }
  where
    out : (y : ℕ) → (y < at) ⊎ (at + length bytes ≤ y) → (leb at y && ltb y (at + length bytes)) ≡ false
    out y (inl x) = ap (λ (t : Bool). t && ltb y (at + length bytes)) (lt-leb at y x)
    out y (inr x) = ap (λ (t : Bool). leb at y && t) (le-ltb y (at + length bytes) x) ∙ and-false (leb at y)

module _ (area limit : ℕ) where
  run_on : (l : Plain) (c : Call) → Run area l → Run area (enter limit l c (expected area limit l c))
  run_on l c r =
      let k = step_kept area limit r.peer r.words c r.valid r.slots in
      let f = peer_step area limit r.peer r.words c in
      record {
        peer = f.peer;
        words = f.words;
        mem = written r.mem f.at f.bytes;
        valid = k.valid;
        slots = k.slots ∙ r.slots;
        big = omega (arith, r.big, k.words);
        agrees = (stepped area limit r.peer r.words r.mem (written r.mem f.at f.bytes) l r.valid r.slots r.big r.agrees c
            (wrote area r.mem f.at f.bytes)).agrees;
      }

  -- next stays a number of 4 bytes
  next_on : {l : Plain} {c : Call} {t : Target} {a : Answer} {l' : Plain} → Entered limit l c t a l' → l.next < 2 ^ 32 → l'.next < 2 ^ 32
  next_on {l} {t = t} {a = a} w h =
      subst (λ (n : ℕ). n < 2 ^ 32) (sym (next_after_lem w)) (pick_either (λ (n : ℕ). n < 2 ^ 32) (is_match t a) (omega arith) h)

  runs : (l : Plain) (calls : List Call) → Run area l × (l.next < 2 ^ 32)
      → Run area (plain_after area limit l calls) × ((plain_after area limit l calls).next < 2 ^ 32)
  unfolding plain_after
  runs l [] w = w
  runs l (c ∷ cs) (r, h) = runs (enter limit l c (expected area limit l c)) cs (run_on l c r, next_on (entered area limit l c) h)

  fresh_run : Run area fresh_plain
  unfolding fresh_peer
  fresh_run =
      record {
        peer = fresh_peer;
        words = replicate area 0;
        mem = λ y. 0;
        valid = fresh_valid area;
        slots = length-replicate slot_count free_slot;
        big = omega (arith, length-replicate {A = ℕ} area 0);
        agrees = fresh_agrees (replicate area 0) (λ y. 0);
      }

-- the slots of a peer that can be have one id each, and so have the entries
run_one : (area limit : ℕ) (l : Plain) → Run area l → OneEach (view_in l)
run_one area limit l r id j k o m x y =
    one_each area limit r.peer r.words (valid_fits area r.peer r.valid) id j k o m (role j ∙ x.0, x.1) (role k ∙ y.0, y.1)
  where
    role : (i : ℕ) → role_of (phase_at r.peer.slots i) ≡ (slot_entry l.entries i).role
    role i = role_at r.peer.slots l.entries r.agrees.same i

pub histories_are_checked : HistoriesAreChecked
unfolding HistoriesAreChecked AnswersAreChecked
histories_are_checked area limit calls c b =
    let (r, h) = runs area limit fresh_plain calls (fresh_run area limit, lit< tt) in
    answers_are_checked area limit (history area limit calls) c (run_one area limit (history area limit calls) r)
    (sym (role_lengths r.peer.slots (history area limit calls).entries r.agrees.same) ∙ r.slots) h b
