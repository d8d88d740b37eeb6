-- The invariant of the loop over a batch's calls: that of every loop over requests, of a run whose calls are read where their answers are put.
use Prim.Native.Nat.{ℕ, suc, ◌+◌, ◌-◌, ◌*◌, ◌≤◌, ◌<◌}
use lib.ListN.{length}
use mathlib.Core.Bool.{Bool}
use mathlib.Core.List.{List, ◌∷◌}
use mathlib.Core.Path.{◌≡◌, refl}
use native.Mathlib.Nat.{sub-zero, zero-add}
use native.Mathlib.Omega.{arith}
use Rattle.std.specs.Prelude.{None, Some}
use Rattle.laws.specs.Parts.{store_at}
use Rattle.peer.specs.declared.types.Answer.{Answer}
use Rattle.peer.specs.declared.types.Request.{Request}
use Rattle.peer.specs.LentCalls.{LiesWithin}
use Rattle.engine.specs.Steps.{World}
use Rattle.guarantees.specs.Outputs.{RunLeaves}
use Rattle.guarantees.proofs.RunInvariant.{CallMade, RunInvariant, ended, run_end}
use Rattle.packed.specs.Answers.{answer_words}
use Rattle.packed.specs.Calls.{request_at, words_each}
use Rattle.packed.specs.Running.{budget_of, ran_from, requests_from}
use Rattle.packed.proofs.DecodeLaws.{calls_few, request_inside, requests_end, requests_next}
use Rattle.packed.proofs.EightWords.{length_answer}

-- the run of at most `most` calls whose reply buffers are as long as in `buffers`, with these to come
abbrev Running : List ℕ → List ℕ → ℕ → RunLeaves → List Request → World → List ℕ → List ℕ → ℕ → ℕ → Type 0
Running bytes buffers = RunInvariant bytes buffers answer_words words_each

pub record BatchInvariant (calls bytes buffers : List ℕ) (most : ℕ) (all : RunLeaves) (w : World) (replies answers : List ℕ) (at taken : ℕ) : Type 0 where
  pub place : at ≡ words_each * taken
  pub words : words_each * most ≤ length calls
  pub run : Running bytes buffers most all (requests_from (most - taken) calls bytes buffers at) w replies answers at taken

-- no call is made yet
pub batch_start : (w : World) (calls bytes replies answers : List ℕ) (most : ℕ) → most ≡ budget_of (length calls) (length answers)
    → BatchInvariant calls bytes replies most (ran_from w calls bytes replies answers) w replies answers 0 0
unfolding ran_from
batch_start w calls bytes replies answers most e =
    record {
      place = omega arith;
      words = omega arith;
      run = record {
        short = λ a. omega (arith, length_answer a);
        few = calls_few (most - 0) calls bytes replies 0;
        lent = refl;
        room = rw sub-zero (omega arith);
        whole = rw (e, sub-zero, zero-add, zero-add);
      };
    }

module _ {calls bytes buffers : List ℕ} {most : ℕ} {all : RunLeaves} {w : World} {replies answers : List ℕ} {at taken : ℕ}
    (g : BatchInvariant calls bytes buffers most all w replies answers at taken) where
  -- what is left of a run that ends here
  abbrev here : RunLeaves
  here = ended bytes buffers answer_words taken w replies answers (words_each * taken)

  pub batch_end : most ≤ taken → all ≡ here
  unfolding requests_from
  batch_end h =
      let e : most - taken ≡ 0 = omega arith in
      rw g.place at (run_end (rw e at g.run))

  module _ (h : taken < most) where
    more : most - taken ≡ suc (most - (taken + 1))
    more = omega arith

    pub batch_bad : request_at calls (length bytes) (length replies) at ≡ None → all ≡ here
    batch_bad f = rw g.place at (run_end (rw (more, requests_end (most - (taken + 1)) calls bytes buffers at (rw g.run.lent at f)) at g.run))

    module _ (q : Request) (f : request_at calls (length bytes) (length replies) at ≡ Some q) where
      pub batch_inside : LiesWithin (length bytes) (length replies) q.call
      batch_inside = request_inside calls (length bytes) (length replies) at q f

      -- it is the next of the run
      pub batch_next : Running bytes buffers most all (q ∷ requests_from (most - (taken + 1)) calls bytes buffers (at + words_each)) w replies answers at taken
      batch_next = rw (more, requests_next (most - (taken + 1)) calls bytes buffers at q (rw g.run.lent at f)) at g.run

      -- it is made, and the others follow it
      pub batch_again : {good : Bool} {w' : World} {replies' : List ℕ} {a : Answer}
          → CallMade bytes buffers answer_words words_each most all (requests_from (most - (taken + 1)) calls bytes buffers (at + words_each)) good answers at taken w' replies' a
          → (at' : ℕ) (answers' : List ℕ) → at' ≡ at + length (answer_words a) → answers' ≡ store_at answers at (answer_words a)
          → BatchInvariant calls bytes buffers most all w' replies' answers' at' (taken + 1)
      batch_again {a = a} m at' answers' e x =
          let n = length_answer a in
          let p = g.place in
          let next : at + words_each ≡ at' = omega arith in
          record { place = omega arith; words = g.words; run = rw next at (m.next at' answers' e x) }
