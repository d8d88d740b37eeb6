-- Runs one after the other are one run: what specs/Whole.antt states. The words saved by one run are read again by the next.
use Prim.Native.Nat.{ℕ, zero, suc, ◌+◌, ◌*◌, ◌≤◌, ◌<◌}
use lib.ListN.{length, get_or, replicate, take, drop, length-drop}
use lib.Seq.{drop-append-add, drop-append-le, drop-append_seam, take-append-le, take-length}
use mathlib.Core.List.{List, [], ◌∷◌, ◌++◌}
use mathlib.Core.Logic.{◌⊎◌, ⊎_elim, ⊎_map}
use mathlib.Core.Path.{◌≡◌, refl, sym, ap, ◌∙◌, subst}
use native.Mathlib.Omega.{arith}
use Rattle.std.specs.Prelude.{Ok}
use Rattle.laws.specs.Parts.{part, store_at}
use Rattle.laws.proofs.Choosing.{pick_cases, pick_true}
use Rattle.laws.proofs.Comparing.{eq_or_ne}
use Rattle.laws.proofs.Storing.{part_middle, store_start}
use Rattle.protocol.specs.Refusals.{bad_set_up}
use Rattle.engine.specs.SetUp.{Prepared, engine_of, not_started, set_up}
use Rattle.engine.specs.Steps.{World}
use Rattle.engine.proofs.Worlds.{Good}
use Rattle.peer.specs.declared.types.Request as code
use Rattle.peer.specs.LentCalls.{reply_place}
use Rattle.guarantees.specs.Outputs.{output_of, replies_after, requests_of}
use Rattle.guarantees.specs.Runs.{world_after}
use Rattle.guarantees.specs.Receiving.{LentRequest, fresh_world, receiving, request_of, turn_of}
use Rattle.guarantees.proofs.SetUps.{fresh_good, good_after}
use Rattle.state_words.specs.Loading.{state_after}
use Rattle.state_words.specs.RoundTrip.{Held, LoadedAgain}
use Rattle.state_words.specs.Saving.{engine_words, state_size}
use Rattle.state_words.proofs.RoundTrips.{loaded_again, saved_is_state}
use Rattle.packed.specs.Calls.{words_each}
use Rattle.packed.specs.Answers.{answer_words}
use Rattle.packed.specs.Running.{Kept, ran_from, run_of}
use Rattle.packed.specs.Starting.{StartLeaves, start_of}
use Rattle.packed.specs.Whole.{BatchesOfBytes, Batch, PartOfRun, RunsAreOneRun, StartIsReady, Store, calls_in, requests_in, requests_in_all, run_on, store_after}
use Rattle.packed.proofs.Holding.{batch_held, fresh_held}
use Rattle.packed.proofs.SettingUp.{start_ready, start_refused, start_short}
use Rattle.packed.proofs.EightWords.{length_answer, length_answers}

-- requests one after the other
after_append : (w : World) (a b : List LentRequest) → world_after receiving w (a ++ b) ≡ world_after receiving (world_after receiving w a) b
unfolding world_after
after_append w [] b = refl
after_append w (q ∷ a) b = after_append (turn_of w q).world a b

-- ---- one run, from the words of an engine as the code holds it

abbrev store_with : World → Store
store_with w = record { state = engine_words w.engine; arena = w.arena; map = w.map }

abbrev kept_from : World → Batch → Kept
kept_from w b =
    record {
      taken = length (calls_in b);
      state = engine_words (world_after receiving w (requests_in b)).engine;
      arena = (world_after receiving w (requests_in b)).arena;
      map = (world_after receiving w (requests_in b)).map;
      replies = replies_after b.bytes b.replies w b.replies (calls_in b);
      answers = store_at b.answers 0 (output_of b.bytes b.replies answer_words w (calls_in b));
    }

run_from : (w : World) (b : Batch) → Held w.engine → run_on (store_with w) b ≡ kept_from w b
unfolding run_of ran_from state_after LoadedAgain
run_from w b h =
    rw (loaded_again w.engine h)
    (ap (λ (s : List ℕ). record {
      taken = length (calls_in b);
      state = s;
      arena = (world_after receiving w (requests_in b)).arena;
      map = (world_after receiving w (requests_in b)).map;
      replies = replies_after b.bytes b.replies w b.replies (calls_in b);
      answers = store_at b.answers 0 (output_of b.bytes b.replies answer_words w (calls_in b));
    }) (pick_true _ _ (saved_is_state w.engine h)))

-- ---- the runs before

pub record Stands (w : World) : Type 0 where
  pub good : Good w
  pub held : Held w.engine

stores : (w : World) (bs : List Batch) → Stands w → BatchesOfBytes bs
    → (store_after (store_with w) bs ≡ store_with (world_after receiving w (requests_in_all bs))) × Stands (world_after receiving w (requests_in_all bs))
unfolding store_after requests_in_all world_after
stores w [] s a = (refl, s)
stores w (b ∷ bs) s (bytes, a) =
    let w' = world_after receiving w (requests_in b) in
    let s' : Stands w' =
    record { good = good_after w (requests_in b) s.good; held = batch_held b.bytes b.replies bytes w s.good s.held (calls_in b) } in
    let (e, t) = stores w' bs s' a in
    rw (run_from w b s.held, after_append w (requests_in b) (requests_in_all bs)) (e, t)

-- ---- its answers and replies, call by call

part_behind : (a b : List ℕ) (at n : ℕ) → part (a ++ b) (length a + at) n ≡ part b at n
unfolding part
part_behind a b at n = ap (take n) (drop-append-add a b at)

module _ (bytes buffers : List ℕ) where
  answer_at : (w : World) (qs : List code.Request) (j : ℕ) (none : code.Request) → j < length qs
      → part (output_of bytes buffers answer_words w qs) (words_each * j) words_each
      ≡ answer_words (turn_of (world_after receiving w (take j (requests_of bytes buffers qs))) (request_of bytes buffers (get_or qs j none))).answer
  unfolding output_of world_after
  answer_at w [] j none l = absurd (omega arith)
  answer_at w (q ∷ qs) zero none l =
      let t = turn_of w (request_of bytes buffers q) in
      part_middle [] (answer_words t.answer) (output_of bytes buffers answer_words t.world qs) 0 words_each refl (length_answer t.answer)
  answer_at w (q ∷ qs) (suc j) none l =
      let t = turn_of w (request_of bytes buffers q) in
      let a = answer_words t.answer in
      let at : words_each * suc j ≡ length a + words_each * j = omega (arith, length_answer t.answer) in
      rw at (part_behind a (output_of bytes buffers answer_words t.world qs) (words_each * j) words_each ∙ answer_at t.world qs j none (omega arith))

  reply_next : (w : World) (now : List ℕ) (qs : List code.Request) (j : ℕ) (none : code.Request) → j < length qs
      → replies_after bytes buffers w now (take (suc j) qs)
      ≡ store_at (replies_after bytes buffers w now (take j qs)) (reply_place (get_or qs j none).call)
      (turn_of (world_after receiving w (take j (requests_of bytes buffers qs))) (request_of bytes buffers (get_or qs j none))).reply
  unfolding replies_after world_after
  reply_next w now [] j none l = absurd (omega arith)
  reply_next w now (q ∷ qs) zero none l = refl
  reply_next w now (q ∷ qs) (suc j) none l = reply_next (turn_of w (request_of bytes buffers q)).world _ qs j none (omega arith)

-- a part of what was stored at the start
part_start : (l s : List ℕ) (at n : ℕ) → at + n ≤ length s → part (store_at l 0 s) at n ≡ part s at n
unfolding part
part_start l s at n h =
    rw (← store_start l s (length s) refl, drop-append-le at s (drop (length s) l) (omega arith))
    (take-append-le n (drop at s) (drop (length s) l) (omega (arith, length-drop at s)))

rest_stays : (l s : List ℕ) → drop (length s) (store_at l 0 s) ≡ drop (length s) l
rest_stays l s = rw (← store_start l s (length s) refl) (drop-append_seam s (drop (length s) l))

module _ (w : World) (earlier : List LentRequest) (b : Batch) where
  abbrev before : World
  before = world_after receiving w earlier

  part_of_run : PartOfRun w earlier b (kept_from before b)
  unfolding replies_after
  part_of_run =
      record {
        taken = refl;
        answers = λ j none l.
            rw (after_append w earlier (take j (requests_in b)))
            (part_start b.answers words (words_each * j) words_each (omega (arith, size)) ∙ answer_at b.bytes b.replies before (calls_in b) j none l);
        answers_stay = rw (← size) (rest_stays b.answers words);
        replies_at = λ j. replies_after b.bytes b.replies before b.replies (take j (calls_in b));
        replies_first = refl;
        replies_next = λ j none l.
            rw (after_append w earlier (take j (requests_in b))) (reply_next b.bytes b.replies before b.replies (calls_in b) j none l);
        replies_last = ap (replies_after b.bytes b.replies before b.replies) (take-length (calls_in b));
        arena = ap (λ (x : World). x.arena) (sym (after_append w earlier (requests_in b)));
        map = ap (λ (x : World). x.map) (sym (after_append w earlier (requests_in b)));
        state = ap (λ (x : World). engine_words x.engine) (sym (after_append w earlier (requests_in b)));
      }
    where
      words : List ℕ
      words = output_of b.bytes b.replies answer_words before (calls_in b)

      size : length words ≡ words_each * length (calls_in b)
      size = length_answers b.bytes b.replies before (calls_in b)

-- ---- the set-up

module _ (n area limit : ℕ) (arena map state : List ℕ) where
  abbrev ready : Prepared
  ready = record { started = record { answer = Ok tt; engine = engine_of n area limit }; map = replicate (length map) 0 }

  abbrev fresh : Prepared
  fresh = set_up n area limit (length arena) map

  prepared : (ready ≡ fresh) ⊎ (not_started map ≡ fresh)
  unfolding set_up
  prepared = ⊎_map (λ x. x.1) (λ x. x.1) (pick_cases _ ready (not_started map) _ refl)

  abbrev begun : StartLeaves
  begun = start_of n area limit (length arena) map state

  one_not_zero : {s : StartLeaves} → s ≡ begun → s.refusal ≡ 1 → begun.refusal ≡ 0 → ⊥
  one_not_zero e x y = omega (arith, ap (λ (s : StartLeaves). s.refusal) e)

  began : begun.refusal ≡ 0 → (ready ≡ fresh) × (record { refusal = 0; map = fresh.map; state = engine_words fresh.started.engine } ≡ begun)
  began z =
      ⊎_elim
      (λ h. ⊎_elim
      (λ e. (e, start_ready n area limit (length arena) map state h fresh refl (ap (λ (p : Prepared). p.started.answer) (sym e))))
      (λ e. absurd (one_not_zero (start_refused n area limit (length arena) map state h fresh refl bad_set_up (ap (λ (p : Prepared). p.started.answer) (sym e))) refl z))
      prepared)
      (λ h. absurd (one_not_zero (start_short n area limit (length arena) map state h) refl z))
      (eq_or_ne (length state) state_size)

  stands : ready ≡ fresh → Stands (fresh_world n area limit arena map)
  unfolding fresh_world
  stands e =
      record {
        good = fresh_good n area limit arena map (ap (λ (p : Prepared). p.started.answer) (sym e));
        held = subst (λ (p : Prepared). Held p.started.engine) e (fresh_held n area limit);
      }

pub start_is_ready : StartIsReady
unfolding StartIsReady
start_is_ready n area limit arena map state z = ap (λ (p : Prepared). p.started.answer) (sym (began n area limit arena map state z).0)

pub runs_are_one_run : RunsAreOneRun
unfolding RunsAreOneRun fresh_world
runs_are_one_run n area limit arena map state before b z bytes =
    let (e, s) = began n area limit arena map state z in
    let w = fresh_world n area limit arena map in
    let (x, t) = stores w before (stands n area limit arena map state e) bytes in
    rw (← s, x, run_from (world_after receiving w (requests_in_all before)) b t.held) (part_of_run w (requests_in_all before) b)
