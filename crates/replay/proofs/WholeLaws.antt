-- Laws of the whole: the set-up's answer, the text made of the first line, the calls' lines and the last, its room, and what is put back of
-- arena and map.
use Prim.Native.Nat.{ℕ, ◌+◌, ◌*◌, ◌≤◌}
use borrow.Author.Tests.{leb-true}
use lib.Dec.{leb}
use lib.ListN.{length, drop, length-append, replicate}
use mathlib.Core.Bool.{true, ◌&&◌}
use mathlib.Core.List.{List, [], ◌++◌}
use mathlib.Core.Path.{◌≡◌, refl, sym, subst, ◌∙◌}
use native.Mathlib.Omega.{arith}
use Rattle.std.specs.Prelude.{Ok, Err, Option, None, Some}
use Rattle.laws.specs.Parts.{store_at}
use Rattle.laws.proofs.Choosing.{branch, pick_either}
use Rattle.laws.proofs.Storing.{length_store, store_next, store_start}
use Rattle.text.specs.Lines.{bytes_of}
use Rattle.text.proofs.LineLaws.{length_line}
use Rattle.protocol.specs.declared.refusals.Refusal.{Refusal}
use Rattle.engine.specs.Sentences.{Eights}
use Rattle.engine.specs.Leaves.{world}
use Rattle.engine.specs.SetUp.{Prepared, engine_fits, engine_of, lent_fits, not_started, numbers_fit, set_up}
use Rattle.engine.specs.Steps.{World}
use Rattle.engine.specs.SetUp.{Ready}
use Rattle.engine.proofs.Worlds.{good_fits}
use Rattle.trace.specs.Entries.{set_up_at}
use Rattle.trace.specs.declared.types.SetUp.{SetUp}
use Rattle.guarantees.specs.Outputs.{output_of}
use Rattle.guarantees.specs.Receiving.{fresh_world}
use Rattle.guarantees.proofs.SetUps.{fresh_good}
use Rattle.replay.specs.Decoding.{Decoded, decode}
use Rattle.replay.specs.Lines.{answer_line, ending_line, set_up_line}
use Rattle.replay.specs.Replaying.{ReplayLeaves, has_room, in_whole, on_ready, ran, replay_from, replay_of, report, reported, started, told}
use Rattle.replay.specs.declared.types.Ending.{Ending}
use Rattle.replay.proofs.LineRoom.{ending_room, lines_room, tell_room}
use Rattle.replay.proofs.DecodeLaws.{calls_few}

-- ---- the set-up

refused_or_ready : {k : Refusal} {C : Type 0} → ◌≡◌ {A = Ready} (Err k) (Ok tt) → C
refused_or_ready e = let z : ◌≡◌ {A = ℕ} 0 1 = cc in absurd (omega arith)

-- the engine of a set-up that is ready can be
pub ready_holds : (n area limit : ℕ) (arena map : List ℕ) (x : Prepared) → x ≡ set_up n area limit (length arena) map → x.started.answer ≡ Ok tt
    → Eights x.started.engine × (engine_fits x.started.engine ≡ true)
unfolding fresh_world
ready_holds n area limit arena map x e r =
    let g = fresh_good n area limit arena map (rw e at r) in
    rw e (record { peers = g.peers; slots = g.slots }, good_fits _ g)

module _ (n area limit : ℕ) (s : List ℕ) (next budget : ℕ) (arena map reply text : List ℕ) (x : Prepared)
    (e : x ≡ set_up n area limit (length arena) map) where
  -- what holds of a set-up that is ready, and of one that is refused, holds of this one
  either : (P : Prepared → Type 0)
      → P (record { started = record { answer = Ok tt; engine = engine_of n area limit }; map = replicate (length map) 0 })
      → P (not_started map) → P x
  unfolding set_up
  either P p q = subst P (sym e) (pick_either P (numbers_fit n area limit && lent_fits n area (length arena) (length map)) p q)

  untouched : (k : Refusal) → x.started.answer ≡ Err k → x.map ≡ map
  untouched k = either (λ (y : Prepared). y.started.answer ≡ Err k → y.map ≡ map) (λ r. refused_or_ready (sym r)) (λ r. refl)

  pub replay_from_ready : x.started.answer ≡ Ok tt
      → replay_from n area limit s next budget arena map reply text ≡ reported s reply (world x.started.engine arena x.map) text (decode budget s reply next)
  unfolding replay_from fresh_world
  replay_from_ready r = rw (← e, r)

  pub replay_from_refused : (k : Refusal) → x.started.answer ≡ Err k
      → replay_from n area limit s next budget arena map reply text ≡ told arena x.map reply text (Ending.NotSetUp k)
  unfolding replay_from
  replay_from_refused k r = rw (← e, r, untouched k r)

-- ---- the text

pub set_up_room : length set_up_line ≤ 9
set_up_room = let n = length_line (bytes_of "setup ok") [] in omega arith

-- the whole text has room
report_room : (s reply : List ℕ) (w : World) (d : Decoded) (budget text : ℕ) → length d.calls ≤ budget → 64 + 80 * budget ≤ text
    → length (report s reply w d) ≤ text
report_room s reply w d budget text few room =
    let l = output_of s reply answer_line w d.calls in
    let last = ending_line (length d.calls) d.ending in
    let a = set_up_room in
    let b = lines_room s reply w d.calls in
    let c = ending_room (length d.calls) d.ending in
    rw (length-append set_up_line (l ++ last), length-append l last) (omega arith)

module _ (s reply : List ℕ) (w : World) (text : List ℕ) (d : Decoded) (budget : ℕ) (few : length d.calls ≤ budget) (room : 64 + 80 * budget ≤ length text)
    (first : ℕ) (x : ReplayLeaves) (f : first ≡ 0 + length set_up_line) (e : x ≡ ran s reply w (store_at text 0 set_up_line) first d) where
  abbrev last : List ℕ
  last = ending_line (length d.calls) d.ending

  -- the lines behind the first have room
  inside : first + length (output_of s reply answer_line w d.calls) + length last ≤ length text
  inside =
      let a = set_up_room in
      let b = lines_room s reply w d.calls in
      let c = ending_room (length d.calls) d.ending in
      omega arith

  pub last_room : x.replayed.written + length (ending_line x.replayed.taken x.replayed.ending) ≤ length x.text
  last_room =
      let l = output_of s reply answer_line w d.calls in
      let i = inside in
      let a = set_up_room in
      let n : length (store_at text 0 set_up_line) ≡ length text = length_store text 0 set_up_line (omega arith) in
      let m : length (store_at (store_at text 0 set_up_line) first l) ≡ length text = length_store (store_at text 0 set_up_line) first l (rw n (omega arith)) ∙ n in
      rw e (rw m i)

  -- the first line, the calls' lines and the last make the report
  pub reported_by_parts : (written : ℕ) (text' : List ℕ)
      → written ≡ x.replayed.written + length (ending_line x.replayed.taken x.replayed.ending)
      → text' ≡ store_at x.text x.replayed.written (ending_line x.replayed.taken x.replayed.ending)
      → record {
        replayed = record { taken = x.replayed.taken; written = written; ending = x.replayed.ending };
        arena = x.arena;
        map = x.map;
        reply = x.reply;
        text = text';
      }
      ≡ reported s reply w text d
  unfolding reported
  reported_by_parts written text' p q =
      let l = output_of s reply answer_line w d.calls in
      let i = inside in
      let a = set_up_room in
      let n : length (store_at text 0 set_up_line) ≡ length text = length_store text 0 set_up_line (omega arith) in
      let g : first ≡ 0 + length set_up_line = f in
      let y : store_at (store_at (store_at text 0 set_up_line) first l) (first + length l) last ≡ store_at text 0 (set_up_line ++ (l ++ last)) =
      store_next (store_at text 0 set_up_line) first l last (first + length l) refl (rw n i)
      ∙ store_next text 0 set_up_line (l ++ last) first f (rw length-append (omega arith)) in
      let z : first + length l + length last ≡ length (set_up_line ++ (l ++ last)) =
      rw (length-append set_up_line (l ++ last), length-append l last) (omega arith) in
      rw (p, q, e, y, z)

-- ---- what was lent on

-- the elements behind those that were lent on stay
pub put_back : (arena map : List ℕ) (x : ReplayLeaves) (bytes words : ℕ) → length x.arena ≡ bytes → length x.map ≡ words
    → record {
      replayed = x.replayed;
      arena = x.arena ++ drop bytes arena;
      map = x.map ++ drop words map;
      reply = x.reply;
      text = x.text;
    }
    ≡ in_whole arena map x
put_back arena map x bytes words p q = rw (store_start arena x.arena bytes p, store_start map x.map words q)

-- ---- the text lies within its buffer

module _ (s : List ℕ) (budget : ℕ) (arena map reply text : List ℕ) where
  replay_from_inside : 64 + 80 * budget ≤ length text → (n area limit next : ℕ) (a m : List ℕ)
      → (replay_from n area limit s next budget a m reply text).replayed.written ≤ length text
  unfolding replay_from reported
  replay_from_inside room n area limit next a m = ready (set_up n area limit (length a) m).started.answer
    where
      ready : (r : Ready)
          → (on_ready r (reported s reply (fresh_world n area limit a m) text (decode budget s reply next)) (told a m reply text)).replayed.written ≤ length text
      ready (Ok tt) = report_room s reply (fresh_world n area limit a m) (decode budget s reply next) budget (length text) (calls_few budget s reply next) room
      ready (Err k) = tell_room (Ending.NotSetUp k) budget (length text) room

  started_inside : 64 + 80 * budget ≤ length text → (u : Option (SetUp × ℕ)) → (started s budget arena map reply text u).replayed.written ≤ length text
  unfolding started
  started_inside room None = tell_room (Ending.Bad 0) budget (length text) room
  started_inside room (Some (u, next)) = replay_from_inside room u.n u.area u.limit next _ _

  written_inside : (replay_of s budget arena map reply text).replayed.written ≤ length text
  unfolding replay_of has_room ending_line
  written_inside =
      branch (λ (l : ReplayLeaves). l.replayed.written ≤ length text) (leb (64 + 80 * budget) (length text)) _ _
      (λ t. started_inside (leb-true _ _ t) (set_up_at s 0)) (λ t. omega arith)

  pub written_kept : (x : ReplayLeaves) → x ≡ replay_of s budget arena map reply text → length x.text ≡ length text → x.replayed.written ≤ length x.text
  written_kept x e n = rw n (subst (λ (y : ReplayLeaves). y.replayed.written ≤ length text) (sym e) written_inside)
