-- How a replay ends: `DecodesWhatStands`, `ReplayEndsAsSaid` and `ReplayTakesAtMost` of specs/Endings.antt. By induction over the entries that may still be
-- taken, each of which is read only where it stands.
use Prim.Native.Nat.{ℕ, zero, suc, ◌+◌, ◌*◌, ◌≤◌, ◌<◌}
use borrow.Author.Tests.{leb-false, leb-true, le-leb}
use lib.Dec.{leb}
use lib.ListN.{length, get_or, length-map}
use mathlib.Core.List.{List, [], ◌∷◌, map}
use mathlib.Core.Path.{◌≡◌, refl, ap, ◌∙◌}
use native.Mathlib.Omega.{arith}
use Rattle.std.specs.Prelude.{Ok, Err, Option, None, Some}
use Rattle.laws.proofs.Choosing.{branch, pick_either, pick_true}
use Rattle.peer.specs.declared.types.Call.{Call}
use Rattle.peer.specs.declared.types.LocalCall.{LocalCall}
use Rattle.peer.specs.declared.types.Request.{Request}
use Rattle.engine.specs.SetUp.{Ready}
use Rattle.trace.specs.Entries.{entry_at, set_up_at, set_up_is}
use Rattle.trace.specs.ExactlyRecorded.{CallStands, SetUpStands}
use Rattle.trace.specs.declared.types.SetUp.{SetUp}
use Rattle.trace.proofs.OnlyAsRecorded.{entry_only_as_recorded, set_up_only_as_recorded}
use Rattle.trace.proofs.ReadBack.{bad_if_nothing_recorded, set_up_read_back}
use Rattle.engine.specs.Steps.{World}
use Rattle.replay.specs.Decoding.{Decoded, decode, ending_at, lent_buffer, no_more, on_found_entry, with_first}
use Rattle.replay.specs.Endings.{DecodesWhatStands, EndsAfter, EndsAs, ReplayEndsAsSaid, ReplayTakesAtMost, Taken, TakesAtMost, set_up_answer}
use Rattle.replay.specs.Replaying.{ReplayLeaves, has_room, on_ready, replay_from, replay_of, reported, started, told}
use Rattle.replay.specs.declared.types.Ending.{Ending}

-- ---- entries

entry_inside : (s : List ℕ) (at peer : ℕ) (c : Call) (next : ℕ) → CallStands s at peer c next → next ≤ length s
entry_inside s at peer (Call.Local (LocalCall.Post r)) next h = h.5.inside
entry_inside s at peer (Call.Packet sent reply) next h = h.4.inside
entry_inside s at peer (Call.Local (LocalCall.Cancel slot)) next h = h.2.inside
entry_inside s at peer (Call.Local (LocalCall.Report slot)) next h = absurd h

-- one entry more was taken, of one more
ends_suc : (s : List ℕ) (k n place : ℕ) (e : Ending) → EndsAs s k n place e → EndsAs s (suc k) (suc n) place e
ends_suc s k n place Ending.End h = h
ends_suc s k n place Ending.Stopped h = (ap suc h.0, h.1)
ends_suc s k n place (Ending.Bad b) h = (h.0, h.1, omega (arith, h.2), h.3)
ends_suc s k n place (Ending.NotSetUp r) h = h
ends_suc s k n place Ending.NoRoom h = h

-- of at most k entries from `at` on: the calls and the ending of those that stand there
abbrev Decodes : List ℕ → List ℕ → ℕ → ℕ → Decoded → Type 0
Decodes s buffer k at d = (entries : List Request) × (d.calls ≡ map (lent_buffer (length buffer)) entries) × Taken s k at entries d.ending

module _ (s buffer : List ℕ) (bytes : (i : ℕ) → get_or s i 0 < 256) where
  -- bytes remain, and no entry may be taken
  remaining : (at : ℕ) → at < length s → EndsAs s 0 0 at Ending.Stopped
  remaining at h = (refl, h)

  none : (k at : ℕ) (e : Ending) → EndsAs s k 0 at e → Decodes s buffer k at (no_more e)
  none k at e h = ([], refl, record { place = at; stand = refl; few = omega arith; ends = h })

  found : (k at : ℕ) → at < length s → ((next : ℕ) → next ≤ length s → Decodes s buffer k next (decode k s buffer next)) → (f : Option (Request × ℕ)) → entry_at s at ≡ f
      → Decodes s buffer (suc k) at (on_found_entry f (no_more (Ending.Bad at)) (λ q next. with_first (lent_buffer (length buffer) q) (decode k s buffer next)))
  found k at l ih None p = none (suc k) at (Ending.Bad at) (refl, l, omega arith, bad_if_nothing_recorded s at p)
  found k at l ih (Some (q, next)) p =
      let h = entry_only_as_recorded s at q next bytes p in
      let (es, calls, t) = ih next (entry_inside s at q.peer q.call next h) in (
        q ∷ es,
        ap (λ (qs : List Request). lent_buffer (length buffer) q ∷ qs) calls,
        record {
          place = t.place;
          stand = (next, h, t.stand);
          few = omega (arith, t.few);
          ends = ends_suc s k (length es) t.place (decode k s buffer next).ending t.ends;
        },
      )

  decodes : (k at : ℕ) → at ≤ length s → Decodes s buffer k at (decode k s buffer at)
  unfolding decode
  decodes zero at h =
      none 0 at (ending_at at (length s))
      (branch (EndsAs s 0 0 at) (leb (length s) at) _ _ (λ t. omega (arith, leb-true (length s) at t)) (λ t. remaining at (leb-false (length s) at t)))
  decodes (suc k) at h =
      branch (Decodes s buffer (suc k) at) (leb (length s) at) _ _ (λ t. none (suc k) at Ending.End (omega (arith, leb-true (length s) at t)))
      (λ t. found k at (leb-false (length s) at t) (decodes k) (entry_at s at) refl)

pub decodes_what_stands : DecodesWhatStands
decodes_what_stands k s buffer at bytes h = decodes s buffer bytes k at h

-- ---- the whole

-- a run, by what set-up answers
module _ (s : List ℕ) (k next : ℕ) (reply text : List ℕ) (w : World) (a m : List ℕ) (d : Decoded) where
  number : (t : Decodes s reply k next d) → length d.calls ≡ length t.0
  number t = ap length t.1 ∙ length-map t.0 (lent_buffer (length reply))

  answered : (r : Ready) → Decodes s reply k next d → EndsAfter s k next r (on_ready r (reported s reply w text d) (told a m reply text)).replayed
  unfolding reported
  answered (Err e) t = (refl, refl)
  answered (Ok tt) t = (t.0, number t, t.2)

  at_most : (r : Ready) → Decodes s reply k next d → TakesAtMost k (on_ready r (reported s reply w text d) (told a m reply text)).replayed
  unfolding reported
  at_most (Err e) t = (omega arith, λ p. let z : ◌≡◌ {A = ℕ} 0 1 = cc in omega arith)
  at_most (Ok tt) t = rw (number t) (t.2.few, λ p. (rw p at t.2.ends).0)

module _ (s : List ℕ) (budget : ℕ) (arena words reply text : List ℕ) (bytes : (i : ℕ) → get_or s i 0 < 256) where
  replay_started : 64 + 80 * budget ≤ length text → replay_of s budget arena words reply text ≡ started s budget arena words reply text (set_up_at s 0)
  unfolding replay_of has_room
  replay_started room = pick_true _ _ (le-leb _ _ room)

  no_set_up : ((n area limit next : ℕ) → SetUpStands s 0 n area limit next → ⊥) → (u : Option (SetUp × ℕ)) → set_up_at s 0 ≡ u
      → let r = (started s budget arena words reply text u).replayed in (r.taken ≡ 0) × (r.ending ≡ Ending.Bad 0)
  unfolding started
  no_set_up missing None e = (refl, refl)
  no_set_up missing (Some (u, next)) e = absurd (missing u.n u.area u.limit next (set_up_only_as_recorded s 0 u.n u.area u.limit next bytes e))

  set_up_stands : (n area limit next : ℕ) → SetUpStands s 0 n area limit next
      → EndsAfter s budget next (set_up_answer n area limit arena words) (started s budget arena words reply text (set_up_is n area limit next)).replayed
  unfolding started replay_from
  set_up_stands n area limit next h =
      answered s budget next reply text _ _ _ _ (set_up_answer n area limit arena words) (decodes_what_stands budget s reply next bytes h.3.inside)

  started_at_most : (u : Option (SetUp × ℕ)) → set_up_at s 0 ≡ u → TakesAtMost budget (started s budget arena words reply text u).replayed
  unfolding started replay_from
  started_at_most None e = (omega arith, λ p. let z : ◌≡◌ {A = ℕ} 0 1 = cc in omega arith)
  started_at_most (Some (u, next)) e =
      let h = set_up_only_as_recorded s 0 u.n u.area u.limit next bytes e in
      at_most s budget next reply text _ _ _ _ (set_up_answer u.n u.area u.limit arena words) (decodes_what_stands budget s reply next bytes h.3.inside)

pub replay_ends_as_said : ReplayEndsAsSaid
replay_ends_as_said s budget arena words reply text bytes room =
    rw (replay_started s budget arena words reply text bytes room) (
      λ missing. no_set_up s budget arena words reply text bytes missing (set_up_at s 0) refl,
      λ n area limit next h. rw (set_up_read_back s 0 n area limit next h) (set_up_stands s budget arena words reply text bytes n area limit next h),
    )

pub replay_takes_at_most : ReplayTakesAtMost
unfolding replay_of
replay_takes_at_most s budget arena words reply text bytes =
    pick_either (λ (l : ReplayLeaves). TakesAtMost budget l.replayed) (has_room budget (length text))
    (started_at_most s budget arena words reply text bytes (set_up_at s 0) refl) (omega arith, λ p. let z : ◌≡◌ {A = ℕ} 0 1 = cc in omega arith)
