-- Demand 2, call by call: every call of a run is delivered as its peer's history demands.
use Prim.Native.Nat.{ℕ, ◌≤◌}
use lib.ListN.{length}
use mathlib.Core.List.{List, [], ◌∷◌, ◌++◌}
use mathlib.Core.Path.{◌≡◌, refl, sym, ap, ◌∙◌, subst, subst₂}
use Rattle.guarantees.specs.Delivery.{AllDelivered, Delivered, DeliveredAll, Delivery, SeenByHistory, answers_in, demanded, plain_run}
use Rattle.guarantees.specs.Runs.{alone, calls_of}
use Rattle.guarantees.specs.Receiving.{receiving}
use Rattle.peer.specs.Calls.{Call}
use Rattle.peer.specs.Claims.{BytesBySegments, CountsUp, Distinct, DoneWhenCovered, GrantsBounded, InOrder, MatchedByCount, MatchedInOrder, Once, TruncateClaim, TruncatedAboveCapacity, answers_of, history, ids_of, is_done, is_match, plain_after, receives_of, takes}
use Rattle.peer.specs.Expected.{enter, expected, target_of_call}
use Rattle.peer.specs.Origins.{AcceptedFromOrigin, GrantIsACts, Origin, no_origins, note_origin, origins_from, origins_of}
use Rattle.peer.specs.Plain.{Plain, fresh_plain}
use Rattle.peer.specs.declared.types.Answer.{Answer}
use Rattle.engine.proofs.SentencesHold.{ready_fits}
use Rattle.engine.proofs.Worlds.{sized}
use Rattle.guarantees.proofs.Seeing.{seen_by_history}
use Rattle.peer.proofs.History.Bytes.{bytes_by_segments, done_when_covered}
use Rattle.peer.proofs.History.Grants.{grants_bounded}
use Rattle.peer.proofs.History.Once.{once}
use Rattle.peer.proofs.History.Count.{matched_by_count}
use Rattle.peer.proofs.History.Order.{matched_in_order, truncated_above_capacity}
use Rattle.peer.proofs.History.OriginReplies.{grant_is_a_cts}
use Rattle.peer.proofs.History.OriginsHold.{accepted_from_origin}

-- the history after one call more
history_next : (area limit : ℕ) (l : Plain) (before : List Call) (c : Call)
    → plain_after area limit l (before ++ (c ∷ [])) ≡ enter limit (plain_after area limit l before) c (expected area limit (plain_after area limit l before) c)
unfolding plain_after
history_next area limit l [] c = refl
history_next area limit l (b ∷ bs) c = history_next area limit (enter limit l b (expected area limit l b)) bs c

origins_next : (area limit : ℕ) (l : Plain) (gs : List Origin) (before : List Call) (c : Call)
    → origins_from area limit l gs (before ++ (c ∷ []))
    ≡ note_origin (target_of_call limit (plain_after area limit l before) c) (origins_from area limit l gs before) c (expected area limit (plain_after area limit l before) c)
unfolding plain_after origins_from
origins_next area limit l gs [] c = refl
origins_next area limit l gs (b ∷ bs) c = origins_next area limit (enter limit l b (expected area limit l b)) _ bs c

module _ (area limit : ℕ) (low : 64 ≤ limit) where
  delivered : (before : List Call) (c : Call)
      → Delivered area limit (history area limit before) (origins_of area limit before) c (demanded area limit (history area limit before) c)
  unfolding DoneWhenCovered MatchedInOrder BytesBySegments GrantsBounded TruncatedAboveCapacity AcceptedFromOrigin GrantIsACts
  delivered before c =
      record {
        answer = refl;
        says = refl;
        done = done_when_covered area limit before c;
        order = λ bs room q is read takes matched.
            subst (λ (d : Call). InOrder (history area limit before) q (target_of_call limit (history area limit before) d)) (sym is)
            (matched_in_order area limit before bs room q read
            (ap (λ (d : Call). Rattle.peer.specs.Claims.takes (expected area limit (history area limit before) d)) (sym is) ∙ takes)
            (ap (λ (d : Call). (target_of_call limit (history area limit before) d).matched) (sym is) ∙ matched));
        truncated = λ bs room q is read.
            subst (λ (d : Call). TruncateClaim (history area limit before) q (target_of_call limit (history area limit before) d) (expected area limit (history area limit before) d)) (sym is)
            (truncated_above_capacity area limit before bs room q read);
        origin = accepted_from_origin area limit before c;
        reply = grant_is_a_cts area limit before c low;
        read = refl;
        bytes = bytes_by_segments area limit before c;
        grants = grants_bounded area limit before c low;
      }

  all_delivered : (cs before : List Call)
      → AllDelivered area limit (history area limit before) (origins_of area limit before) cs (plain_run area limit (history area limit before) cs)
  unfolding AllDelivered alone
  all_delivered [] before = tt
  all_delivered (c ∷ cs) before = (
    delivered before c,
    subst₂ (λ (l : Plain) (gs : List Origin). AllDelivered area limit l gs cs (plain_run area limit l cs))
        (history_next area limit fresh_plain before c) (origins_next area limit fresh_plain no_origins before c) (all_delivered cs (before ++ (c ∷ []))),
  )

-- the answers seen are those that 01 demands
answers_seen : (area limit : ℕ) (l : Plain) (cs : List Call) → answers_in (plain_run area limit l cs) ≡ answers_of area limit l cs
unfolding alone answers_of
answers_seen area limit l [] = refl
answers_seen area limit l (c ∷ cs) = ap (λ (rest : List Answer). expected area limit l c ∷ rest) (answers_seen area limit (enter limit l c (expected area limit l c)) cs)

delivered_all : (area limit : ℕ) (calls : List Call) → 64 ≤ limit → DeliveredAll area limit calls (plain_run area limit fresh_plain calls)
unfolding Once MatchedByCount
delivered_all area limit calls low =
    let same = sym (answers_seen area limit fresh_plain calls) in
    record {
      each = unfold plain_after origins_from in all_delivered area limit low calls [];
      matched_once = subst (λ (rest : List Answer). Distinct (receives_of is_match limit fresh_plain calls rest)) same (once area limit calls).0;
      done_once = subst (λ (rest : List Answer). Distinct (receives_of is_done limit fresh_plain calls rest)) same (once area limit calls).1;
      counted = λ b. subst (λ (rest : List Answer). CountsUp (ids_of limit fresh_plain calls rest)) same (matched_by_count area limit calls b);
    }

pub delivery : Delivery
unfolding Delivery SeenByHistory
delivery n area limit p arena map ready h calls =
    subst (DeliveredAll area limit (calls_of receiving p calls)) (sym (seen_by_history n area limit p arena map ready h calls))
    (delivered_all area limit (calls_of receiving p calls) (sized n area limit (ready_fits n area limit (length arena) map ready).0).limit_low)
