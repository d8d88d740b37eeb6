-- Demand 1: a refused call answers a number of its list and leaves state, arena, map and reply buffer; refusals 2 and 3 never arise in a run.
use Prim.Native.Nat.{ℕ, ◌+◌, ◌*◌, ◌/◌, ◌≤◌, ◌<◌}
use borrow.Author.Tests.{ltb-true}
use lib.Dec.{ltb, eqb}
use lib.ListN.{length}
use lib.Seq.{set-get_or}
use mathlib.Core.Bool.{Bool, true, false, ◌&&◌, ◌||◌, or-true}
use mathlib.Core.List.{List, []}
use mathlib.Core.Logic.{◌⊎◌, inl, inr, ⊎_elim}
use mathlib.Core.Path.{◌≡◌, refl, sym, ap, ◌∙◌}
use native.Mathlib.Decide.{dec_lt}
use native.Mathlib.Omega.{arith}
use Rattle.protocol.specs.Refusals.{bad_lent, bad_peer, bad_state, number}
use Rattle.engine.specs.Checks.{ready_says}
use Rattle.engine.specs.SetUp.{Prepared, engine_fits, lent_fits, not_started, numbers_fit, peer_at, set_up}
use Rattle.engine.specs.Steps.{Turn, World, call_turn, peer_turn, put_back, refused_turn, with_peer, words_of}
use Rattle.engine.specs.declared.types.Engine.{Engine}
use Rattle.guarantees.specs.Refusals.{NeverBadState, RefusedLeavesAll, RefusedSetUp, list_for}
use Rattle.peer.specs.Calls.{Call, LentCall, call_of, cancel, packet, post, report}
use Rattle.peer.specs.LentCalls.{buffer_of}
use Rattle.guarantees.specs.Runs.{world_after}
use Rattle.guarantees.specs.Receiving.{fresh_world, receiving, turn_of}
use Rattle.laws.specs.Parts.{store_at}
use Rattle.protocol.specs.Checks.{refused}
use Rattle.protocol.specs.declared.refusals.Refusal.{Refusal}
use Rattle.peer.specs.Effects.{Effect, refuse}
use Rattle.peer.specs.Refusing.{among, refusals_of}
use Rattle.peer.specs.State.{fresh_peer}
use Rattle.peer.specs.declared.types.Answer.{Answer}
use Rattle.peer.specs.declared.types.Peer.{Peer}
use Rattle.engine.proofs.WorldTurns.{turn_none, turn_own}
use Rattle.engine.proofs.Worlds.{Good, lent_lengths, part_inside}
use Rattle.guarantees.proofs.SetUps.{fresh_good, good_after}
use Rattle.laws.proofs.Choosing.{branch, clashing}
use Rattle.laws.proofs.Storing.{store_nothing, store_own}
use Rattle.peer.proofs.PeerSteps.StepCases.{step_refusing}

-- a turn that is a refusal leaves all
abbrev Leaves : World → LentCall → Turn → Type 0
Leaves w a t =
    (k : Refusal) → t.answer ≡ Answer.Refused k → (among (list_for a) (number k) ≡ true) × (t.world ≡ w) × (t.reply ≡ [])

refused_leaves : (w : World) (a : LentCall) (m : Refusal) → among (list_for a) (number m) ≡ true → Leaves w a (refused_turn w m)
refused_leaves w a m e k x =
    let is : m ≡ k = cc in
    (ap (λ (n : Refusal). among (list_for a) (number n)) (sym is) ∙ e, refl, refl)

-- the peer's own refusal, put back
own_leaves : (w : World) (p : ℕ) (a : LentCall) → lent_fits w.engine.n w.engine.area (length w.arena) (length w.map) ≡ true → p < w.engine.n
    → Leaves w a (peer_turn w p (call_of a))
unfolding peer_turn
own_leaves w p a e h k x =
    let r = step_refusing w.engine.area w.engine.limit (peer_at w.engine p) (words_of w p) (call_of a) k (unfold put_back in x) in
    (wider (number k) r.1, ap (λ (f : Effect). (put_back w p f).world) r.0 ∙ back, ap (λ (f : Effect). (put_back w p f).reply) r.0 ∙ (unfold put_back in refl))
  where
    wider : (n : ℕ) → among (refusals_of (call_of a)) n ≡ true → among (list_for a) n ≡ true
    wider n y = ap (λ (t : Bool). eqb 2 n || (eqb 3 n || (eqb 4 n || t))) y ∙ (rw (or-true, or-true, or-true))

    inside : p * (w.engine.area / 64) + w.engine.area / 64 ≤ length w.map
    inside = omega (arith, (lent_lengths w.engine.n w.engine.area (length w.arena) (length w.map) e).1, part_inside w.engine.n p (w.engine.area / 64) h)

    engine : with_peer w.engine p (peer_at w.engine p) ≡ w.engine
    engine = ap (λ (ps : List Peer). record { peers = ps; n = w.engine.n; area = w.engine.area; limit = w.engine.limit }) (set-get_or w.engine.peers p fresh_peer)

    back : (put_back w p (refuse (peer_at w.engine p) (words_of w p) k)).world ≡ w
    back =
        unfold put_back in
        worlds engine (store_nothing w.arena (p * w.engine.area + 0)) (store_own w.map (p * (w.engine.area / 64)) (w.engine.area / 64) inside)
      where
        worlds : {d f : Engine} {a b m n : List ℕ} → d ≡ f → a ≡ b → m ≡ n
            → ◌≡◌ {A = World} (record { engine = d; arena = a; map = m }) (record { engine = f; arena = b; map = n })
        worlds x y z = λ i. record { engine = x i; arena = y i; map = z i }

called_leaves : (w : World) (p : ℕ) (a : LentCall) → Leaves w a (call_turn w p (call_of a))
unfolding call_turn
called_leaves w p a =
    branch (Leaves w a) (engine_fits w.engine) _ _
    (λ x. branch (Leaves w a) (lent_fits w.engine.n w.engine.area (length w.arena) (length w.map)) _ _
    (λ y. branch (Leaves w a) (ltb p w.engine.n) _ _ (λ z. own_leaves w p a y (ltb-true p w.engine.n z)) (λ z. refused_leaves w a bad_peer refl))
    (λ y. refused_leaves w a bad_lent refl))
    (λ x. refused_leaves w a bad_state refl)

pub refused_leaves_all : RefusedLeavesAll
unfolding RefusedLeavesAll turn_of
refused_leaves_all w q k e =
    let (number, world, reply) = called_leaves w q.peer q.call k e in
    (number, world, ap (store_at (buffer_of q.call) 0) reply ∙ store_nothing (buffer_of q.call) 0)

pub refused_set_up : RefusedSetUp
unfolding RefusedSetUp set_up
refused_set_up n area limit arena map k =
    branch (λ (x : Prepared). ready_says x.started.answer ≡ refused k → (k ≡ 1) × (x.map ≡ map))
    (numbers_fit n area limit && lent_fits n area arena (length map)) _ (not_started map)
    (λ x y. let z : ◌≡◌ {A = ℕ} 0 1 = cc in absurd (omega arith))
    (λ x y. (cc, refl))

-- a call in a good world is refused 4, or by its peer
good_refusal : (w : World) → Good w → (p : ℕ) (a : LentCall) (k : Refusal) → (call_turn w p (call_of a)).answer ≡ Answer.Refused k
    → (number k ≡ 4) ⊎ (among (refusals_of (call_of a)) (number k) ≡ true)
good_refusal w g p a k e = elim (dec_lt p w.engine.n) as (λ d. (number k ≡ 4) ⊎ (among (refusals_of (call_of a)) (number k) ≡ true)) [
  | yes h ↦ inr (step_refusing w.engine.area w.engine.limit (peer_at w.engine p) (words_of w p) (call_of a) k
      (sym (ap (λ (t : Turn). t.answer) (turn_own w g p h (call_of a)) ∙ (unfold put_back in refl)) ∙ e)).1
  | no h ↦ inl (let is : Answer.Refused bad_peer ≡ Answer.Refused k = sym (ap (λ (t : Turn). t.answer) (turn_none w g p (omega (arith, h)) (call_of a))) ∙ e in
      ap (λ (m : Refusal). number m) (let same : bad_peer ≡ k = cc in sym same))
]

-- 2 and 3 are in no peer's list
not_listed : (c : Call) → (among (refusals_of c) 2 ≡ false) × (among (refusals_of c) 3 ≡ false)
not_listed (post r) = (refl, refl)
not_listed (packet bs room) = (refl, refl)
not_listed (cancel i) = (refl, refl)
not_listed (report i) = (refl, refl)

pub never_bad_state : NeverBadState
unfolding NeverBadState turn_of
never_bad_state n area limit arena map ready before q k e = (
  λ x. ⊎_elim (λ y. omega arith) (λ y. clashing _ y (ap (among (refusals_of (call_of q.call))) x ∙ (not_listed (call_of q.call)).0)) refusal,
  λ x. ⊎_elim (λ y. omega arith) (λ y. clashing _ y (ap (among (refusals_of (call_of q.call))) x ∙ (not_listed (call_of q.call)).1)) refusal,
)
  where
    w : World
    w = world_after receiving (fresh_world n area limit arena map) before

    refusal : (number k ≡ 4) ⊎ (among (refusals_of (call_of q.call)) (number k) ≡ true)
    refusal = good_refusal w (good_after (fresh_world n area limit arena map) before (fresh_good n area limit arena map ready)) q.peer q.call k e
