-- The set-up and every call are refused by the first of their checks that fails: the statements of specs/Checks.antt.
use Prim.Native.Nat.{ℕ, zero, suc, ◌*◌, ◌/◌, ◌%◌, ◌≤◌, ◌<◌}
use borrow.Author.Tests.{ltb-true, ltb-false, leb-false, eqb-false}
use lib.Dec.{leb, ltb, eqb}
use lib.ListN.{length, get_or, take}
use lib.Seq.{length-take-le, get_or-take}
use mathlib.Core.Bool.{Bool, true, false, ◌&&◌, true≢false, and-false}
use mathlib.Core.List.{List, [], ◌∷◌, map}
use mathlib.Core.Logic.{◌⊎◌, ◌↔◌, inl, inr, ⊎_elim}
use mathlib.Core.Path.{◌≡◌, refl, sym, ap, ◌∙◌, subst}
use native.Mathlib.Omega.{arith}
use Rattle.laws.specs.Choose.{pick}
use Rattle.peer.specs.Calls.{Call, peer_step}
use Rattle.peer.specs.CannotBe.{CannotBeIfAClauseIsBroken}
use Rattle.protocol.specs.Checks.{Said, gives, refused}
use Rattle.peer.specs.Checks.{checks_of}
use Rattle.peer.specs.Claims.{AreBytes}
use Rattle.peer.specs.Says.{Saying, said, say}
use Rattle.peer.specs.State.{fresh_peer, peer_fits, area_limit}
use Rattle.peer.specs.declared.types.Peer.{Peer}
use Rattle.engine.specs.Checks.{TurnFails, WithIds, Outside, SetUpFails, SetUpIsChecked, TurnsAreChecked, WrongLengths, cannot_be, checks_at, high_limit, long_area, low_limit, many_peers, no_peer, turn_refused_as, own, ready_says, short_area, uneven_area}
use Rattle.engine.specs.SetUp.{Prepared, all_peers_fit, engine_fits, lent_fits, numbers_fit, peer_at, peer_count, set_up}
use Rattle.engine.specs.Steps.{World, call_turn, peer_turn, put_back, words_of}
use Rattle.engine.proofs.AreaBits.{word_of}
use Rattle.laws.proofs.Choosing.{and_left, and_right, branch, tested}
use Rattle.laws.proofs.Comparing.{both_tests, eq_words, le_words}
use Rattle.peer.proofs.Refusals.AcceptOrRefuse.{step_checked}
use Rattle.peer.proofs.Slots.CannotBeLaws.{and_fails, cannot_be_if_a_clause_is_broken}
use Rattle.peer.proofs.Refusals.FirstLaws.{Gone, gone_as, gone_refused}
use Rattle.protocol.specs.Limits.{packet_limit}

-- ---- the numbers

module _ (n area limit : ℕ) where
  numbers_words : (numbers_fit n area limit ≡ true)
      ↔ ((1 ≤ n) × ((n ≤ peer_count) × ((64 ≤ area) × ((area ≤ area_limit) × ((area % 64 ≡ 0) × ((64 ≤ limit) × (limit ≤ packet_limit)))))))
  unfolding numbers_fit
  numbers_words =
      both_tests (le_words 1 n) (both_tests (le_words n peer_count) (both_tests (le_words 64 area) (both_tests (le_words area area_limit) (both_tests (eq_words (area % 64) 0)
      (both_tests (le_words 64 limit) (le_words limit packet_limit))))))

  few : numbers_fit n area limit ≡ true → n ≤ peer_count
  few e = (numbers_words.0 e).1.0

  whole : numbers_fit n area limit ≡ true → area % 64 ≡ 0
  whole e = (numbers_words.0 e).1.1.1.1.0

  within : numbers_fit n area limit ≡ true → Outside n area limit → ⊥
  within e (no_peer x) = omega (arith, (numbers_words.0 e).0)
  within e (many_peers x) = omega (arith, few e)
  within e (short_area x) = omega (arith, (numbers_words.0 e).1.1.0)
  within e (long_area x) = omega (arith, (numbers_words.0 e).1.1.1.0)
  within e (uneven_area x) = x (whole e)
  within e (low_limit x) = omega (arith, (numbers_words.0 e).1.1.1.1.1.0)
  within e (high_limit x) = omega (arith, (numbers_words.0 e).1.1.1.1.1.1)

  outside : numbers_fit n area limit ≡ false → Outside n area limit
  unfolding numbers_fit
  outside e =
      ⊎_elim (λ x. no_peer (leb-false 1 n x)) (λ e.
      ⊎_elim (λ x. many_peers (leb-false n peer_count x)) (λ e.
      ⊎_elim (λ x. short_area (leb-false 64 area x)) (λ e.
      ⊎_elim (λ x. long_area (leb-false area area_limit x)) (λ e.
      ⊎_elim (λ x. uneven_area (eqb-false (area % 64) 0 x)) (λ e.
      ⊎_elim (λ x. low_limit (leb-false 64 limit x)) (λ x. high_limit (leb-false limit packet_limit x))
      (and_fails (leb 64 limit) (leb limit packet_limit) e))
      (and_fails (eqb (area % 64) 0) (leb 64 limit && leb limit packet_limit) e))
      (and_fails (leb area area_limit) (eqb (area % 64) 0 && (leb 64 limit && leb limit packet_limit)) e))
      (and_fails (leb 64 area) (leb area area_limit && (eqb (area % 64) 0 && (leb 64 limit && leb limit packet_limit))) e))
      (and_fails (leb n peer_count) (leb 64 area && (leb area area_limit && (eqb (area % 64) 0 && (leb 64 limit && leb limit packet_limit)))) e))
      (and_fails (leb 1 n) (leb n peer_count && (leb 64 area && (leb area area_limit && (eqb (area % 64) 0 && (leb 64 limit && leb limit packet_limit))))) e)

  -- ---- the lengths

  -- of an area that is a multiple of 64
  map_words : area % 64 ≡ 0 → n * area / 64 ≡ n * (area / 64)
  map_words z = omega (arith, word_of n area 0 z)

  module _ (z : area % 64 ≡ 0) (arena map : ℕ) where
    right : lent_fits n area arena map ≡ true → WrongLengths n area arena map → ⊥
    unfolding lent_fits
    right e w =
        let (a, m) = (both_tests (eq_words arena (n * area)) (eq_words map (n * (area / 64)))).0 e in
        ⊎_elim (λ x. x a) (λ x. x (m ∙ sym (map_words z))) w

    wrong : lent_fits n area arena map ≡ false → WrongLengths n area arena map
    unfolding lent_fits
    wrong e =
        ⊎_elim (λ x. inl (eqb-false arena (n * area) x)) (λ x. inr (λ y. eqb-false map (n * (area / 64)) x (y ∙ map_words z)))
        (and_fails (eqb arena (n * area)) (eqb map (n * (area / 64))) e)

-- ---- set-up

module _ (n area limit arena : ℕ) (map : List ℕ) where
  setting : (t : Bool) → (numbers_fit n area limit && lent_fits n area arena (length map)) ≡ t
      → ((t ≡ true) × (SetUpFails n area limit arena (length map) → ⊥)) ⊎ ((t ≡ false) × SetUpFails n area limit arena (length map))
  setting true e =
      let x = and_left (numbers_fit n area limit) _ e in
      inl (
        refl,
        λ w. ⊎_elim (within n area limit x)
            (right n area limit (whole n area limit x) arena (length map) (and_right (numbers_fit n area limit) _ e)) w,
      )
  setting false e = inr (refl, go (tested (numbers_fit n area limit)))
    where
      go : (numbers_fit n area limit ≡ true) ⊎ (numbers_fit n area limit ≡ false) → SetUpFails n area limit arena (length map)
      go (inl x) =
          ⊎_elim (λ y. absurd (true≢false (sym x ∙ y))) (λ y. inr (wrong n area limit (whole n area limit x) arena (length map) y))
          (and_fails (numbers_fit n area limit) (lent_fits n area arena (length map)) e)
      go (inr x) = inl (outside n area limit x)

ready_or_refused : ◌≡◌ {A = Said (Unit {0})} (gives tt) (refused 1) → ⊥
ready_or_refused x = let z : ◌≡◌ {A = ℕ} 0 1 = cc in omega arith

pub set_up_is_checked : SetUpIsChecked
unfolding SetUpIsChecked set_up
set_up_is_checked n area limit arena map =
    branch R _ _ _
    (λ e. ⊎_elim (λ w. (
      (λ x. absurd (ready_or_refused x), λ x. absurd (w.1 x)),
      (λ x. w.1, λ x. refl),
    )) (λ w. absurd (true≢false w.0)) (setting n area limit arena map true e))
    (λ e. ⊎_elim (λ w. absurd (true≢false (sym w.0))) (λ w. (
      (λ x. w.1, λ x. refl),
      (λ x. absurd (ready_or_refused (sym x)), λ x. absurd (x w.1)),
    )) (setting n area limit arena map false e))
  where
    R : Prepared → Type 0
    R p =
        ((ready_says p.started.answer ≡ refused 1) ↔ SetUpFails n area limit arena (length map))
        × ((ready_says p.started.answer ≡ gives tt) ↔ (SetUpFails n area limit arena (length map) → ⊥))

-- ---- a call

-- a peer that cannot be
one_unfit : (area : ℕ) (ps : List Peer) → all_peers_fit area ps ≡ false → (j : ℕ) × (j < length ps) × (peer_fits area (get_or ps j fresh_peer) ≡ false)
one_unfit area [] e = absurd (true≢false e)
one_unfit area (p ∷ ps) e =
    ⊎_elim (λ x. (0, omega arith, x)) (λ x. let (j, l, y) = one_unfit area ps x in (suc j, omega arith, y))
    (and_fails (peer_fits area p) (all_peers_fit area ps) e)

unfit_one : (area : ℕ) (ps : List Peer) (j : ℕ) → j < length ps → peer_fits area (get_or ps j fresh_peer) ≡ false → all_peers_fit area ps ≡ false
unfit_one area [] j l e = absurd (omega arith)
unfit_one area (p ∷ ps) zero l e = ap (λ (t : Bool). t && all_peers_fit area ps) e
unfit_one area (p ∷ ps) (suc j) l e = ap (λ (t : Bool). peer_fits area p && t) (unfit_one area ps j (omega arith) e) ∙ and-false (peer_fits area p)

module _ (w : World) (p : ℕ) (c : Call) (held : WithIds w.engine) (b : AreBytes c) where
  abbrev n : ℕ
  n = w.engine.n

  abbrev area : ℕ
  area = w.engine.area

  abbrev limit : ℕ
  limit = w.engine.limit

  -- the peers below n
  abbrev peers : List Peer
  peers = take n w.engine.peers

  peers_length : numbers_fit n area limit ≡ true → length peers ≡ n
  peers_length x = length-take-le n w.engine.peers (omega (arith, held.eights.peers, few n area limit x))

  peer_there : (q : ℕ) → q < n → get_or peers q fresh_peer ≡ peer_at w.engine q
  peer_there q l = get_or-take n w.engine.peers q fresh_peer l

  cannot : engine_fits w.engine ≡ false → TurnFails w p cannot_be
  unfolding engine_fits CannotBeIfAClauseIsBroken
  cannot e = go (tested (numbers_fit n area limit))
    where
      go : (numbers_fit n area limit ≡ true) ⊎ (numbers_fit n area limit ≡ false) → TurnFails w p cannot_be
      go (inr x) = inl (outside n area limit x)
      go (inl x) =
          let rest : all_peers_fit area peers ≡ false =
          ⊎_elim (λ y. absurd (true≢false (sym x ∙ y))) (λ y. y) (and_fails (numbers_fit n area limit) (all_peers_fit area peers) e) in
          let (j, l, y) = one_unfit area peers rest in
          let below : j < n = omega (arith, peers_length x) in
          let (k, broken) = (cannot_be_if_a_clause_is_broken area (peer_at w.engine j)).0 (ap (peer_fits area) (sym (peer_there j below)) ∙ y) in
          inr (j, below, k, broken)

  module _ (fit : engine_fits w.engine ≡ true) where
    numbers : numbers_fit n area limit ≡ true
    unfolding engine_fits
    numbers = and_left (numbers_fit n area limit) (all_peers_fit area peers) fit

    peer_fits_lem : (q : ℕ) → q < n → peer_fits area (peer_at w.engine q) ≡ true
    unfolding engine_fits
    peer_fits_lem q l =
        ⊎_elim (λ x. x)
        (λ x.
        let unfit : all_peers_fit area peers ≡ false = unfit_one area peers q (omega (arith, peers_length numbers)) (ap (peer_fits area) (peer_there q l) ∙ x) in
        absurd (true≢false (sym (and_right (numbers_fit n area limit) (all_peers_fit area peers) fit) ∙ unfit)))
        (tested (peer_fits area (peer_at w.engine q)))

    can : TurnFails w p cannot_be → ⊥
    unfolding CannotBeIfAClauseIsBroken
    can (inl x) = within n area limit numbers x
    can (inr (q, l, k, x)) = true≢false (sym (peer_fits_lem q l) ∙ (cannot_be_if_a_clause_is_broken area (peer_at w.engine q)).1 (k, x))

    own_gone : p < n → Gone (TurnFails w p) turn_refused_as (map own (checks_of c)) (said (peer_step area limit (peer_at w.engine p) (words_of w p) c).answer)
    own_gone l =
        gone_as (TurnFails w p) turn_refused_as own (checks_of c) _
        (step_checked area limit (peer_at w.engine p) (words_of w p) c (peer_fits_lem p l) (held.eights.slots p l) (held.ids p l) b)

  -- "2, 3, 4, ..": by its tests, whether the state can be, the lent lengths are right, and the peer is below n
  abbrev turn_says : Bool → Bool → Bool → Saying
  turn_says false lent below = say Rattle.peer.specs.Says.refused (2 ∷ [])
  turn_says true false below = say Rattle.peer.specs.Says.refused (3 ∷ [])
  turn_says true true false = say Rattle.peer.specs.Says.refused (4 ∷ [])
  turn_says true true true = said (peer_step area limit (peer_at w.engine p) (words_of w p) c).answer

  turn_says_lem : (fits lent below : Bool) → engine_fits w.engine ≡ fits → lent_fits n area (length w.arena) (length w.map) ≡ lent → ltb p n ≡ below
      → said (call_turn w p c).answer ≡ turn_says fits lent below
  unfolding call_turn peer_turn put_back pick
  turn_says_lem false lent below x y z = simp (x, y, z)
  turn_says_lem true false false x y z = simp (x, y, z)
  turn_says_lem true false true x y z = simp (x, y, z)
  turn_says_lem true true false x y z = simp (x, y, z)
  turn_says_lem true true true x y z = simp (x, y, z)

  turn_gone : Gone (TurnFails w p) turn_refused_as (checks_at c) (said (call_turn w p c).answer)
  turn_gone = subst (Gone (TurnFails w p) turn_refused_as (checks_at c)) (sym (turn_says_lem _ _ _ refl refl refl)) (go _ _ _ refl refl refl)
    where
      go : (fits lent below : Bool) → engine_fits w.engine ≡ fits → lent_fits n area (length w.arena) (length w.map) ≡ lent → ltb p n ≡ below
          → Gone (TurnFails w p) turn_refused_as (checks_at c) (turn_says fits lent below)
      go false lent below x y z = inl (cannot x, refl)
      go true false below x y z = inr (can x, inl (wrong n area limit (whole n area limit (numbers x)) _ _ y, refl))
      go true true false x y z =
          inr (can x, inr (right n area limit (whole n area limit (numbers x)) _ _ y, inl (ltb-false p n z, refl)))
      go true true true x y z =
          inr (can x, inr (right n area limit (whole n area limit (numbers x)) _ _ y, inr (λ l. omega (arith, ltb-true p n z), own_gone x (ltb-true p n z))))

pub turns_are_checked : TurnsAreChecked
unfolding TurnsAreChecked
turns_are_checked w p c held b = gone_refused (TurnFails w p) turn_refused_as (checks_at c) (said (call_turn w p c).answer) (turn_gone w p c held b)
