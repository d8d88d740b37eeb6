-- A run with the state's words around it.
use Prim.Native.Nat.{ℕ, ◌+◌, ◌*◌, ◌≤◌, ◌<◌}
use lib.ListN.{length, length-replicate, get_or-eq_default}
use mathlib.Core.Bool.{true}
use mathlib.Core.List.{List}
use mathlib.Core.Path.{◌≡◌, sym, ap, ◌∙◌}
use native.Mathlib.Decide.{dec_lt, ℕ_discrete}
use native.Mathlib.Omega.{arith}
use Rattle.std.specs.Prelude.{None, Some}
use Rattle.laws.proofs.Choosing.{clashing, pick_either, pick_false, pick_true}
use Rattle.peer.specs.State.{free_slot, fresh_peer, slot_count}
use Rattle.peer.specs.declared.types.Peer.{Peer}
use Rattle.engine.specs.Leaves.{world}
use Rattle.engine.specs.SetUp.{engine_of, peer_at, peer_count}
use Rattle.state_words.specs.Flat.{tabulate}
use Rattle.state_words.specs.Loading.{engine_in, is_state, loaded, peer_in, state_after, state_of}
use Rattle.state_words.specs.Saving.{engine_words, peer_size, state_size}
use Rattle.engine.specs.declared.types.Engine.{Engine}
use Rattle.state_words.proofs.Reading.{loaded_none, loaded_some}
use Rattle.state_words.proofs.FlatLaws.{get_d_tabulate, length_tabulate}
use Rattle.state_words.proofs.Sizes.{not_state}
use Rattle.packed.specs.Running.{Kept, ran_from, run_of}
use Rattle.engine.specs.Sentences.{Eights}
use Rattle.guarantees.specs.Outputs.{RunLeaves}

-- ---- the engine of a state's words

-- a peer that is not there is a fresh one
fresh_slots : length fresh_peer.slots ≡ slot_count
unfolding fresh_peer
fresh_slots = length-replicate slot_count free_slot

read_eights : (w : List ℕ) → Eights (engine_in w)
unfolding engine_in peer_in
read_eights w =
    record { peers = length_tabulate _ peer_count; slots = λ p h. slots p (dec_lt p peer_count) }
  where
    slots : (p : ℕ) → Dec (p < peer_count) → length (peer_at (engine_in w) p).slots ≡ slot_count
    slots p (yes l) = ap (λ (q : Peer). length q.slots) (get_d_tabulate _ peer_count p fresh_peer l) ∙ length_tabulate _ slot_count
    slots p (no l) =
        let f : ℕ → Peer = λ q. peer_in w (3 + peer_size * q) in
        let out : length (tabulate f peer_count) ≤ p = omega (arith, l, length_tabulate f peer_count) in
        ap (λ (q : Peer). length q.slots) (get_or-eq_default (tabulate f peer_count) fresh_peer out) ∙ fresh_slots

none_eights : Eights (engine_of 0 0 0)
none_eights = record { peers = length-replicate peer_count fresh_peer; slots = λ p h. absurd (omega arith) }

pub state_eights : (w : List ℕ) → Eights (state_of w)
unfolding state_of
state_eights w = pick_either Eights (is_state w) (read_eights w) none_eights

pub loaded_eights : (w : List ℕ) (e : Engine) → loaded w ≡ Some e → Eights e
loaded_eights w e h = rw (loaded_some w e h).1 at (state_eights w)

pub state_length : (w : List ℕ) → is_state w ≡ true → length w ≡ state_size
state_length w e = elim (ℕ_discrete (length w) state_size) as (λ d. length w ≡ state_size) [
  | yes h ↦ h
  | no h ↦ clashing (is_state w) e (not_state w h)
]

-- ---- a run

-- what a run leaves, with these words for the state
abbrev pub keep_with : List ℕ → RunLeaves → Kept
keep_with s l =
    record { taken = l.taken; state = s; arena = l.world.arena; map = l.world.map; replies = l.replies; answers = l.output }

module _ (state arena map calls bytes replies answers : List ℕ) (e : Engine) (x : RunLeaves) (r : x ≡ ran_from (world e arena map) calls bytes replies answers) where
  ran : state_of state ≡ e → x ≡ ran_from (world (state_of state) arena map) calls bytes replies answers
  ran h = rw h r

  pub run_saved : loaded state ≡ Some e → keep_with (engine_words x.world.engine) x ≡ run_of state arena map calls bytes replies answers
  unfolding run_of state_after
  run_saved h =
      let (whole, is) = loaded_some state e h in
      ap (λ (x : RunLeaves). keep_with (engine_words x.world.engine) x) (ran is)
      ∙ ap (λ (w : List ℕ). keep_with w (ran_from (world (state_of state) arena map) calls bytes replies answers)) (sym (pick_true _ _ whole))

  pub run_left : loaded state ≡ None → e ≡ engine_of 0 0 0 → keep_with state x ≡ run_of state arena map calls bytes replies answers
  unfolding run_of state_after
  run_left h none =
      let (other, is) = loaded_none state h in
      ap (keep_with state) (ran (is ∙ sym none))
      ∙ ap (λ (w : List ℕ). keep_with w (ran_from (world (state_of state) arena map) calls bytes replies answers)) (sym (pick_false _ _ other))
