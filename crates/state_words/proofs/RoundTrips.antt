-- Saving and loading undo each other: what specs/RoundTrip.antt states.
use Prim.Native.Nat.{ℕ, zero, suc, ◌+◌, ◌*◌, ◌/◌, ◌≤◌, ◌<◌, ◌%◌, ◌^◌}
use borrow.Author.Tests.{eq-eqb, ne_eqb}
use lib.Dec.{eqb}
use lib.ListN.{length, get_or, get_or-append}
use lib.Seq.{get_or-append-add}
use mathlib.Core.Bool.{Bool, true, false}
use mathlib.Core.List.{List, [], ◌∷◌}
use mathlib.Core.Path.{◌≡◌, refl, sym, ap, ap₂, ◌∙◌}
use native.Mathlib.Nat.{add_assoc, add-zero, mul-zero, mul-suc, mul-le-mul_left, mod-eq_of_lt}
use native.Mathlib.Omega.{arith}
use Rattle.std.specs.Prelude.{Option, Some, None}
use Rattle.laws.specs.Choose.{pick}
use Rattle.protocol.specs.declared.table.Shape.{Shape}
use Rattle.protocol.specs.declared.table.Shape.TheVariants.{Cts, CtsData, Eager, LongCts, Medium}
use Rattle.peer.specs.State.{free_slot, fresh_peer, phase_at, slot_count, slot_with}
use Rattle.peer.specs.declared.types.Inbound.{Inbound}
use Rattle.peer.specs.declared.types.Peer.{Peer}
use Rattle.peer.specs.declared.types.Phase.{Phase}
use Rattle.peer.specs.declared.types.Slot.{Slot}
use Rattle.engine.specs.SetUp.{engine_of, peer_at, peer_count}
use Rattle.engine.specs.declared.types.Engine.{Engine}
use Rattle.state_words.specs.Flat.{flat, same}
use Rattle.state_words.specs.Loading.{engine_in, is_state, loaded, peer_in, phase_in, shape_in, state_of}
use Rattle.state_words.specs.RoundTrip.{Held, LoadedAgain, LoadedThenSaved, MessageHeld, PeerHeld, SavedAgain, SavedThenLoaded}
use Rattle.words.specs.Presence.{bool_bit, option_bit, option_value}
use Rattle.state_words.specs.Saving.{engine_words, peer_size, peer_words, phase_words, shape_number, slot_size, slot_words, sort_word}
use Rattle.laws.proofs.Choosing.{pick_true}
use Rattle.state_words.proofs.FlatLaws.{length_flat, tabulate_is, same_refl, same_true}
use Rattle.state_words.proofs.Reading.{loaded_some}
use Rattle.state_words.proofs.Sizes.{length_peer, length_slot}

pub saved_again : SavedAgain
unfolding SavedAgain is_state state_of
saved_again w e = ap engine_words (pick_true (engine_in w) (engine_of 0 0 0) e) ∙ sym (same_true w (engine_words (engine_in w)) e)

pub loaded_then_saved : LoadedThenSaved
unfolding LoadedThenSaved SavedAgain
loaded_then_saved w e h = let t = loaded_some w e h in ap engine_words (sym t.1) ∙ saved_again w t.0

-- ---- the words s stand in w from `at` on

abbrev Stand : List ℕ → ℕ → List ℕ → Type 0
Stand w at s = (j : ℕ) → j < length s → get_or w (at + j) 0 ≡ get_or s j 0

first_word : (w : List ℕ) (at : ℕ) (s : List ℕ) → 0 < length s → Stand w at s → get_or w at 0 ≡ get_or s 0 0
first_word w at s h f = ap (λ (k : ℕ). get_or w k 0) (sym (add-zero at)) ∙ f 0 h

stand_rest : (w : List ℕ) (at x : ℕ) (s : List ℕ) → Stand w at (x ∷ s) → Stand w (at + 1) s
stand_rest w at x s f j h = ap (λ (k : ℕ). get_or w k 0) (omega arith) ∙ f (suc j) (omega arith)

-- those of each element, which has c of them
get_d_flat : {A : Type 0} (f : A → List ℕ) (c : ℕ) (l : List A) (d : A) → ((i : ℕ) → i < length l → length (f (get_or l i d)) ≡ c) → (i j : ℕ) → i < length l → j < c
    → get_or (flat f l) (c * i + j) 0 ≡ get_or (f (get_or l i d)) j 0
unfolding flat
get_d_flat f c [] d each i j h k = absurd (omega arith)
get_d_flat f c (x ∷ l) d each zero j h k =
    let e : c * 0 + j ≡ j = omega (arith, mul-zero c) in
    rw e (get_or-append (f x) (flat f l) 0 j (omega (arith, each 0 (omega arith))))
get_d_flat f c (x ∷ l) d each (suc i) j h k =
    let e : c * suc i + j ≡ length (f x) + (c * i + j) = omega (arith, each 0 (omega arith), mul-suc c i) in
    rw (e, get_or-append-add (f x) (flat f l) (c * i + j) 0) (get_d_flat f c l d (λ n q. each (suc n) (omega arith)) i j (omega arith) k)

stand_each : {A : Type 0} (f : A → List ℕ) (c : ℕ) (l : List A) (d : A) → ((i : ℕ) → i < length l → length (f (get_or l i d)) ≡ c)
    → (w : List ℕ) (at : ℕ) → Stand w at (flat f l) → (i : ℕ) → i < length l → Stand w (at + c * i) (f (get_or l i d))
stand_each f c l d each w at s i h j k =
    let n : j < c = omega (arith, each i h) in
    let most : c * suc i ≤ c * length l = mul-le-mul_left c (omega arith) in
    let inside : c * i + j < length (flat f l) = omega (arith, length_flat f c l d each, most, mul-suc c i) in
    ap (λ (m : ℕ). get_or w m 0) (add_assoc at (c * i) j) ∙ s (c * i + j) inside ∙ get_d_flat f c l d each i j h n

-- ---- what is read where they stand

bit_read : (b : Bool) → eqb (bool_bit b) 1 ≡ b
bit_read true = refl
bit_read false = refl

cq_read : (d : Option ℕ) → pick (eqb (option_bit d) 1) (Some (option_value d)) None ≡ d
unfolding pick
cq_read None = refl
cq_read (Some d) = refl

sort_shape : (s : Shape) (t : Bool) → shape_in (sort_word s t / 2) ≡ s
unfolding pick
sort_shape Cts true = refl
sort_shape Cts false = refl
sort_shape CtsData true = refl
sort_shape CtsData false = refl
sort_shape Eager true = refl
sort_shape Eager false = refl
sort_shape Medium true = refl
sort_shape Medium false = refl
sort_shape LongCts true = refl
sort_shape LongCts false = refl

sort_tagged : (s : Shape) (t : Bool) → eqb (sort_word s t % 2) 1 ≡ t
sort_tagged s true = eq-eqb ((2 * shape_number s + 1) % 2) 1 (omega arith)
sort_tagged s false = ne_eqb ((2 * shape_number s + 0) % 2) 1 (λ x. omega arith)

phase_read : (w : List ℕ) (at : ℕ) (f : Phase) → ((o : Inbound) → f ≡ Phase.Open o → MessageHeld o.message) → Stand w at (phase_words f) → phase_in w at ≡ f
unfolding phase_in phase_words pick
phase_read w at Phase.Free held s = rw (first_word w at (phase_words Phase.Free) (omega arith) s)
phase_read w at (Phase.Posted r age) held s =
    rw (first_word w at (phase_words (Phase.Posted r age)) (omega arith) s, s 1 (omega arith), s 2 (omega arith), s 3 (omega arith), s 4 (omega arith), s 5 (omega arith), s 6 (omega arith), bit_read)
phase_read w at (Phase.Open o) held s =
    let m = held o refl in
    rw (first_word w at (phase_words (Phase.Open o)) (omega arith) s, s 1 (omega arith), s 2 (omega arith), s 3 (omega arith), s 4 (omega arith), s 5 (omega arith), bit_read)
    (rw (s 7 (omega arith), s 8 (omega arith), s 9 (omega arith), s 10 (omega arith), s 11 (omega arith), s 12 (omega arith), s 13 (omega arith))
    (rw (s 14 (omega arith), s 15 (omega arith), cq_read, sort_shape, sort_tagged, mod-eq_of_lt m.id, mod-eq_of_lt m.send_id, mod-eq_of_lt m.credit_request)))

module _ (w : List ℕ) (at : ℕ) (p : Peer) (held : PeerHeld p) (s : Stand w at (peer_words p)) where
  slot_read : (i : ℕ) → i < slot_count → phase_in w (at + 1 + slot_size * i) ≡ phase_at p.slots i
  slot_read i h =
      let there = stand_each slot_words slot_size p.slots free_slot (λ n q. length_slot (get_or p.slots n free_slot)) w (at + 1) (stand_rest w at _ (flat slot_words p.slots) s) in
      phase_read w (at + 1 + slot_size * i) (phase_at p.slots i) (held.messages i) (there i (omega (arith, held.slots)))

  peer_read : peer_in w at ≡ p
  unfolding peer_in
  peer_read =
      ap₂ (λ (n : ℕ) (l : List Slot). record { next = n; slots = l })
      (ap (λ (n : ℕ). n % 2 ^ 32) (first_word w at (peer_words p) (omega arith) s) ∙ mod-eq_of_lt held.next)
      (tabulate_is (λ i. slot_with (phase_in w (at + 1 + slot_size * i))) slot_count p.slots free_slot held.slots (λ i h. ap slot_with (slot_read i h)))

module _ (e : Engine) (held : Held e) where
  peers_stand : Stand (engine_words e) 3 (flat peer_words e.peers)
  unfolding engine_words
  peers_stand j h = let behind : 3 + j ≡ suc (suc (suc j)) = omega arith in rw behind

  each_read : (p : ℕ) → p < peer_count → peer_in (engine_words e) (3 + peer_size * p) ≡ peer_at e p
  each_read p h =
      let size : (i : ℕ) → i < length e.peers → length (peer_words (peer_at e i)) ≡ peer_size = λ i q. length_peer (peer_at e i) (held.each i (omega (arith, held.peers))).slots in
      peer_read (engine_words e) (3 + peer_size * p) (peer_at e p) (held.each p h)
      (stand_each peer_words peer_size e.peers fresh_peer size (engine_words e) 3 peers_stand p (omega (arith, held.peers)))

  engine_read : engine_in (engine_words e) ≡ e
  unfolding engine_in engine_words
  engine_read =
      ap (λ (l : List Peer). record { peers = l; n = e.n; area = e.area; limit = e.limit })
      (tabulate_is (λ p. peer_in (engine_words e) (3 + peer_size * p)) peer_count e.peers fresh_peer held.peers each_read)

-- the words of such an engine are a state's
pub saved_is_state : (e : Engine) → Held e → is_state (engine_words e) ≡ true
unfolding is_state
saved_is_state e held = let w = engine_words e in ap (λ (x : Engine). same w (engine_words x)) (engine_read e held) ∙ same_refl w

pub loaded_again : LoadedAgain
unfolding LoadedAgain state_of
loaded_again e held = pick_true (engine_in (engine_words e)) (engine_of 0 0 0) (saved_is_state e held) ∙ engine_read e held

pub saved_then_loaded : SavedThenLoaded
unfolding SavedThenLoaded loaded
saved_then_loaded e held = pick_true (Some (engine_in (engine_words e))) None (saved_is_state e held) ∙ ap Some (engine_read e held)
