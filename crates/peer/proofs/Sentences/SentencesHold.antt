-- The tests that engine and plain receiver share say what 01 says: the statements of specs/Sentences.antt but for those on offsets and on a packet's fields.
use Rattle.std.proofs.Common.{◌≡◌, ℕ, zero, suc, ◌+◌, ◌/◌, ◌^◌, ◌<◌, min, max, Bool, true, false, not, ◌&&◌, ◌||◌, eqb, leb, ◌≢◌, ◌⊎◌, ◌↔◌, List, [], ◌∷◌, get_or, sym, refl, ap, ◌∙◌, subst, ap₂, inl, inr, ⊎_elim, arith, ltb-true, le-ltb, lt-ltb, eq-eqb, eqb-true}
use Rattle.std.specs.Prelude.{Option, Some, None}
use borrow.Author.Tests.{eqb-false, not-true}
use lib.Bits.{bit_or, or_step, or_shr}
use mathlib.Core.Bool.{false≢true, or-true}
use mathlib.Core.Logic.{⊎_map}
use native.Mathlib.Decide.{dec_lt, ℕ_discrete}
use Rattle.laws.specs.Choose.{pick}
use Rattle.protocol.specs.Sentences.{bit_of}
use Rattle.protocol.specs.declared.table.Shape.{Shape}
use Rattle.protocol.specs.declared.table.Shape.TheVariants.{Cts, CtsData, Eager, LongCts, Medium}
use Rattle.peer.specs.Sentences.{AheadIsTheDistance, EagerIs64And65, EmptyOverlapsNothing, FoundIsTheLowestOpen, LongIs68And69, MediumIs66And67, NothingFoundIsNoneOpen, OpenUnder, OtherMessageDiffers, OverlapIsASharedByte, PlainFitsPlain, RtmIs64To69, SameMessageIsAllEqual, SlotsAreEight, TaggedFitsOutsideIgnore, UnfitIsNoneWaiting}
use Rattle.peer.specs.Incomings.{is_eager, is_long, is_medium, is_rtm}
use Rattle.peer.specs.Matching.{ahead, both_or_neither, fits, same_medium, same_message, same_outside}
use Rattle.peer.specs.PacketBytes.{type_number, type_of, type_said}
use Rattle.peer.specs.Plain.{Role, first_posted, idle, open_in, receiving, slot_entry, waiting}
use Rattle.peer.specs.State.{overlap}
use Rattle.peer.specs.declared.types.Inbound.{Inbound}
use Rattle.peer.specs.declared.types.Receive.{Receive}
use Rattle.laws.proofs.Choosing.{and_left, and_right, branch, clashing, or_cases, pick_false, pick_true, tested}
use Rattle.laws.proofs.Comparing.{both_tests, eq_words, le_words}
use Rattle.protocol.proofs.NumberBits.{same_bits}
use Rattle.peer.proofs.Plain.EntrySearch.{AtMost, foremost, most_each}

-- ---- ranges

pub slots_are_eight : SlotsAreEight
unfolding SlotsAreEight
slots_are_eight = refl

pub overlap_is_a_shared_byte : OverlapIsASharedByte
unfolding OverlapIsASharedByte overlap
overlap_is_a_shared_byte r s = (
  λ e.
      let l : max r.start s.start < min (r.start + r.capacity) (s.start + s.capacity) = ltb-true _ _ e in
      (max r.start s.start, (omega arith, omega arith), (omega arith, omega arith)),
  λ w. lt-ltb (max r.start s.start) (min (r.start + r.capacity) (s.start + s.capacity)) (omega arith),
)

pub empty_overlaps_nothing : EmptyOverlapsNothing
unfolding EmptyOverlapsNothing overlap
empty_overlaps_nothing r s e = (
  le-ltb (max r.start s.start) (min (r.start + r.capacity) (s.start + s.capacity)) (omega arith),
  le-ltb (max s.start r.start) (min (s.start + s.capacity) (r.start + r.capacity)) (omega arith),
)

-- ---- types

-- one of two type numbers
either : (n a b : ℕ) → ((eqb n a || eqb n b) ≡ true) ↔ ((n ≡ a) ⊎ (n ≡ b))
either n a b = (
  λ e. ⊎_map (eqb-true n a) (eqb-true n b) (or_cases (eqb n a) (eqb n b) e),
  ⊎_elim (λ x. ap (λ (t : Bool). t || eqb n b) (eq-eqb n a x)) (λ x. ap (λ (t : Bool). eqb n a || t) (eq-eqb n b x) ∙ or-true (eqb n a)),
)

eager_test : (s : Shape) (t : Bool) → is_eager s ≡ (eqb (type_number s t) 64 || eqb (type_number s t) 65)
unfolding pick
eager_test Cts t = refl
eager_test CtsData t = refl
eager_test Eager true = refl
eager_test Eager false = refl
eager_test Medium true = refl
eager_test Medium false = refl
eager_test LongCts true = refl
eager_test LongCts false = refl

medium_test : (s : Shape) (t : Bool) → is_medium s ≡ (eqb (type_number s t) 66 || eqb (type_number s t) 67)
unfolding pick
medium_test Cts t = refl
medium_test CtsData t = refl
medium_test Eager true = refl
medium_test Eager false = refl
medium_test Medium true = refl
medium_test Medium false = refl
medium_test LongCts true = refl
medium_test LongCts false = refl

long_test : (s : Shape) (t : Bool) → is_long s ≡ (eqb (type_number s t) 68 || eqb (type_number s t) 69)
unfolding pick
long_test Cts t = refl
long_test CtsData t = refl
long_test Eager true = refl
long_test Eager false = refl
long_test Medium true = refl
long_test Medium false = refl
long_test LongCts true = refl
long_test LongCts false = refl

rtm_test : (s : Shape) (t : Bool) → is_rtm s ≡ (leb 64 (type_number s t) && leb (type_number s t) 69)
unfolding pick
rtm_test Cts t = refl
rtm_test CtsData t = refl
rtm_test Eager true = refl
rtm_test Eager false = refl
rtm_test Medium true = refl
rtm_test Medium false = refl
rtm_test LongCts true = refl
rtm_test LongCts false = refl

-- a test that is the same as another
as_test : {a b : Bool} {P : Type 0} → a ≡ b → (b ≡ true) ↔ P → (a ≡ true) ↔ P
as_test e w = (λ x. w.0 (sym e ∙ x), λ p. e ∙ w.1 p)

pub eager_is_64_and_65 : EagerIs64And65
unfolding EagerIs64And65
eager_is_64_and_65 s t = as_test (eager_test s t) (either (type_number s t) 64 65)

pub medium_is_66_and_67 : MediumIs66And67
unfolding MediumIs66And67
medium_is_66_and_67 s t = as_test (medium_test s t) (either (type_number s t) 66 67)

pub long_is_68_and_69 : LongIs68And69
unfolding LongIs68And69
long_is_68_and_69 s t = as_test (long_test s t) (either (type_number s t) 68 69)

pub rtm_is_64_to_69 : RtmIs64To69
unfolding RtmIs64To69
rtm_is_64_to_69 s t = as_test (rtm_test s t) (both_tests (le_words 64 (type_number s t)) (le_words (type_number s t) 69))

-- ---- matching

pub plain_fits_plain : PlainFitsPlain
unfolding PlainFitsPlain fits
plain_fits_plain h r e =
    let p : fits h r ≡ not r.tagged = pick_false _ _ e in
    (λ t. not-true r.tagged (sym p ∙ t), λ x. p ∙ rw x)

-- bit k of two numbers, each with the bits of a third
or_bit : (a b k : ℕ) → bit_of (bit_or a b) k ≡ max (bit_of a k) (bit_of b k)
or_bit a b k = rw (or_shr a b k) (omega (arith, or_step (a / 2 ^ k) (b / 2 ^ k)))

same_outside_lem : (ignore a b : ℕ) → (same_outside ignore a b ≡ true) ↔ ((k : ℕ) → bit_of ignore k ≡ 0 → bit_of a k ≡ bit_of b k)
unfolding same_outside
same_outside_lem ignore a b = (
  λ e k z.
      let same : bit_or a ignore ≡ bit_or b ignore = eqb-true _ _ e in
      omega (arith, or_bit a ignore k, or_bit b ignore k, ap (λ (x : ℕ). bit_of x k) same),
  λ w. eq-eqb _ _ (same_bits (bit_or a ignore) (bit_or b ignore) (λ k. bits w k (ℕ_discrete (bit_of ignore k) 0))),
)
  where
    bits : ((k : ℕ) → bit_of ignore k ≡ 0 → bit_of a k ≡ bit_of b k) → (k : ℕ) → Dec (bit_of ignore k ≡ 0)
        → bit_of (bit_or a ignore) k ≡ bit_of (bit_or b ignore) k
    bits w k (yes z) = omega (arith, or_bit a ignore k, or_bit b ignore k, w k z)
    bits w k (no z) = omega (arith, or_bit a ignore k, or_bit b ignore k, z)

pub tagged_fits_outside_ignore : TaggedFitsOutsideIgnore
unfolding TaggedFitsOutsideIgnore fits
tagged_fits_outside_ignore h r e =
    let p : fits h r ≡ (r.tagged && same_outside r.ignore h.tag r.tag) = pick_true _ _ e in
    let own : (r.tagged ≡ true) ↔ (r.tagged ≡ true) = (λ t. t, λ t. t) in
    let w = both_tests own (same_outside_lem r.ignore h.tag r.tag) in
    (λ t. w.0 (sym p ∙ t), λ x. p ∙ w.1 x)

pub ahead_is_the_distance : AheadIsTheDistance
unfolding AheadIsTheDistance ahead
ahead_is_the_distance id next a b = (omega arith, omega arith, λ d l e. omega arith)

-- 14

-- the number of a medium type
medium_number : (s : Shape) (t : Bool) → is_medium s ≡ true → type_number s t ≡ pick t 67 66
medium_number Cts t e = absurd (false≢true e)
medium_number CtsData t e = absurd (false≢true e)
medium_number Eager t e = absurd (false≢true e)
medium_number Medium t e = refl
medium_number LongCts t e = absurd (false≢true e)

tagged_number : (t u : Bool) → both_or_neither t u ≡ eqb (pick t 67 66) (pick u 67 66)
unfolding pick
tagged_number true true = refl
tagged_number true false = refl
tagged_number false true = refl
tagged_number false false = refl

same_type : (s : Shape) (t : Bool) (s' : Shape) (t' : Bool)
    → ((is_medium s && (is_medium s' && both_or_neither t t')) ≡ true) ↔ (((type_number s t ≡ 66) ⊎ (type_number s t ≡ 67)) × (type_number s t ≡ type_number s' t'))
unfolding MediumIs66And67
same_type s t s' t' = (
  λ e.
      let a = and_left (is_medium s) _ e in
      let b = and_left (is_medium s') _ (and_right (is_medium s) _ e) in
      let c = and_right (is_medium s') _ (and_right (is_medium s) _ e) in
      ((medium_is_66_and_67 s t).0 a, medium_number s t a ∙ eqb-true _ _ (sym (tagged_number t t') ∙ c) ∙ sym (medium_number s' t' b)),
  λ w.
      let a = (medium_is_66_and_67 s t).1 w.0 in
      let b = (medium_is_66_and_67 s' t').1 (⊎_map (λ x. sym w.1 ∙ x) (λ x. sym w.1 ∙ x) w.0) in
      let c : ◌≡◌ {A = ℕ} (pick t 67 66) (pick t' 67 66) = sym (medium_number s t a) ∙ w.1 ∙ medium_number s' t' b in
      ap₂ ◌&&◌ a (ap₂ ◌&&◌ b (tagged_number t t' ∙ eq-eqb _ _ c)),
)

pub same_message_is_all_equal : SameMessageIsAllEqual
unfolding SameMessageIsAllEqual same_message same_medium
same_message_is_all_equal m h =
    let rest = both_tests (eq_words h.length m.length) (eq_words h.tag m.tag) in
    let w = both_tests (same_type h.shape h.tagged m.shape m.tagged) rest in
    (λ e. let x = w.0 e in (x.0.0, x.0.1, x.1.0, x.1.1), λ x. w.1 ((x.0, x.1), (x.2, x.3)))

pub other_message_differs : OtherMessageDiffers
unfolding OtherMessageDiffers SameMessageIsAllEqual
other_message_differs m h = (
  given (ℕ_discrete (type_said h) (type_of m)) (ℕ_discrete h.length m.length) (ℕ_discrete h.tag m.tag) (ℕ_discrete (type_said h) 66)
      (ℕ_discrete (type_said h) 67),
  λ w. ⊎_elim (λ x. absurd (asked w ((same_message_is_all_equal m h).0 x))) (λ x. x) (tested (same_message m h)),
)
  where
    R : Type 0
    R = (type_said h ≢ type_of m) ⊎ ((h.length ≢ m.length) ⊎ ((h.tag ≢ m.tag) ⊎ ((type_said h ≢ 66) × (type_said h ≢ 67))))

    S : Type 0
    S = ((type_said h ≡ 66) ⊎ (type_said h ≡ 67)) × (type_said h ≡ type_of m) × (h.length ≡ m.length) × (h.tag ≡ m.tag)

    given : Dec (type_said h ≡ type_of m) → Dec (h.length ≡ m.length) → Dec (h.tag ≡ m.tag) → Dec (type_said h ≡ 66) → Dec (type_said h ≡ 67)
        → same_message m h ≡ false → R
    given (no a) b c d e f = inl a
    given (yes a) (no b) c d e f = inr (inl b)
    given (yes a) (yes b) (no c) d e f = inr (inr (inl c))
    given (yes a) (yes b) (yes c) (yes d) e f = clashing (same_message m h) ((same_message_is_all_equal m h).1 (inl d, a, b, c)) f
    given (yes a) (yes b) (yes c) (no d) (yes e) f = clashing (same_message m h) ((same_message_is_all_equal m h).1 (inr e, a, b, c)) f
    given (yes a) (yes b) (yes c) (no d) (no e) f = inr (inr (inr (d, e)))

    asked : R → S → ⊥
    asked (inl x) s = x s.1
    asked (inr (inl x)) s = x s.2
    asked (inr (inr (inl x))) s = x s.3
    asked (inr (inr (inr x))) s = ⊎_elim x.0 x.1 s.0

-- ---- the open message under an id

-- what a search of the roles from place k on yields
abbrev Lowest : List Role → ℕ → ℕ → Inbound → Type 0
Lowest us id i o = OpenUnder us id i o × ((j : ℕ) (m : Inbound) → j < i → OpenUnder us id j m → ⊥)

abbrev Searched : List Role → ℕ → ℕ → Option (ℕ × Inbound) → Type 0
Searched us id k (Some (i, o)) = (j : ℕ) × (i ≡ k + j) × Lowest us id j o
Searched us id k None = (j : ℕ) (m : Inbound) → OpenUnder us id j m → ⊥

-- one role more, that is not open under the id
passed_over : (u : Role) (us : List Role) (id k : ℕ) (f : Option (ℕ × Inbound)) → ((m : Inbound) → OpenUnder (u ∷ us) id 0 m → ⊥) → Searched us id (suc k) f
    → Searched (u ∷ us) id k f
passed_over u us id k (Some (i, o)) ne (j, e, (w, least)) = (suc j, omega arith, (w, lower))
  where
    lower : (x : ℕ) (m : Inbound) → x < suc j → OpenUnder (u ∷ us) id x m → ⊥
    lower zero m l y = ne m y
    lower (suc x) m l y = least x m (omega arith) y
passed_over u us id k None ne rest = none_here
  where
    none_here : (x : ℕ) (m : Inbound) → OpenUnder (u ∷ us) id x m → ⊥
    none_here zero m y = ne m y
    none_here (suc x) m y = rest x m y

searched : (id k : ℕ) (us : List Role) → Searched us id k (open_in id k us)
unfolding open_in
searched id k [] = λ j m y. let z : ◌≡◌ {A = ℕ} 0 1 = cc y.0 in omega arith
searched id k (idle ∷ us) =
    passed_over idle us id k (open_in id (suc k) us) (λ m y. let z : ◌≡◌ {A = ℕ} 0 1 = cc y.0 in omega arith) (searched id (suc k) us)
searched id k (waiting r ∷ us) =
    passed_over (waiting r) us id k (open_in id (suc k) us) (λ m y. let z : ◌≡◌ {A = ℕ} 0 1 = cc y.0 in omega arith) (searched id (suc k) us)
searched id k (receiving o ∷ us) =
    branch (Searched (receiving o ∷ us) id k) (eqb o.message.id id) (Some (k, o)) (open_in id (suc k) us)
    (λ x. (0, omega arith, ((refl, eqb-true o.message.id id x), λ j m l. absurd (omega arith))))
    (λ x. passed_over (receiving o) us id k (open_in id (suc k) us) (other x) (searched id (suc k) us))
  where
    other : eqb o.message.id id ≡ false → (m : Inbound) → OpenUnder (receiving o ∷ us) id 0 m → ⊥
    other x m y =
        let same : o ≡ m = cc y.0 in
        eqb-false o.message.id id x (ap (λ (z : Inbound). z.message.id) same ∙ y.1)

module _ (us : List Role) (id : ℕ) where
  lowest_at : (i : ℕ) (o : Inbound) → open_in id 0 us ≡ Some (i, o) → Lowest us id i o
  lowest_at i o e =
      let (j, x, w) = subst (Searched us id 0) e (searched id 0 us) in
      let same : j ≡ i = omega arith in
      subst (λ (n : ℕ). Lowest us id n o) same w

  at_lowest : (f : Option (ℕ × Inbound)) → open_in id 0 us ≡ f → (i : ℕ) (o : Inbound) → Lowest us id i o → f ≡ Some (i, o)
  at_lowest (Some (j, m)) e i o w = go (lowest_at j m e) (dec_lt i j) (dec_lt j i)
    where
      go : Lowest us id j m → Dec (i < j) → Dec (j < i) → ◌≡◌ {A = Option (ℕ × Inbound)} (Some (j, m)) (Some (i, o))
      go v (yes x) y = absurd (v.1 i o x w.0)
      go v (no x) (yes y) = absurd (w.1 j m y v.0)
      go v (no x) (no y) =
          let place : j ≡ i = omega (arith, x, y) in
          let role : receiving m ≡ receiving o = sym v.0.0 ∙ ap (λ (n : ℕ). get_or us n idle) place ∙ w.0.0 in
          let same : m ≡ o = cc in
          ap₂ (λ (x : ℕ) (y : Inbound). Some (x, y)) place same
  at_lowest None e i o w = absurd (subst (Searched us id 0) e (searched id 0 us) i o w.0)

pub found_is_the_lowest_open : FoundIsTheLowestOpen
unfolding FoundIsTheLowestOpen
found_is_the_lowest_open us id i o = (lowest_at us id i o, at_lowest us id (open_in id 0 us) refl i o)

pub nothing_found_is_none_open : NothingFoundIsNoneOpen
unfolding NothingFoundIsNoneOpen
nothing_found_is_none_open us id = (λ e. subst (Searched us id 0) e (searched id 0 us), λ w. none_at (open_in id 0 us) (searched id 0 us) w)
  where
    none_at : (f : Option (ℕ × Inbound)) → Searched us id 0 f → ((j : ℕ) (m : Inbound) → OpenUnder us id j m → ⊥) → f ≡ None
    none_at (Some (i, o)) (j, e, (x, least)) w = absurd (w j o x)
    none_at None s w = refl

-- ---- the receive that a packet fits

pub unfit_is_none_waiting : UnfitIsNoneWaiting
unfolding UnfitIsNoneWaiting
unfit_is_none_waiting h es = (
  λ e j r w t. subst (AtMost (slot_entry es j).serial) e (most_each h 0 None es j r w t),
  λ w. go (first_posted h 0 None es) refl w,
)
  where
    go : (f : Option (ℕ × Receive × ℕ)) → first_posted h 0 None es ≡ f → ((j : ℕ) (r : Receive) → (slot_entry es j).role ≡ waiting r → fits h r ≡ true → ⊥)
        → f ≡ None
    go None e w = refl
    go (Some (i, r, serial)) e w = let m = foremost h es i r serial e in absurd (w i r m.waits m.fit)
