-- A type's rule on flags is 01's, bit by bit: `flags_fit` passes exactly what `FlagRule` of specs/ByType.antt allows.
use Prim.Native.Nat.{ℕ, suc, ◌-◌, ◌^◌, ◌≤◌, ◌<◌, min}
use borrow.Author.Tests.{leb-true, eqb-true, eq-eqb, ne_eqb}
use lib.Bits.{bit_and}
use lib.Dec.{leb, eqb, lit<}
use mathlib.Core.Bool.{true, false, ◌||◌, false≢true, true≢false}
use mathlib.Core.Logic.{◌⊎◌, ◌↔◌, inl, inr, ⊎_elim, ⊎_map}
use mathlib.Core.Path.{◌≡◌, refl, sym, ap, ◌∙◌}
use native.Mathlib.Decide.{dec_lt, ℕ_discrete}
use native.Mathlib.Omega.{arith}
use Rattle.std.specs.Prelude.{Some}
use Rattle.laws.specs.Choose.{pick}
use Rattle.protocol.specs.ByType.{CtsFlags, CtsOrData, FlagRule, Rtm, RtmFlags, Tagged, bit_of}
use Rattle.protocol.specs.Flags.{flags_fit, has_flag}
use Rattle.protocol.specs.Optional.{Section, array, connid, cq_data, flag_of, flagged, is_among, options, raw_address}
use Rattle.protocol.specs.Sentences.{TypesAreTheTables}
use Rattle.protocol.specs.Rules.{Sound}
use Rattle.protocol.specs.Types.{admit, every_row, row_of}
use Rattle.protocol.specs.declared.table.TypeRow.{TypeRow}
use Rattle.laws.proofs.Choosing.{clashing, or_cases, or_left, or_right, pick_false, pick_true, tested}
use Rattle.protocol.proofs.NumberBits.{all_below, bit_of_past, bit_of_without, each_below, same_bits}
use Rattle.protocol.proofs.TableRule.{rows_say, sound}
use Rattle.protocol.proofs.TypeSentences.{request_in_words}
use Rattle.protocol.proofs.SentencesHold.{types_are_the_tables}

-- "must have .., may have .., and no other": each flag that the type may not have is set exactly if it must have it
abbrev ByBits : ℕ → ℕ → ℕ → Type 0
ByBits must may f = (i : ℕ) → bit_of may i ≡ 0 → bit_of f i ≡ bit_of must i

bit_by_bit : (r : TypeRow) (f : ℕ) → Sound r → (flags_fit r f ≡ true) ↔ ByBits r.must r.may f
unfolding flags_fit
bit_by_bit r f s = (
  λ t i m.
      let fit : f - bit_and f r.may ≡ r.must = eqb-true _ _ t in
      omega (arith, bit_of_without i f r.may, ap (λ (x : ℕ). bit_of x i) fit),
  λ b. eq-eqb _ _ (same_bits (f - bit_and f r.may) r.must (λ i. bits b i (ℕ_discrete (bit_of r.may i) 0))),
)
  where
    -- no flag is both one that it must and one that it may have
    apart : (i : ℕ) → min (bit_of r.must i) (bit_of r.may i) ≡ 0
    apart i =
        let none : r.must - bit_and r.must r.may ≡ r.must = omega (arith, s.apart) in
        omega (arith, ap (λ (x : ℕ). bit_of x i) none, bit_of_without i r.must r.may)

    bits : ByBits r.must r.may f → (i : ℕ) → Dec (bit_of r.may i ≡ 0) → bit_of (f - bit_and f r.may) i ≡ bit_of r.must i
    bits b i (yes m) = omega (arith, bit_of_without i f r.may, b i m)
    bits b i (no m) = omega (arith, bit_of_without i f r.may, apart i, m)

-- the bits of the flags that a type may have
rtm_free : (i : ℕ) → bit_of 0x8003 i ≡ 0 → (i ≡ 2) ⊎ ((i ≡ 3) ⊎ ((4 ≤ i) × (i ≡ 15 → ⊥)))
rtm_free i m = go (dec_lt 3 i) (ℕ_discrete i 2) (ℕ_discrete i 3) (ℕ_discrete i 0)
  where
    top : i ≡ 15 → ⊥
    top x = omega (arith, m, ap (bit_of 0x8003) x)

    go : Dec (3 < i) → Dec (i ≡ 2) → Dec (i ≡ 3) → Dec (i ≡ 0) → (i ≡ 2) ⊎ ((i ≡ 3) ⊎ ((4 ≤ i) × (i ≡ 15 → ⊥)))
    go (yes l) a b c = inr (inr (l, top))
    go (no l) (yes a) b c = inl a
    go (no l) (no a) (yes b) c = inr (inl b)
    go (no l) (no a) (no b) (yes c) = absurd (omega (arith, m, ap (bit_of 0x8003) c))
    go (no l) (no a) (no b) (no c) = let x : i ≡ 1 = omega (arith, l, a, b, c) in absurd (omega (arith, m, ap (bit_of 0x8003) x))

-- bit i of a number that has no bit but 15 and those below n
high_clear : (may n : ℕ) → may < 2 ^ 16 → (i : ℕ) → n ≤ i → (i ≡ 15 → ⊥)
    → all_below 15 (λ i. leb (suc i) n || eqb (bit_of may i) 0) ≡ true → bit_of may i ≡ 0
high_clear may n h i l x t = go (dec_lt i 15)
  where
    go : Dec (i < 15) → bit_of may i ≡ 0
    go (yes y) =
        ⊎_elim (λ z. absurd (omega (arith, leb-true (suc i) n z))) (eqb-true _ _)
        (or_cases (leb (suc i) n) _ (each_below 15 (λ i. leb (suc i) n || eqb (bit_of may i) 0) t i y))
    go (no y) = bit_of_past 16 may i h (omega (arith, x, y))

tagged_words : (k f : ℕ) → Tagged k → ByBits 0xc 0x8003 f ↔ RtmFlags k f
tagged_words k f t = (given, asked)
  where
    given : ByBits 0xc 0x8003 f → RtmFlags k f
    given b = (
      b 2 refl,
      (λ x. t, λ x. b 3 refl),
      λ i l x. b i (high_clear 0x8003 4 (lit< tt) i l x refl) ∙ bit_of_past 4 0xc i (lit< tt) l,
    )

    asked : RtmFlags k f → ByBits 0xc 0x8003 f
    asked w i m = at (rtm_free i m)
      where
        at : (i ≡ 2) ⊎ ((i ≡ 3) ⊎ ((4 ≤ i) × (i ≡ 15 → ⊥))) → bit_of f i ≡ bit_of 0xc i
        at (inl e) = ap (bit_of f) e ∙ w.0 ∙ sym (ap (bit_of 0xc) e)
        at (inr (inl e)) = ap (bit_of f) e ∙ w.1.1 t ∙ sym (ap (bit_of 0xc) e)
        at (inr (inr (a, b))) = w.2 i a b ∙ sym (bit_of_past 4 0xc i (lit< tt) a)

plain_words : (k f : ℕ) → (Tagged k → ⊥) → ByBits 0x4 0x8003 f ↔ RtmFlags k f
plain_words k f t = (given, asked)
  where
    given : ByBits 0x4 0x8003 f → RtmFlags k f
    given b = (
      b 2 refl,
      (λ x. absurd (omega (arith, b 3 refl)), λ x. absurd (t x)),
      λ i l x. b i (high_clear 0x8003 4 (lit< tt) i l x refl) ∙ bit_of_past 4 0x4 i (lit< tt) l,
    )

    asked : RtmFlags k f → ByBits 0x4 0x8003 f
    asked w i m = at (rtm_free i m)
      where
        unset : Dec (bit_of f 3 ≡ 1) → bit_of f 3 ≡ 0
        unset (yes x) = absurd (t (w.1.0 x))
        unset (no x) = omega (arith, x)

        at : (i ≡ 2) ⊎ ((i ≡ 3) ⊎ ((4 ≤ i) × (i ≡ 15 → ⊥))) → bit_of f i ≡ bit_of 0x4 i
        at (inl e) = ap (bit_of f) e ∙ w.0 ∙ sym (ap (bit_of 0x4) e)
        at (inr (inl e)) = ap (bit_of f) e ∙ unset (ℕ_discrete (bit_of f 3) 1) ∙ sym (ap (bit_of 0x4) e)
        at (inr (inr (a, b))) = w.2 i a b ∙ sym (bit_of_past 4 0x4 i (lit< tt) a)

cts_words : (f : ℕ) → ByBits 0x0 0x8000 f ↔ CtsFlags f
cts_words f = (
  λ b i x. b i (high_clear 0x8000 0 (lit< tt) i (omega arith) x refl) ∙ bit_of_past 0 0 i (lit< tt) (omega arith),
  λ w i m. w i (λ x. omega (arith, m, ap (bit_of 0x8000) x)) ∙ sym (bit_of_past 0 0 i (lit< tt) (omega arith)),
)

-- a type's rule, where it is an RTM and where it is not
rtm_rule : (k f : ℕ) → Rtm k → RtmFlags k f ↔ FlagRule k f
rtm_rule k f l = (λ w. (λ c. absurd (⊎_elim (λ x. omega arith) (λ x. omega arith) c), λ x. w), λ w. w.1 l)

cts_rule : (k f : ℕ) → CtsOrData k → CtsFlags f ↔ FlagRule k f
cts_rule k f c = (λ w. (λ x. w, λ l. absurd (⊎_elim (λ x. omega arith) (λ x. omega arith) c)), λ w. w.0 c)

through : {A B C : Type 0} → A ↔ B → B ↔ C → A ↔ C
through p q = (λ a. q.0 (p.0 a), λ c. p.1 (q.1 c))

is_tagged : (k : ℕ) → Tagged k → (eqb k 65 || (eqb k 67 || eqb k 69)) ≡ true
is_tagged k (inl e) = rw e
is_tagged k (inr (inl e)) = rw e
is_tagged k (inr (inr e)) = rw e

not_tagged : (k : ℕ) → (eqb k 65 || (eqb k 67 || eqb k 69)) ≡ false → Tagged k → ⊥
not_tagged k e t = true≢false (sym (is_tagged k t) ∙ e)

-- the rule of each row, by what 01 says of its type
module _ (f k : ℕ) (r : TypeRow) (e : row_of k ≡ Some r) where
  must_told : r.must ≡ pick (eqb k 3 || eqb k 4) 0x0 (pick (eqb k 65 || (eqb k 67 || eqb k 69)) 0xc 0x4)
  unfolding pick
  must_told = rows_say (λ k r. r.must) (λ k. pick (eqb k 3 || eqb k 4) 0x0 (pick (eqb k 65 || (eqb k 67 || eqb k 69)) 0xc 0x4)) refl k r e

  may_told : r.may ≡ pick (eqb k 3 || eqb k 4) 0x8000 0x8003
  unfolding pick
  may_told = rows_say (λ k r. r.may) (λ k. pick (eqb k 3 || eqb k 4) 0x8000 0x8003) refl k r e

  by_flags : (must may : ℕ) → r.must ≡ must → r.may ≡ may → ByBits must may f ↔ FlagRule k f → ByBits r.must r.may f ↔ FlagRule k f
  by_flags must may a b w = rw (a, b) w

  rtm : (eqb k 3 || eqb k 4) ≡ false → Rtm k
  unfolding TypesAreTheTables admit pick
  rtm x =
      let n = or_left (eqb k 3) (eqb k 4) x in
      let m = or_right (eqb k 3) (eqb k 4) x in
      ⊎_elim (λ y. clashing _ (eq-eqb k 3 y.0) n) (⊎_elim (λ y. clashing _ (eq-eqb k 4 y) m) (λ l. l))
      ((types_are_the_tables true k).0 (r, ap (admit every_row) e))

  rule_by_bits : ByBits r.must r.may f ↔ FlagRule k f
  rule_by_bits =
      ⊎_elim (λ x.
      by_flags 0x0 0x8000 (must_told ∙ pick_true _ _ x) (may_told ∙ pick_true _ _ x)
      (through (cts_words f) (cts_rule k f (⊎_map (eqb-true k 3) (eqb-true k 4) (or_cases (eqb k 3) (eqb k 4) x)))))
      (λ x.
      let may = may_told ∙ pick_false _ _ x in
      ⊎_elim (λ y.
      let t : Tagged k = ⊎_map (eqb-true k 65) (λ z. ⊎_map (eqb-true k 67) (eqb-true k 69) (or_cases _ _ z)) (or_cases _ _ y) in
      by_flags 0xc 0x8003 (must_told ∙ pick_false _ _ x ∙ pick_true _ _ y) may (through (tagged_words k f t) (rtm_rule k f (rtm x))))
      (λ y.
      by_flags 0x4 0x8003 (must_told ∙ pick_false _ _ x ∙ pick_false _ _ y) may (through (plain_words k f (not_tagged k y)) (rtm_rule k f (rtm x))))
      (tested (eqb k 65 || (eqb k 67 || eqb k 69))))
      (tested (eqb k 3 || eqb k 4))

pub flags_in_words : (k : ℕ) (r : TypeRow) (f : ℕ) → row_of k ≡ Some r → (flags_fit r f ≡ true) ↔ FlagRule k f
flags_in_words k r f e = through (bit_by_bit r f (sound k r e)) (rule_by_bits f k r e)

-- so an optional header is there exactly if its flag is set
pub flagged_by_flag : (f k : ℕ) (r : TypeRow) → row_of k ≡ Some r → FlagRule k f → (s : Section) → is_among s options ≡ true
    → flagged r f s ≡ has_flag f (flag_of s)
flagged_by_flag f k r e w s o = ⊎_elim (λ q. request q s o) (λ q. plain q (w.0 ((request_in_words k r e).0 q)) s o) (tested r.request)
  where
    plain : r.request ≡ false → CtsFlags f → (s : Section) → is_among s options ≡ true → flagged r f s ≡ has_flag f (flag_of s)
    plain q w array o = absurd (false≢true o)
    plain q w raw_address o = unfold flagged has_flag in rw q (sym (ne_eqb (bit_of f 0) 1 (λ x. omega (arith, w 0 (λ y. omega arith)))))
    plain q w cq_data o = unfold flagged has_flag in rw q (sym (ne_eqb (bit_of f 1) 1 (λ x. omega (arith, w 1 (λ y. omega arith)))))
    plain q w connid o = unfold flagged in refl

    request : r.request ≡ true → (s : Section) → is_among s options ≡ true → flagged r f s ≡ has_flag f (flag_of s)
    request q array o = absurd (false≢true o)
    request q raw_address o = unfold flagged in rw q
    request q cq_data o = unfold flagged in rw q
    request q connid o = unfold flagged in refl
