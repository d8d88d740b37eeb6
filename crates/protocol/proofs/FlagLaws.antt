-- Flags as bits: those of a written packet are its optional headers', and flags that fit a type are those it must have and these bits.
use Prim.Native.Nat.{ℕ, zero, suc, ◌+◌, ◌-◌, ◌*◌, ◌/◌, ◌%◌, ◌^◌, ◌≤◌, ◌<◌}
use borrow.Author.Tests.{eqb-true, eq-eqb, ne_eqb, not-true}
use lib.Bits.{bit_and, and_le_l, and_mask, and_block, and_high}
use lib.Dec.{eqb, lit<, lit≤}
use mathlib.Core.Bool.{Bool, true, false, not, ◌&&◌, ◌||◌, or-true}
use mathlib.Core.List.{List, [], ◌∷◌, ◌++◌}
use mathlib.Core.Logic.{⊎_elim}
use mathlib.Core.Path.{◌≡◌, refl, sym, ap, ◌∙◌}
use native.Mathlib.Nat.{mod-lt}
use native.Mathlib.Omega.{arith}
use Rattle.std.specs.Prelude.{is_some}
use Rattle.laws.specs.Choose.{pick}
use Rattle.protocol.specs.Arrays.{has_array}
use Rattle.protocol.specs.Flags.{connid_flag, flags_fit, has_flag}
use Rattle.protocol.specs.Layout.{multiuse, place_of}
use Rattle.protocol.specs.Optional.{Section, array, connid, cq_data, flag_sum, flagged, flags_of, flags_taken, is_among, may_have, options_fit, raw_address, same_section, sections_of}
use Rattle.protocol.specs.Rules.{Sound}
use Rattle.protocol.specs.declared.table.TypeRow.{TypeRow}
use Rattle.protocol.specs.declared.types.Header.{Header}
use Rattle.laws.proofs.Choosing.{and_left, and_right, pick_false, pick_true, tested}

abbrev bit : Bool → ℕ
bit true = 1
bit false = 0

bit_small : (t : Bool) → bit t ≤ 1
bit_small true = lit≤ tt
bit_small false = lit≤ tt

flag_of_bit : (f k : ℕ) (t : Bool) → f / k % 2 ≡ bit t → has_flag f k ≡ t
unfolding has_flag
flag_of_bit f k true e = rw e
flag_of_bit f k false e = rw e

bit_of_flag : (f k : ℕ) → bit (has_flag f k) ≡ f / k % 2
unfolding has_flag
bit_of_flag f k = go (f / k % 2) (mod-lt (f / k) (lit< tt))
  where
    go : (n : ℕ) → n < 2 → bit (eqb n 1) ≡ n
    go zero h = refl
    go (suc zero) h = refl
    go (suc (suc n)) h = absurd (omega arith)

-- the flags of the optional headers
pick_bit : (t : Bool) (n : ℕ) → pick t n 0 ≡ n * bit t
unfolding pick
pick_bit true n = omega arith
pick_bit false n = omega arith

bits_small : (h : Header) → (bit h.raw_address ≤ 1) × (bit (is_some h.cq_data) ≤ 1) × (bit (is_some h.connid) ≤ 1)
bits_small h = (bit_small h.raw_address, bit_small (is_some h.cq_data), bit_small (is_some h.connid))

-- the flags that a packet is written with
flags_as_bits : (r : TypeRow) (h : Header)
    → flags_of r h ≡ r.must + bit h.raw_address + 2 * bit (is_some h.cq_data) + 32768 * bit (is_some h.connid)
unfolding flags_of
flags_as_bits r h = rw (pick_bit h.raw_address 1, pick_bit (is_some h.cq_data) 2, pick_bit (is_some h.connid) 32768) (omega arith)

pub flags_small : (r : TypeRow) (h : Header) → Sound r → flags_of r h < 2 ^ 16
flags_small r h s = omega (arith, flags_as_bits r h, s.small, bits_small h)

-- the flags that a type may have: all of them in a request, the connid's alone in any other
no_flag : (a : Bool) (ss : List Section) → flag_sum (pick a (array ∷ []) [] ++ ss) ≡ flag_sum ss
unfolding pick
no_flag true ss = omega arith
no_flag false ss = refl

taken : (r : TypeRow) → Sound r → flags_taken r ≡ pick r.request 0x8003 0x8000
unfolding flags_taken sections_of pick
taken r s =
    ap (λ (n : ℕ). n + pick (eqb (place_of r multiuse) 0) 0 connid_flag) (no_flag (has_array r) _)
    ∙ ⊎_elim (λ m. let c = ne_eqb r.connid 0 (λ z. omega (arith, m.1)) in rw (eq-eqb _ 0 m.0, c) (⊎_elim (λ e. rw e) (λ e. rw e) (tested r.request)))
    (λ m. rw (ne_eqb _ 0 m.0, eq-eqb r.connid 0 m.1) (⊎_elim (λ e. rw e) (λ e. rw e) (tested r.request)))
    s.connid_place

module _ (r : TypeRow) (s : Sound r) where
  may_request : r.request ≡ true → r.may ≡ 0x8003
  may_request e = s.may ∙ taken r s ∙ pick_true _ _ e

  may_other : r.request ≡ false → r.may ≡ 0x8000
  may_other e = s.may ∙ taken r s ∙ pick_false _ _ e

  -- bits 0 and 1 and bit 15 of a number
  and_options : (f : ℕ) → bit_and f 0x8003 ≡ f / 32768 % 2 * 32768 + f % 32768 % 4
  and_options f =
      let split : f / 32768 * 32768 + f % 32768 ≡ f = omega arith in
      let b = and_block 15 (f / 32768) 1 (f % 32768) 3 (mod-lt f (lit< tt)) (lit< tt) in
      rw (split, and_mask (f / 32768) 1, and_mask (f % 32768) 2) at b

  -- a request's own flags are none of its optional headers'
  must_clear : r.request ≡ true → r.must % 4 ≡ 0
  must_clear e =
      let a = sym (and_options r.must) ∙ ap (bit_and r.must) (sym (may_request e)) ∙ s.apart in
      omega (arith, a, s.small)

-- ---- the optional headers that a type may have

-- the sections of a row that has an array, or not, is a request, or not, and has a connid among them, or not
abbrev pub listed : Bool → Bool → Bool → List Section
listed a q z = pick a (array ∷ []) [] ++ (pick q (raw_address ∷ cq_data ∷ []) [] ++ pick z [] (connid ∷ []))

-- raw address and CQ data in a request, and a connid always
past_array : (a q z : Bool) (s : Section) → same_section s array ≡ false → is_among s (listed a q z) ≡ is_among s (listed false q z)
unfolding pick
past_array true q z s e = rw e
past_array false q z s e = refl

raw_listed : (q z : Bool) → (is_among raw_address (listed false q z) || false) ≡ q
unfolding pick
raw_listed true z = refl
raw_listed false true = refl
raw_listed false false = refl

cq_listed : (q z : Bool) → (is_among cq_data (listed false q z) || false) ≡ q
unfolding pick
cq_listed true z = refl
cq_listed false true = refl
cq_listed false false = refl

connid_listed : (q z t : Bool) → (z ≡ true → t ≡ true) → (is_among connid (listed false q z) || t) ≡ true
unfolding pick
connid_listed true true t x = x refl
connid_listed true false t x = refl
connid_listed false true t x = x refl
connid_listed false false t x = refl

module _ (r : TypeRow) (h : Header) (s : Sound r) where
  connid_allowed : may_have r connid ≡ true
  unfolding may_have sections_of
  connid_allowed =
      ap (λ (t : Bool). t || not (eqb (place_of r multiuse) 0)) (past_array (has_array r) r.request (eqb r.connid 0) connid refl) ∙
      connid_listed r.request (eqb r.connid 0) _ (λ z. ⊎_elim (λ m. absurd (omega (arith, m.1, eqb-true r.connid 0 z))) (λ m. ap not (ne_eqb _ 0 m.0)) s.connid_place)

  raw_allowed : may_have r raw_address ≡ r.request
  unfolding may_have sections_of
  raw_allowed =
      ap (λ (t : Bool). t || false) (past_array (has_array r) r.request (eqb r.connid 0) raw_address refl) ∙ raw_listed r.request (eqb r.connid 0)

  cq_allowed : may_have r cq_data ≡ r.request
  unfolding may_have sections_of
  cq_allowed =
      ap (λ (t : Bool). t || false) (past_array (has_array r) r.request (eqb r.connid 0) cq_data refl) ∙ cq_listed r.request (eqb r.connid 0)

  pub options_tested : options_fit r h ≡ (r.request || (not h.raw_address && not (is_some h.cq_data)))
  unfolding options_fit
  options_tested =
      rw (connid_allowed, raw_allowed, cq_allowed)
      (go r.request h.raw_address (is_some h.cq_data) (is_some h.connid))
    where
      go : (q a b c : Bool) → ((not a || q) && ((not b || q) && ((not c || true) && true))) ≡ (q || (not a && not b))
      go true true true true = refl
      go true true true false = refl
      go true true false true = refl
      go true true false false = refl
      go true false true true = refl
      go true false true false = refl
      go true false false true = refl
      go true false false false = refl
      go false true b c = refl
      go false false true c = refl
      go false false false true = refl
      go false false false false = refl

  pub every_option_fits : r.request ≡ true → options_fit r h ≡ true
  every_option_fits q = options_tested ∙ rw q

  pub connid_fits_lem : h.raw_address ≡ false → is_some h.cq_data ≡ false → options_fit r h ≡ true
  connid_fits_lem x y = options_tested ∙ rw (x, y, or-true)

  pub fits_connid : r.request ≡ false → options_fit r h ≡ true → (h.raw_address ≡ false) × (is_some h.cq_data ≡ false)
  fits_connid q t =
      let both : (not h.raw_address && not (is_some h.cq_data)) ≡ true = rw q at (sym options_tested ∙ t) in
      (not-true _ (and_left _ (not (is_some h.cq_data)) both), not-true _ (and_right (not h.raw_address) _ both))

-- ---- the flags of a packet that is written

past_options : (f m a b c : ℕ) → f ≡ m + a + 2 * b + 32768 * c → m % 4 ≡ 0 → m ≤ 32764 → a ≤ 1 → b ≤ 1 → c ≤ 1
    → f - (f / 32768 % 2 * 32768 + f % 32768 % 4) ≡ m
past_options f m a b c e z s x y w =
    let high : f / 32768 ≡ c = omega arith in
    let low : f % 32768 ≡ m + a + 2 * b = omega arith in
    let two : (m + a + 2 * b) % 4 ≡ a + 2 * b = omega arith in
    let one : c % 2 ≡ c = omega arith in
    rw (high, low, two, one) (omega arith)

module _ (r : TypeRow) (h : Header) (s : Sound r) where
  -- a request takes every optional header
  request_fits : r.request ≡ true → flags_fit r (flags_of r h) ≡ true
  unfolding flags_fit
  request_fits q =
      let f = flags_of r h in
      let c : bit_and f r.may ≡ f / 32768 % 2 * 32768 + f % 32768 % 4 = ap (bit_and f) (may_request r s q) ∙ and_options r s f in
      let (x, y, w) = bits_small h in
      let over = past_options f r.must _ _ _ (flags_as_bits r h) (must_clear r s q) (omega (arith, s.small)) x y w in
      eq-eqb _ _ (ap (λ (m : ℕ). f - m) c ∙ over)

  -- and any other a connid alone
  other_fits : r.request ≡ false → h.raw_address ≡ false → is_some h.cq_data ≡ false → flags_fit r (flags_of r h) ≡ true
  unfolding flags_fit
  other_fits q x y =
      let b = and_high (flags_of r h) 1 15 in
      let c : bit_and (flags_of r h) r.may ≡ bit_and (flags_of r h) 0x8000 = ap (bit_and (flags_of r h)) (may_other r s q) in
      let e = flags_as_bits r h in
      let top : flags_of r h / 32768 ≡ bit (is_some h.connid) = omega (arith, e, s.small, bits_small h) in
      let rest : flags_of r h - bit_and (flags_of r h) r.may ≡ r.must = omega (arith, bits_small h, ap bit x, ap bit y) in
      eq-eqb _ _ rest

  -- an optional header that is written shows by its flag

  pub connid_flag_lem : flagged r (flags_of r h) connid ≡ is_some h.connid
  unfolding flagged
  connid_flag_lem =
      let b : flags_of r h / 32768 ≡ bit (is_some h.connid) = rw flags_as_bits (omega (arith, s.small, bits_small h)) in
      flag_of_bit _ 32768 _ (rw b (omega (arith, bits_small h)))

  module _ (t : options_fit r h ≡ true) where
    -- the reader takes the flags of a packet whose type may have its optional headers
    pub flags_fit_lem : flags_fit r (flags_of r h) ≡ true
    flags_fit_lem =
        ⊎_elim request_fits (λ q. let (x, y) = fits_connid r h s q t in other_fits q x y) (tested r.request)

    pub raw_address_flag_lem : flagged r (flags_of r h) raw_address ≡ h.raw_address
    unfolding flagged
    raw_address_flag_lem =
        ⊎_elim (λ q. rw q (flag_of_bit _ 1 _ (rw flags_as_bits (omega (arith, must_clear r s q, bits_small h)))))
        (λ q. rw q (sym (fits_connid r h s q t).0))
        (tested r.request)

    pub cq_data_flag_lem : flagged r (flags_of r h) cq_data ≡ is_some h.cq_data
    unfolding flagged
    cq_data_flag_lem =
        ⊎_elim (λ q. rw q (flag_of_bit _ 2 _ (rw flags_as_bits (omega (arith, must_clear r s q, bits_small h)))))
        (λ q. rw q (sym (fits_connid r h s q t).1))
        (tested r.request)

-- flags that fit the type
module _ (r : TypeRow) (f : ℕ) (s : Sound r) (t : flags_fit r f ≡ true) where
  fit : f - bit_and f r.may ≡ r.must
  unfolding flags_fit
  fit = eqb-true _ _ t

  request_flags : r.request ≡ true → f ≡ r.must + f / 1 % 2 + 2 * (f / 2 % 2) + 32768 * (f / 32768 % 2)
  request_flags q =
      let b = and_options r s f in
      let l = and_le_l f 0x8003 in
      let e = rw (may_request r s q) at fit in
      omega arith

  other_flags : r.request ≡ false → f ≡ r.must + 32768 * (f / 32768 % 2)
  other_flags q =
      let b = and_high f 1 15 in
      let l = and_le_l f 0x8000 in
      let e = rw (may_other r s q) at fit in
      omega arith

  -- the flags of a packet that was read are written again
  pub flags_again : (h : Header)
      → h.raw_address ≡ flagged r f raw_address
      → is_some h.cq_data ≡ flagged r f cq_data
      → is_some h.connid ≡ flagged r f connid
      → flags_of r h ≡ f
  unfolding flagged
  flags_again h a b c = ⊎_elim request other (tested r.request)
    where
      request : r.request ≡ true → flags_of r h ≡ f
      request q =
          let x : h.raw_address ≡ has_flag f 1 = a ∙ ap (λ (u : Bool). u && has_flag f 1) q in
          let y : is_some h.cq_data ≡ has_flag f 2 = b ∙ ap (λ (u : Bool). u && has_flag f 2) q in
          rw (flags_as_bits, x, y, c, bit_of_flag f 1, bit_of_flag f 2, bit_of_flag f 32768) (sym (request_flags q))

      other : r.request ≡ false → flags_of r h ≡ f
      other q =
          let x : h.raw_address ≡ false = a ∙ ap (λ (u : Bool). u && has_flag f 1) q in
          let y : is_some h.cq_data ≡ false = b ∙ ap (λ (u : Bool). u && has_flag f 2) q in
          rw (flags_as_bits, x, y, c, bit_of_flag f 32768) (omega (arith, other_flags q))

  pub options_again : (h : Header) → h.raw_address ≡ flagged r f raw_address → is_some h.cq_data ≡ flagged r f cq_data → options_fit r h ≡ true
  unfolding flagged
  options_again h a b =
      ⊎_elim (every_option_fits r h s)
      (λ q. connid_fits_lem r h s (a ∙ ap (λ (u : Bool). u && has_flag f 1) q) (b ∙ ap (λ (u : Bool). u && has_flag f 2) q))
      (tested r.request)
