-- The rule of the table of packet types: what `Sound` says holds of every row that is found, by one test over the whole table.
use Prim.Native.Nat.{ℕ, ◌+◌, ◌^◌}
use borrow.Author.Tests.{leb-true, ltb-true, eqb-true, eq-eqb, not-true}
use lib.Bits.{bit_and}
use lib.Dec.{leb, ltb, eqb}
use lib.ListN.{get_or}
use mathlib.Core.Bool.{Bool, true, false, not, ◌&&◌, ◌||◌, false≢true}
use mathlib.Core.List.{List, [], ◌∷◌, map}
use mathlib.Core.Logic.{⊎_elim, ⊎_map}
use mathlib.Core.Path.{◌≡◌, refl, sym, subst, ◌∙◌}
use native.Mathlib.Omega.{arith}
use Rattle.std.specs.Prelude.{Some}
use Rattle.laws.specs.Choose.{pick}
use Rattle.protocol.specs.Layout.{Field, count, credit_request, distinct, fields, layout, length_place, msg_id, msg_length, multiuse, ordinal, padding, place_in, place_of, recv_id, recv_length, seg_length, seg_offset, send_id, tag, width, widths}
use Rattle.protocol.specs.Optional.{flag_sum, flags_taken, options, sections_of}
use Rattle.protocol.specs.Rules.{ConnidPlace, Sound}
use Rattle.protocol.specs.Types.{row_in, row_of, rows}
use Rattle.protocol.specs.declared.table.TypeRow.{TypeRow}
use Rattle.laws.proofs.Choosing.{all_true_lem, all_true, and_left, and_right, clashing, or_cases, pick_cases}

-- a row that is found in a table has the type that was looked for, and passes a test that all its rows pass
found_in : (test : TypeRow → Bool) (rs : List TypeRow) (k : ℕ) (r : TypeRow)
    → all_true (map test rs) ≡ true
    → row_in rs k ≡ Some r
    → (r.kind ≡ k) × (test r ≡ true)
unfolding row_in
found_in test [] k r a e = let z : ◌≡◌ {A = ℕ} 0 1 = cc in absurd (omega arith)
found_in test (q ∷ rs) k r a e =
    ⊎_elim (λ h. let s : q ≡ r = cc in (rw (← s) (eqb-true q.kind k h.0), rw (← s) (and_left (test q) (all_true (map test rs)) a)))
    (λ h. found_in test rs k r (and_right (test q) (all_true (map test rs)) a) h.1)
    (pick_cases (eqb q.kind k) (Some q) (row_in rs k) (Some r) e)

pub row_kind : (k : ℕ) (r : TypeRow) → row_of k ≡ Some r → r.kind ≡ k
unfolding row_of
row_kind k r e = (found_in (λ q. true) rows k r refl e).0

pub row_passes : (test : TypeRow → Bool) → all_true (map test rows) ≡ true → (k : ℕ) (r : TypeRow) → row_of k ≡ Some r → test r ≡ true
unfolding row_of
row_passes test a k r e = (found_in test rows k r a e).1

-- what holds of each row of a table with its type holds of every row that is found
abbrev Each : (ℕ → TypeRow → Type 0) → List TypeRow → Type 0
Each P [] = Unit {0}
Each P (r ∷ rs) = P r.kind r × Each P rs

each_in : (P : ℕ → TypeRow → Type 0) (rs : List TypeRow) → Each P rs → (k : ℕ) (r : TypeRow) → row_in rs k ≡ Some r → P k r
unfolding row_in
each_in P [] a k r e = let z : ◌≡◌ {A = ℕ} 0 1 = cc in absurd (omega arith)
each_in P (q ∷ rs) a k r e =
    ⊎_elim (λ h. let s : q ≡ r = cc in subst (λ (x : TypeRow). P k x) s (subst (λ (n : ℕ). P n q) (eqb-true q.kind k h.0) a.0))
    (λ h. each_in P rs a.1 k r h.1)
    (pick_cases (eqb q.kind k) (Some q) (row_in rs k) (Some r) e)

-- what the rows of a table say, each of its own type, is what is told of the type of a row that is found: one comparison for the whole table
each_same : {A : Type 0} (says : ℕ → TypeRow → A) (told : ℕ → A) (rs : List TypeRow)
    → map (λ (r : TypeRow). says r.kind r) rs ≡ map (λ (r : TypeRow). told r.kind) rs
    → Each (λ k r. says k r ≡ told k) rs
each_same says told [] e = tt
each_same says told (r ∷ rs) e =
    let here : says r.kind r ≡ told r.kind = cc in
    let rest : map (λ (r : TypeRow). says r.kind r) rs ≡ map (λ (r : TypeRow). told r.kind) rs = cc in
    (here, each_same says told rs rest)

pub rows_say : {A : Type 0} (says : ℕ → TypeRow → A) (told : ℕ → A)
    → map (λ (r : TypeRow). says r.kind r) rows ≡ map (λ (r : TypeRow). told r.kind) rows
    → (k : ℕ) (r : TypeRow) → row_of k ≡ Some r → says k r ≡ told k
unfolding row_of
rows_say says told same k r e = each_in (λ k r. says k r ≡ told k) rows (each_same says told rows same) k r e

-- a test that every field passes
every_field : (test : Field → Bool) → all_true (map test fields) ≡ true → (f : Field) → test f ≡ true
every_field test e f = sym (at f) ∙ all_true_lem (map test fields) e (ordinal f)
  where
    at : (f : Field) → get_or (map test fields) (ordinal f) true ≡ test f
    at msg_id = refl
    at recv_id = refl
    at send_id = refl
    at msg_length = refl
    at seg_length = refl
    at recv_length = refl
    at seg_offset = refl
    at credit_request = refl
    at tag = refl
    at multiuse = refl
    at padding = refl
    at count = refl

-- the rule as tests

abbrev stands : TypeRow → Field → Bool
stands r f = eqb (place_in (layout r) 4 f) (place_of r f)

abbrev ends : TypeRow → Field → Bool
ends r f = leb (place_of r f + width f) r.header

abbrev same_test : Bool → Bool → Bool
same_test a b = (a && b) || (not a && not b)

same_test_lem : (a b : Bool) → same_test a b ≡ true → a ≡ b
same_test_lem true true e = refl
same_test_lem true false e = absurd (false≢true e)
same_test_lem false true e = absurd (false≢true e)
same_test_lem false false e = refl

abbrev behind : ℕ → ℕ → Bool
behind place connid = eqb place 0 && leb 4 connid

abbrev within : ℕ → ℕ → Bool
within place connid = not (eqb place 0) && eqb connid 0

connid_place_lem : (place connid : ℕ) → (behind place connid || within place connid) ≡ true → ConnidPlace place connid
connid_place_lem p c e =
    ⊎_map (λ t. (eqb-true p 0 (and_left (eqb p 0) (leb 4 c) t), leb-true 4 c (and_right (eqb p 0) (leb 4 c) t)))
    (λ t. (
      λ z. clashing (eqb p 0) (eq-eqb p 0 z) (not-true (eqb p 0) (and_left (not (eqb p 0)) (eqb c 0) t)),
      eqb-true c 0 (and_right (not (eqb p 0)) (eqb c 0) t),
    ))
    (or_cases (behind p c) (within p c) e)

abbrev checks : TypeRow → List Bool
checks r =
    eqb r.header (4 + widths (layout r))
    ∷ all_true (map (stands r) fields)
    ∷ distinct (layout r)
    ∷ eqb r.length_at (length_place r)
    ∷ all_true (map (ends r) fields)
    ∷ leb r.header 64
    ∷ same_test (eqb (place_of r count) 0) (eqb r.unit 0)
    ∷ leb r.unit 24
    ∷ leb r.less 24
    ∷ (eqb r.connid 0 || (eqb r.connid 4 || eqb r.connid 8))
    ∷ (behind (place_of r multiuse) r.connid || within (place_of r multiuse) r.connid)
    ∷ eqb (bit_and r.must r.may) 0
    ∷ eqb r.may (flags_taken r)
    ∷ ltb (r.must + flag_sum options) (2 ^ 16)
    ∷ (not r.request || (eqb (place_of r recv_id) 0 && (eqb (place_of r seg_length) 0 && eqb (place_of r recv_length) 0)))
    ∷ []

-- what a request has not
request_has_lem : (q : Bool) (a b c : ℕ) → (not q || (eqb a 0 && (eqb b 0 && eqb c 0))) ≡ true → q ≡ true → (a ≡ 0) × (b ≡ 0) × (c ≡ 0)
request_has_lem false a b c h e = absurd (false≢true e)
request_has_lem true a b c h e = (
  eqb-true _ _ (and_left (eqb a 0) _ h),
  eqb-true _ _ (and_left (eqb b 0) _ (and_right (eqb a 0) _ h)),
  eqb-true _ _ (and_right (eqb b 0) _ (and_right (eqb a 0) _ h)),
)

-- no type of the table has a counted array
pub no_array : (k : ℕ) (r : TypeRow) → row_of k ≡ Some r → r.unit ≡ 0
no_array k r e = eqb-true _ _ (row_passes (λ q. eqb q.unit 0) refl k r e)

pub sound : (k : ℕ) (r : TypeRow) → row_of k ≡ Some r → Sound r
unfolding layout length_place place_in flags_taken sections_of pick
sound k r e =
    record {
      header = eqb-true _ _ (holds 0);
      placed = λ f. eqb-true _ _ (every_field (stands r) (holds 1) f);
      once = holds 2;
      length_at = eqb-true _ _ (holds 3);
      inside = λ f. leb-true _ _ (every_field (ends r) (holds 4) f);
      short = leb-true _ _ (holds 5);
      counted = same_test_lem _ _ (holds 6);
      narrow = leb-true _ _ (holds 7);
      few = leb-true _ _ (holds 8);
      connid = ⊎_map (eqb-true _ _) (λ t. ⊎_map (eqb-true _ _) (eqb-true _ _) (or_cases _ _ t)) (or_cases _ _ (holds 9));
      connid_place = connid_place_lem (place_of r multiuse) r.connid (holds 10);
      apart = eqb-true _ _ (holds 11);
      may = eqb-true _ _ (holds 12);
      small = ltb-true _ _ (holds 13);
      request_has = request_has_lem r.request _ _ _ (holds 14);
    }
  where
    holds : (i : ℕ) → get_or (checks r) i true ≡ true
    holds = all_true_lem (checks r) (row_passes (λ q. all_true (checks q)) refl k r e)
