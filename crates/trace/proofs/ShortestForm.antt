-- A number is read only where its shortest form stands, `NumberShortest` of specs/ShortestForm.antt: by induction over the groups.
use Prim.Native.Nat.{ℕ, zero, suc, ◌+◌, ◌-◌, ◌*◌, ◌/◌, ◌%◌, ◌^◌, ◌≤◌, ◌<◌}
use borrow.Author.Tests.{leb-false, ltb-true, ltb-false}
use lib.Dec.{eqb, leb, ltb}
use lib.ListN.{length, get_or, drop}
use lib.Seq.{drop-cons, take_at}
use mathlib.Core.Bool.{◌&&◌, false}
use mathlib.Core.List.{List, ◌∷◌, ◌++◌}
use mathlib.Core.Logic.{◌⊎◌, ⊎_elim, ⊎_map}
use mathlib.Core.Path.{◌≡◌, sym, ap, ◌∙◌}
use native.Mathlib.Omega.{arith}
use Rattle.std.specs.Prelude.{Option, None, Some}
use Rattle.laws.specs.Parts.{part}
use Rattle.trace.specs.Numbers.{groups, last_group, number_at, number_bytes, number_from}
use Rattle.trace.specs.ShortestForm.{NumberShortest}
use Rattle.laws.proofs.Choosing.{pick_cases, pick_second}
use Rattle.trace.proofs.GroupLaws.{groups_last, groups_suc, rest_sum}

bad : {v next : ℕ} → ◌≡◌ {A = Option (ℕ × ℕ)} None (Some (v, next)) → ⊥
bad e = let z : ◌≡◌ {A = ℕ} 0 1 = cc in omega arith

-- what was read
abbrev read : Option (ℕ × ℕ) → ℕ × ℕ
read None = (0, 0)
read (Some p) = p

-- a last group that is not the first is not 0
not_zero : (b weight : ℕ) → (eqb b 0 && ltb 1 weight) ≡ false → 1 < weight → 0 < b
not_zero zero weight t h = absurd (omega (arith, ltb-false 1 weight t))
not_zero (suc b) weight t h = omega arith

-- where `total` was read from `at` on: the number that its groups make, and that these stand there
record Form (k : ℕ) (s : List ℕ) (at weight sum total next : ℕ) : Type 0 where
  v : ℕ
  small : total < 2 ^ 64
  whole : total ≡ sum + v * weight
  shortest : 1 < weight → 0 < v
  place : next ≡ at + length (groups k v)
  bytes : drop at s ≡ groups k v ++ drop next s

module _ (k : ℕ) (s : List ℕ) (at weight sum total next : ℕ) where
  -- a group was there, and was the last, or more were read behind it
  first_group : number_from (suc k) s at weight sum ≡ Some (total, next)
      → (at < length s)
      × (((get_or s at 0 < 128) × (last_group (get_or s at 0) (suc at) weight sum ≡ Some (total, next)))
      ⊎ ((128 ≤ get_or s at 0) × (number_from k s (suc at) (weight * 128) (sum + (get_or s at 0 - 128) * weight) ≡ Some (total, next))))
  unfolding number_from
  first_group e =
      let (t, e) = pick_second (leb (length s) at) None _ (Some (total, next)) bad e in (
        leb-false (length s) at t,
        ⊎_map (λ w. (ltb-true _ _ w.0, w.1)) (λ w. (ltb-false _ _ w.0, w.1)) (pick_cases (ltb (get_or s at 0) 128) _ _ (Some (total, next)) e),
      )

  last_form : at < length s → get_or s at 0 < 128 → last_group (get_or s at 0) (suc at) weight sum ≡ Some (total, next) → Form k s at weight sum total next
  unfolding last_group
  last_form h d e =
      let b = get_or s at 0 in
      let (t, e) = pick_second (eqb b 0 && ltb 1 weight) None _ (Some (total, next)) bad e in
      let (u, e) = pick_second (leb (2 ^ 64) (sum + b * weight)) None _ (Some (total, next)) bad e in
      let whole : total ≡ sum + b * weight = sym (ap (λ o. (read o).0) e) in
      let place : next ≡ suc at = sym (ap (λ o. (read o).1) e) in
      let g = groups_last k b d in
      record {
        v = b;
        small = rw whole (leb-false _ _ u);
        whole = whole;
        shortest = not_zero b weight t;
        place = rw g (omega arith);
        bytes = rw (g, place) (drop-cons s at 0 h);
      }

  more_form : at < length s → 0 < weight → 128 ≤ get_or s at 0 → get_or s at 0 < 256
      → Form k s (suc at) (weight * 128) (sum + (get_or s at 0 - 128) * weight) total next → Form (suc k) s at weight sum total next
  more_form h w l m f =
      let d : ℕ = get_or s at 0 - 128 in
      let n : ℕ = d + 128 * f.v in
      let p : 0 < f.v = f.shortest (omega arith) in
      let lo : n % 128 ≡ d = omega arith in
      let hi : n / 128 ≡ f.v = omega arith in
      let b : 128 + d ≡ get_or s at 0 = omega arith in
      let g : groups (suc k) n ≡ get_or s at 0 ∷ groups k f.v = groups_suc k n (omega arith) ∙ rw (lo, hi, b) in
      record {
        v = n;
        small = f.small;
        whole = f.whole ∙ rw (lo, hi) at (rest_sum n weight sum);
        shortest = λ x. omega arith;
        place = rw g (omega (arith, f.place));
        bytes = rw (g, ← f.bytes) (drop-cons s at 0 h);
      }

form : (k : ℕ) (s : List ℕ) (at weight sum total next : ℕ) → ((i : ℕ) → get_or s i 0 < 256) → 0 < weight
    → number_from (suc k) s at weight sum ≡ Some (total, next) → Form k s at weight sum total next
unfolding number_from
form zero s at weight sum total next f p e =
    let (h, c) = first_group 0 s at weight sum total next e in
    ⊎_elim (λ w. last_form 0 s at weight sum total next h w.0 w.1) (λ w. absurd (bad w.1)) c
form (suc k) s at weight sum total next f p e =
    let (h, c) = first_group (suc k) s at weight sum total next e in
    ⊎_elim (λ w. last_form (suc k) s at weight sum total next h w.0 w.1)
    (λ w. more_form k s at weight sum total next h p w.0 (f at) (form k s (suc at) (weight * 128) _ total next f (omega arith) w.1)) c

pub number_shortest : NumberShortest
unfolding number_at part
number_shortest s at v next f e =
    let r = form 9 s at 1 0 v next f (omega arith) e in
    let x : r.v ≡ v = omega (arith, r.whole) in
    let place = rw x at r.place in
    let n : length (number_bytes v) ≡ next - at = omega arith in
    (r.small, place, rw (r.bytes, x) (take_at (number_bytes v) (drop next s) (next - at) n))
