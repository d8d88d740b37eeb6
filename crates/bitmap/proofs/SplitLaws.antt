-- A range in three parts (specs/Ranges.antt): where they lie, and that what is done with a range is done with its parts, one after the other.
use Prim.Native.Nat.{ℕ, ◌+◌, ◌-◌, ◌*◌, ◌/◌, ◌%◌, ◌≤◌}
use mathlib.Core.Logic.{⊎_elim}
use mathlib.Core.Path.{◌≡◌, sym, ap, ◌∙◌}
use native.Mathlib.Omega.{arith}
use Rattle.bitmap.specs.Ranges.{head_of, split_of}
use Rattle.bitmap.specs.declared.ranges.ThreeParts.{ThreeParts}
use Rattle.laws.proofs.Comparing.{eq_or_ne}

-- the parts of the n bits from `at` on lie in a map of so many words, each part of a word in that word
pub record Placed (at n words : ℕ) (s : ThreeParts) : Type 0 where
  pub head_in : at + s.head ≤ 64 * words
  pub head_fits : at % 64 + s.head ≤ 64
  pub order : s.first ≤ s.last
  pub last_in : s.last ≤ words
  pub tail_in : 64 * s.last + s.tail ≤ 64 * words
  pub tail_fits : 64 * s.last % 64 + s.tail ≤ 64
  pub short : 64 * s.last ≤ at + n

pub placed : {at n words : ℕ} {s : ThreeParts} → s ≡ split_of at n → at + n ≤ 64 * words → Placed at n words s
placed e h =
    rw e
    (record {
      head_in = omega arith;
      head_fits = omega arith;
      order = omega arith;
      last_in = omega arith;
      tail_in = omega arith;
      tail_fits = omega arith;
      short = omega arith;
    })

-- `step` does something with the n bits from `at` on: nothing with none, and with some and then more what it does with all
module _ {X : Type 0} (step : X → ℕ → ℕ → X)
    (none : (x : X) (at : ℕ) → step x at 0 ≡ x)
    (add : (x : X) (at k n : ℕ) → step x at (k + n) ≡ step (step x at k) (at + k) n)
  where
    nothing : (x : X) (at n : ℕ) → n ≡ 0 → x ≡ step x at n
    nothing x at n e = sym (ap (step x at) e ∙ none x at)

    pub in_parts : (x : X) (at n : ℕ) → let s = split_of at n in
        step x at n ≡ step (step (step x at s.head) (64 * s.first) (64 * ((n - s.head) / 64))) (64 * s.last) s.tail
    in_parts x at n =
        let h = head_of at n in
        let q = (at + h) / 64 in
        let w = (n - h) / 64 in
        let t = (n - h) % 64 in
        let y = step x at h in
        ⊎_elim
        (λ (z : n - h ≡ 0).
        let e : n ≡ h = omega arith in
        let none_between : 64 * w ≡ 0 = omega arith in
        let none_behind : t ≡ 0 = omega arith in
        ap (step x at) e ∙ nothing y (64 * q) (64 * w) none_between ∙ nothing _ (64 * (q + w)) t none_behind)
        (λ (ne : n - h ≡ 0 → ⊥).
        let e : n ≡ h + (64 * w + t) = omega arith in
        let from : at + h ≡ 64 * q = omega arith in
        let to : at + h + 64 * w ≡ 64 * (q + w) = omega arith in
        ap (step x at) e ∙ add x at h (64 * w + t) ∙ add y (at + h) (64 * w) t
        ∙ ap (λ (i : ℕ). step (step y i (64 * w)) (at + h + 64 * w) t) from
        ∙ ap (λ (i : ℕ). step (step y (64 * q) (64 * w)) i t) to)
        (eq_or_ne (n - h) 0)
