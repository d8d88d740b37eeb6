-- What stands at a place of a list after a store, and parts of it: inside the store the new elements, elsewhere the old.
use Prim.Native.Nat.{ℕ, ◌+◌, ◌-◌, ◌≤◌, ◌<◌}
use lib.ListN.{length, get_or, take, drop, length-append, get_or-append}
use lib.Seq.{length-take-le, get_or-append-add, get_or-take, get_or-drop, ext_get_or}
use mathlib.Core.List.{List, ◌++◌}
use mathlib.Core.Logic.{◌⊎◌, inl, inr, ⊎_map}
use mathlib.Core.Path.{◌≡◌, sym, ap, ◌∙◌}
use native.Mathlib.Omega.{arith}
use Rattle.laws.specs.Parts.{part, store_at}
use Rattle.laws.proofs.Storing.{length_part, length_store}

module _ {A : Type 0} (l : List A) (at : ℕ) (s : List A) (fit : at + length s ≤ length l) where
  front : length (take at l ++ s) ≡ at + length s
  front = length-append (take at l) s ∙ ap (λ (n : ℕ). n + length s) (length-take-le at l (omega arith))

  pub get_d_store_in : (k : ℕ) (d : A) → k < length s → get_or (store_at l at s) (at + k) d ≡ get_or s k d
  unfolding store_at
  get_d_store_in k d h =
      let size : length (take at l) ≡ at = length-take-le at l (omega arith) in
      get_or-append (take at l ++ s) (drop (at + length s) l) d (at + k) (omega (arith, front))
      ∙ ap (λ (n : ℕ). get_or (take at l ++ s) (n + k) d) (sym size) ∙ get_or-append-add (take at l) s k d

  pub get_d_store_out : (i : ℕ) (d : A) → (i < at) ⊎ (at + length s ≤ i) → get_or (store_at l at s) i d ≡ get_or l i d
  unfolding store_at
  get_d_store_out i d (inl h) =
      let size : length (take at l) ≡ at = length-take-le at l (omega arith) in
      get_or-append (take at l ++ s) (drop (at + length s) l) d i (omega (arith, front))
      ∙ get_or-append (take at l) s d i (omega arith) ∙ get_or-take at l i d h
  get_d_store_out i d (inr h) =
      let k : ℕ = i - (at + length s) in
      let e : i ≡ length (take at l ++ s) + k = omega (arith, front) in
      ap (λ (n : ℕ). get_or (take at l ++ s ++ drop (at + length s) l) n d) e
      ∙ get_or-append-add (take at l ++ s) (drop (at + length s) l) k d
      ∙ get_or-drop (at + length s) l k d ∙ ap (λ (n : ℕ). get_or l n d) (omega arith)

pub get_d_part : {A : Type 0} (l : List A) (at n i : ℕ) (d : A) → i < n → get_or (part l at n) i d ≡ get_or l (at + i) d
unfolding part
get_d_part l at n i d h = get_or-take n (drop at l) i d h ∙ get_or-drop at l i d

-- two parts are equal by their elements
pub part_ext : {A : Type 0} (d : A) (l m : List A) (a b n : ℕ) → a + n ≤ length l → b + n ≤ length m
    → ((i : ℕ) → i < n → get_or l (a + i) d ≡ get_or m (b + i) d) → part l a n ≡ part m b n
part_ext d l m a b n h k f =
    ext_get_or d (part l a n) (part m b n) (length_part l a n h ∙ sym (length_part m b n k))
    (λ i q. let q' : i < n = omega (arith, length_part l a n h) in get_d_part l a n i d q' ∙ f i q' ∙ sym (get_d_part m b n i d q'))

-- a store leaves a part that is apart from it
pub part_apart : (l : List ℕ) (at : ℕ) (s : List ℕ) (b n : ℕ) → at + length s ≤ length l → b + n ≤ length l → (b + n ≤ at) ⊎ (at + length s ≤ b)
    → part (store_at l at s) b n ≡ part l b n
part_apart l at s b n h k d =
    part_ext 0 (store_at l at s) l b b n (omega (arith, length_store l at s h)) k
    (λ i q. get_d_store_out l at s h (b + i) 0 (⊎_map (λ x. omega arith) (λ x. omega arith) d))
