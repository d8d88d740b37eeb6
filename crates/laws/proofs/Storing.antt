-- Laws of `part` and `store_at`: lengths, what is read back, stores side by side, and a store in a part that was lent on.
use Prim.Native.Nat.{ℕ, ◌+◌, ◌-◌, ◌≤◌, ◌<◌}
use borrow.Rule.Slice.PartMut.{put_mid}
use lib.ListN.{length, get_or, take, drop, set, length-append, take-append-drop, length-take, length-drop, drop_of_length-le, get_or-eq_default}
use lib.Seq.{length-take-le, take_all, take-length, drop-append-le, get_or-take, get_or-drop, take-take, drop-drop, take-add, take_at, drop_at, sets, sets-eq, paste}
use mathlib.Core.List.{List, [], ◌∷◌, ◌++◌, append_assoc, append-nil}
use mathlib.Core.Path.{◌≡◌, refl, sym, ap, ◌∙◌}
use native.Mathlib.Decide.{dec_lt}
use native.Mathlib.Nat.{add_assoc, add-zero, le_refl}
use native.Mathlib.Omega.{arith}
use Rattle.laws.specs.Parts.{part, store_at}

module _ {A : Type 0} where
  pub length_part : (l : List A) (at n : ℕ) → at + n ≤ length l → length (part l at n) ≡ n
  unfolding part
  length_part l at n h = simp (length-take, length-drop) (omega arith)

  -- a part as the borrow checker says it
  pub lent_part : (l : List A) (at n : ℕ) → take (at + n - at) (drop at l) ≡ part l at n
  unfolding part
  lent_part l at n =
      let e : at + n - at ≡ n = omega arith in
      rw e

  pub length_store : (l : List A) (at : ℕ) (s : List A) → at + length s ≤ length l → length (store_at l at s) ≡ length l
  unfolding store_at
  length_store l at s h = simp (length-append, length-take, length-drop) (omega arith)

  -- nothing is stored
  pub store_nothing : (l : List A) (at : ℕ) → store_at l at [] ≡ l
  unfolding store_at
  store_nothing l at = simp (append_assoc, add-zero) (take-append-drop at l)

  -- a store at the start
  pub store_start : (l s : List A) (n : ℕ) → length s ≡ n → s ++ drop n l ≡ store_at l 0 s
  unfolding store_at
  store_start l s n e = let z : 0 + length s ≡ n = omega arith in rw z

  -- what stood behind stays
  pub drop_store : (l : List A) (at : ℕ) (s : List A) → at ≤ length l → drop (at + length s) (store_at l at s) ≡ drop (at + length s) l
  unfolding store_at
  drop_store l at s h =
      let p : length (take at l ++ s) ≡ at + length s = rw (length-append, length-take-le at l h) in
      drop_at (take at l ++ s) (drop (at + length s) l) (at + length s) p

  -- what stood there is stored again
  pub store_own : (l : List A) (at n : ℕ) → at + n ≤ length l → store_at l at (part l at n) ≡ l
  unfolding store_at
  store_own l at n h =
      let size : length (part l at n) ≡ n = length_part l at n h in
      rw (size, append_assoc) (unfold part in (rw (← drop-drop n at l, take-append-drop n (drop at l)) (take-append-drop at l)))

  -- a part in the middle of three lists
  pub part_middle : (a b c : List A) (at n : ℕ) → length a ≡ at → length b ≡ n → part (a ++ (b ++ c)) at n ≡ b
  unfolding part
  part_middle a b c at n p q = rw (drop_at a (b ++ c) at p) (take_at b c n q)

  -- a store in the middle of three lists
  pub store_middle : (a b c s : List A) (at : ℕ) → length a ≡ at → length s ≡ length b → store_at (a ++ (b ++ c)) at s ≡ a ++ (s ++ c)
  unfolding store_at
  store_middle a b c s at p q =
      let n : length (a ++ b) ≡ at + length s = rw (length-append, p, q) in
      rw (take_at a (b ++ c) at p, ← append_assoc a b c, drop_at (a ++ b) c (at + length s) n) (append_assoc a s c)

  -- what was stored is read
  pub part_store : (l : List A) (at : ℕ) (s : List A) → at ≤ length l → part (store_at l at s) at (length s) ≡ s
  unfolding store_at
  part_store l at s h = rw append_assoc (part_middle (take at l) s (drop (at + length s) l) at (length s) (length-take-le at l h) refl)

  -- parts side by side
  pub part_add : (l : List A) (at m n : ℕ) → part l at (m + n) ≡ part l at m ++ part l (at + m) n
  unfolding part
  part_add l at m n = rw (take-add m n (drop at l), drop-drop)

  -- a part and what stands behind it
  pub part_drop : (l : List A) (at n : ℕ) → part l at n ++ drop (at + n) l ≡ drop at l
  unfolding part
  part_drop l at n = rw (← drop-drop n at l) (take-append-drop n (drop at l))

  pub part_rest : (l : List A) (at : ℕ) → part l at (length l - at) ≡ drop at l
  unfolding part
  part_rest l at = take_all (length l - at) (drop at l) (rw length-drop (omega arith))

  -- what all elements of a list are, the elements of a part are
  pub part_all : (P : A → Type 0) (d : A) (l : List A) (at n : ℕ) → ((i : ℕ) → P (get_or l i d)) → (i : ℕ) → P (get_or (part l at n) i d)
  unfolding part
  part_all P d l at n h i = go (dec_lt i n)
    where
      go : Dec (i < n) → P (get_or (take n (drop at l)) i d)
      go (yes k) = rw (get_or-take n (drop at l) i d k, get_or-drop) (h (at + i))
      go (no k) =
          let short : length (take n (drop at l)) ≤ i = simp length-take (omega arith) in
          rw (get_or-eq_default (take n (drop at l)) d short, ← get_or-eq_default l d (le_refl (length l))) (h (length l))

  -- a store in a list that is taken apart
  pub store_back : (l : List A) (a k c n : ℕ) (s : List A) → length s ≡ n
      → part l 0 a ++ (part l a k ++ (part l (a + k) c ++ s ++ drop (a + k + c + n) l)) ≡ store_at l (a + k + c) s
  unfolding store_at part
  store_back l a k c n s e = rw (e, take-add (a + k) c l, take-add a k l) (simp append_assoc)

  -- stores side by side
  pub store_store : (l : List A) (at : ℕ) (a b : List A) → at + length a + length b ≤ length l
      → store_at (store_at l at a) (at + length a) b ≡ store_at l at (a ++ b)
  unfolding store_at
  store_store l at a b h =
      let hl : at ≤ length l = omega arith in
      let p : length (take at l ++ a) ≡ at + length a = simp length-append (rw (length-take-le at l hl)) in
      rw (
        take_at (take at l ++ a) (drop (at + length a) l) (at + length a) p,
        ← drop-drop (length b) (at + length a) (take at l ++ a ++ drop (at + length a) l),
        drop_at (take at l ++ a) (drop (at + length a) l) (at + length a) p,
        drop-drop,
        length-append,
      ) (simp (append_assoc, add_assoc))

  -- the same, where the second place is known by another sum
  pub store_next : (l : List A) (at : ℕ) (a b : List A) (k : ℕ) → k ≡ at + length a → k + length b ≤ length l
      → store_at (store_at l at a) k b ≡ store_at l at (a ++ b)
  store_next l at a b k e h = rw e (store_store l at a b (rw e at h))

  -- a store over the start of another
  pub store_over : (l : List A) (at : ℕ) (a b c : List A) → length a ≡ length b → at ≤ length l
      → store_at (store_at l at (a ++ c)) at b ≡ store_at l at (b ++ c)
  unfolding store_at
  store_over l at a b c e h =
      let n : length (a ++ c) ≡ length (b ++ c) = rw (length-append a c, length-append b c, e) in
      let rest : List A = drop (at + length (b ++ c)) l in
      rw (n, append_assoc (take at l) (a ++ c) rest, append_assoc a c rest)
      (store_middle (take at l) a (c ++ rest) b at (length-take-le at l h) (sym e)
      ∙ sym (append_assoc (take at l) (b ++ c) rest ∙ ap (λ (m : List A). take at l ++ m) (append_assoc b c rest)))

  -- elements that are set one after the other are stored
  pub sets_store : (l : List A) (at : ℕ) (s : List A) → at + length s ≤ length l → sets l at s ≡ store_at l at s
  unfolding store_at
  sets_store l at s h = sets-eq s l at h

  -- one element
  pub set_store : (l : List A) (at : ℕ) (a : A) → at < length l → set l at a ≡ store_at l at (a ∷ [])
  set_store l at a h = sets_store l at (a ∷ []) (omega arith)

  -- an element, and a store behind it
  pub set_next : (l : List A) (at : ℕ) (a : A) (s : List A) → at + 1 + length s ≤ length l → store_at (set l at a) (at + 1) s ≡ store_at l at (a ∷ s)
  set_next l at a s h = rw (set_store l at a (omega arith)) (store_next l at (a ∷ []) s (at + 1) refl h)

  -- the copy loop's result as a store
  pub paste_store : (l : List A) (at : ℕ) (s : List A) → paste l at s (length s) ≡ store_at l at s
  unfolding store_at
  paste_store l at s = rw take-length

  -- a store in a part of l that was lent on, put back, is a store in l
  pub store_part : (l : List A) (b n at : ℕ) (s : List A) → b + n ≤ length l → at + length s ≤ n
      → put_mid b n l (store_at (take n (drop b l)) at s) ≡ store_at l (b + at) s
  unfolding store_at
  store_part l b n at s hn hs =
      let h : at + length s ≤ length (take n (drop b l)) = simp (length-take, length-drop) (omega arith) in
      let e : drop (at + length s) (take n (drop b l)) ++ drop n (drop b l) ≡ drop (b + at + length s) l =
      rw (← drop-append-le (at + length s) (take n (drop b l)) (drop n (drop b l)) h, take-append-drop, drop-drop, ← add_assoc) in
      let k : at ≤ n = omega arith in
      rw (take-take at n (drop b l) k, take-add b at l) (simp (append_assoc, e))

  -- a store over all that is there
  pub store_whole : (l s : List A) → length s ≡ length l → store_at l 0 s ≡ s
  unfolding store_at
  store_whole l s e =
      let none : length l ≤ 0 + length s = omega arith in
      rw (drop_of_length-le l none) (append-nil s)

  -- ---- a part that was lent on and comes back

  pub length_lent : (l : List A) (b n : ℕ) → b + n ≤ length l → length (take (b + n - b) (drop b l)) ≡ n
  length_lent l b n h = simp (length-take, length-drop) (omega arith)

  -- a part that kept its length, put back
  pub put_part : (l s : List A) (b n : ℕ) → length s ≡ n → put_mid b (b + n - b) l s ≡ store_at l b s
  unfolding store_at
  put_part l s b n e =
      let z : b + n - b ≡ length s = omega arith in
      rw (z, drop-drop) (sym (append_assoc (take b l) s _))

  -- a store in a part that was lent on
  pub put_store : (l : List A) (b n at : ℕ) (s : List A) → b + n ≤ length l → at + length s ≤ n
      → put_mid b (b + n - b) l (store_at (take (b + n - b) (drop b l)) at s) ≡ store_at l (b + at) s
  put_store l b n at s h k =
      let z : b + n - b ≡ n = omega arith in
      rw z (store_part l b n at s h k)
