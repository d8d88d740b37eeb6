-- What is said of ranges of offsets and of what segments cover is what 01 says: the statements of specs/Sentences.antt on offsets.
use Rattle.std.proofs.Common.{◌≡◌, ℕ, zero, suc, ◌+◌, ◌-◌, ◌<◌, ◌≤◌, Bool, true, false, ◌||◌, ◌⊎◌, ◌↔◌, List, [], ◌∷◌, length, sym, refl, ap, ◌∙◌, subst, inl, inr, ⊎_elim, le_refl, zero-add, arith, eqb-true, le-leb}
use borrow.Author.Tests.{lt-leb}
use mathlib.Core.Bool.{false≢true, or-true}
use mathlib.Core.List.Memᴰ
use mathlib.Core.List.{Memᴰ}
use native.Mathlib.Decide.{dec_lt, dec_le, ℕ_discrete}
use Rattle.bitmap.specs.Offsets.{count_of, first_not, some_of}
use Rattle.laws.specs.Choose.{pick}
use Rattle.peer.specs.Coverage.{Segment, all_of, covers, inside}
use Rattle.peer.specs.Sentences.{AllOfIsEveryOffset, CountIsFullIfEvery, CountOfIsHowMany, CoversIsSomeSegment, Falling, FirstNotIsTheLowest, LowestNot, SomeOfIsSomeOffset}
use Rattle.laws.proofs.Choosing.{and_intro, clashing, or_cases, pick_false, pick_small, pick_true, tested}
use Rattle.peer.proofs.Plain.CoverageLaws.{all_at, all_before, at_all, first_whole, inside_end, inside_in}

-- ---- a segment

pub covers_is_some_segment : CoversIsSomeSegment
unfolding CoversIsSomeSegment covers
covers_is_some_segment gs o = (given gs, λ w. asked gs w.0 w.1 (inside_in w.0 o w.2 w.3))
  where
    R : List Segment → Type 0
    R gs = (g : Segment) × Memᴰ g gs × (g.offset ≤ o) × (o < g.offset + length g.bytes)

    given : (gs : List Segment) → covers gs o ≡ true → R gs
    given [] e = absurd (false≢true e)
    given (g ∷ gs) e =
        ⊎_elim (λ x. (g, Memᴰ.head refl, (inside_end g o x).0, (inside_end g o x).1)) (λ x. later (given gs x))
        (or_cases (inside g o) (covers gs o) e)
      where
        later : R gs → R (g ∷ gs)
        later (k, m, a, b) = (k, Memᴰ.tail m, a, b)

    asked : (gs : List Segment) (g : Segment) → Memᴰ g gs → inside g o ≡ true → covers gs o ≡ true
    asked [] g m e = absurd (Memᴰ.not-nil m)
    asked (k ∷ gs) g m e = here (Memᴰ.cases_cons m) (λ x. asked gs g x e)
      where
        here : (g ≡ k) ⊎ Memᴰ g gs → (Memᴰ g gs → covers gs o ≡ true) → (inside k o || covers gs o) ≡ true
        here (inl x) rest = ap (λ (t : Bool). t || covers gs o) (ap (λ (y : Segment). inside y o) (sym x) ∙ e)
        here (inr x) rest = ap (λ (t : Bool). inside k o || t) (rest x) ∙ or-true (inside k o)

-- ---- some, all

pub some_of_is_some_offset : SomeOfIsSomeOffset
unfolding SomeOfIsSomeOffset some_of
some_of_is_some_offset f at n = (given n, λ w. asked n w.0 w.1 w.2 w.3)
  where
    R : ℕ → Type 0
    R n = (o : ℕ) × (at ≤ o) × (o < at + n) × (f o ≡ true)

    given : (n : ℕ) → some_of f at n ≡ true → R n
    given zero e = absurd (false≢true e)
    given (suc n) e = ⊎_elim (λ x. more (given n x)) (λ x. (at + n, omega arith, omega arith, x)) (or_cases (some_of f at n) (f (at + n)) e)
      where
        more : R n → R (suc n)
        more (o, a, b, x) = (o, a, omega arith, x)

    asked : (n o : ℕ) → at ≤ o → o < at + n → f o ≡ true → some_of f at n ≡ true
    asked zero o a b e = absurd (omega arith)
    asked (suc n) o a b e = here (ℕ_discrete o (at + n)) (λ x. asked n o a x e)
      where
        here : Dec (o ≡ at + n) → (o < at + n → some_of f at n ≡ true) → (some_of f at n || f (at + n)) ≡ true
        here (yes x) rest = ap (λ (t : Bool). some_of f at n || t) (ap f (sym x) ∙ e) ∙ or-true (some_of f at n)
        here (no x) rest = ap (λ (t : Bool). t || f (at + n)) (rest (omega (arith, x)))

pub all_of_is_every_offset : AllOfIsEveryOffset
unfolding AllOfIsEveryOffset
all_of_is_every_offset f at n = (
  λ e o a b. let same : at + (o - at) ≡ o = omega arith in ap f (sym same) ∙ all_at f at n (o - at) e (omega arith),
  λ g. at_all f at n (λ k h. g (at + k) (omega arith) (omega arith)),
)

-- ---- the first

first_le : (f : ℕ → Bool) (n : ℕ) → first_not f 0 n ≤ n
first_le f n = go (dec_le n (first_not f 0 n))
  where
    go : Dec (n ≤ first_not f 0 n) → first_not f 0 n ≤ n
    go (yes x) = omega (arith, eqb-true (first_not f 0 n) n (first_whole f n ∙ le-leb n (first_not f 0 n) x))
    go (no x) = omega (arith, x)

first_is_lowest : (f : ℕ → Bool) (n : ℕ) → LowestNot f n (first_not f 0 n)
unfolding all_of
first_is_lowest f n = (first_le f n, λ o l. ap f (sym (zero-add o)) ∙ all_at f 0 first o before l, at)
  where
    first : ℕ
    first = first_not f 0 n

    before : all_of f 0 first ≡ true
    before = all_before f n first (first_le f n) ∙ le-leb first first (le_refl first)

    at : first < n → f first ≡ false
    at l = ⊎_elim (λ x. clashing (all_of f 0 (suc first)) (more x) past) (λ x. x) (tested (f first))
      where
        more : f first ≡ true → all_of f 0 (suc first) ≡ true
        more x = and_intro (all_of f 0 first) (f (0 + first)) before (ap f (zero-add first) ∙ x)

        past : all_of f 0 (suc first) ≡ false
        past = all_before f n (suc first) l ∙ lt-leb (suc first) first (le_refl (suc first))

-- there is one lowest
lowest_is_one : (f : ℕ → Bool) (n j k : ℕ) → LowestNot f n j → LowestNot f n k → j ≡ k
lowest_is_one f n j k a b = go (dec_lt j k) (dec_lt k j)
  where
    go : Dec (j < k) → Dec (k < j) → j ≡ k
    go (yes x) y = clashing (f j) (b.1 j x) (a.2 (omega (arith, b.0)))
    go (no x) (yes y) = clashing (f k) (a.1 k y) (b.2 (omega (arith, a.0)))
    go (no x) (no y) = omega (arith, x, y)

pub first_not_is_the_lowest : FirstNotIsTheLowest
unfolding FirstNotIsTheLowest
first_not_is_the_lowest f n k = (λ e. subst (LowestNot f n) e (first_is_lowest f n), λ w. lowest_is_one f n _ k (first_is_lowest f n) w)

-- ---- the count

pub count_of_is_how_many : CountOfIsHowMany
unfolding CountOfIsHowMany count_of
count_of_is_how_many f zero = ([], tt, λ o. (λ m. absurd (Memᴰ.not-nil m), λ w. absurd (omega (arith, w.0))), refl)
count_of_is_how_many f (suc n) = go (f n) refl (count_of_is_how_many f n)
  where
    R : ℕ → Type 0
    R n = (os : List ℕ) × Falling os × ((o : ℕ) → Memᴰ o os ↔ ((o < n) × (f o ≡ true))) × (count_of f 0 n ≡ length os)

    go : (t : Bool) → f n ≡ t → R n → R (suc n)
    go true e (os, fall, mem, c) = (
      n ∷ os,
      (λ y m. ((mem y).0 m).0, fall),
      λ o. (λ m. held o (Memᴰ.cases_cons m), λ w. hold o (ℕ_discrete o n) w.0 w.1),
      ap (λ (k : ℕ). count_of f 0 n + k) (pick_true {A = ℕ} 1 0 (ap f (zero-add n) ∙ e)) ∙ omega (arith, c),
    )
      where
        held : (o : ℕ) → (o ≡ n) ⊎ Memᴰ o os → (o < suc n) × (f o ≡ true)
        held o (inl x) = (omega arith, ap f x ∙ e)
        held o (inr x) = (omega (arith, ((mem o).0 x).0), ((mem o).0 x).1)

        hold : (o : ℕ) → Dec (o ≡ n) → o < suc n → f o ≡ true → Memᴰ o (n ∷ os)
        hold o (yes x) l y = Memᴰ.head x
        hold o (no x) l y = Memᴰ.tail ((mem o).1 (omega (arith, x), y))
    go false e (os, fall, mem, c) = (
      os,
      fall,
      λ o. (λ m. (omega (arith, ((mem o).0 m).0), ((mem o).0 m).1), λ w. (mem o).1 (below o (ℕ_discrete o n) w.0 w.1, w.1)),
      ap (λ (k : ℕ). count_of f 0 n + k) (pick_false {A = ℕ} 1 0 (ap f (zero-add n) ∙ e)) ∙ omega (arith, c),
    )
      where
        below : (o : ℕ) → Dec (o ≡ n) → o < suc n → f o ≡ true → o < n
        below o (yes x) l y = clashing (f n) (ap f (sym x) ∙ y) e
        below o (no x) l y = omega (arith, x)

count_le : (f : ℕ → Bool) (n : ℕ) → count_of f 0 n ≤ n
unfolding count_of
count_le f zero = omega arith
count_le f (suc n) = omega (arith, count_le f n, pick_small (f (0 + n)) 1)

pub count_is_full_if_every : CountIsFullIfEvery
unfolding CountIsFullIfEvery count_of
count_is_full_if_every f zero = (λ e o l. absurd (omega arith), λ w. refl)
count_is_full_if_every f (suc n) = (λ e. given e (count_is_full_if_every f n).0, λ w. asked w (count_is_full_if_every f n).1)
  where
    given : count_of f 0 n + pick (f (0 + n)) 1 0 ≡ suc n → (count_of f 0 n ≡ n → (o : ℕ) → o < n → f o ≡ true) → (o : ℕ) → o < suc n → f o ≡ true
    given e rest o l = go (tested (f (0 + n))) (ℕ_discrete o n)
      where
        go : (f (0 + n) ≡ true) ⊎ (f (0 + n) ≡ false) → Dec (o ≡ n) → f o ≡ true
        go (inl x) (yes y) = ap f (y ∙ sym (zero-add n)) ∙ x
        go (inl x) (no y) = rest (omega (arith, pick_true {A = ℕ} 1 0 x)) o (omega (arith, y))
        go (inr x) y = absurd (omega (arith, pick_false {A = ℕ} 1 0 x, count_le f n))

    asked : ((o : ℕ) → o < suc n → f o ≡ true) → (((o : ℕ) → o < n → f o ≡ true) → count_of f 0 n ≡ n) → count_of f 0 n + pick (f (0 + n)) 1 0 ≡ suc n
    asked w rest =
        let one : ◌≡◌ {A = ℕ} (pick (f (0 + n)) 1 0) 1 = pick_true {A = ℕ} 1 0 (ap f (zero-add n) ∙ w n (omega arith)) in
        omega (arith, rest (λ o l. w o (omega arith)))
