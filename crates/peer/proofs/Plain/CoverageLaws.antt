-- Laws of what segments cover: all of a range by its first offset that is not covered, and one segment more.
use Rattle.std.proofs.Common.{◌≡◌, ℕ, zero, suc, ◌+◌, ◌-◌, ◌*◌, ◌<◌, ◌≤◌, Bool, true, false, ◌&&◌, ◌||◌, eqb, ltb, leb, ◌⊎◌, List, [], ◌∷◌, length, get_or, sym, refl, ap, ◌∙◌, inl, inr, arith, ltb-true, le-ltb, lt-ltb, eq-eqb, ne_eqb, le-leb, leb-true}
use borrow.Author.Tests.{lt-leb}
use lib.Pow.{high, low}
use mathlib.Core.Bool.{and-false}
use native.Mathlib.Decide.{dec_lt, dec_le, ℕ_discrete}
use Rattle.bitmap.specs.Map.{bit_at, cleared, marked}
use Rattle.bitmap.specs.Offsets.{first_not}
use Rattle.laws.specs.Choose.{pick}
use Rattle.peer.specs.Coverage.{Segment, all_of, byte_of, bytes_from, covers, inside}
use Rattle.bitmap.proofs.BitLaws.{cleared_in, marked_in_lem, marked_out}
use Rattle.laws.proofs.Choosing.{and_intro, and_left, and_right, branch, clashing}

-- ---- the first offset that has not f

first_le : (f : ℕ → Bool) (at n : ℕ) → first_not f at n ≤ n
unfolding first_not
first_le f at zero = omega arith
first_le f at (suc n) = branch (λ (k : ℕ). k ≤ suc n) (f at) (suc (first_not f (suc at) n)) 0 (λ x. omega (arith, first_le f (suc at) n)) (λ x. omega arith)

-- every offset before it has f
first_before : (f : ℕ → Bool) (at n k : ℕ) → k < first_not f at n → f (at + k) ≡ true
unfolding first_not pick
first_before f at zero k h = absurd (omega arith)
first_before f at (suc n) zero h = go (f at) refl h
  where
    go : (t : Bool) → f at ≡ t → 0 < pick t (suc (first_not f (suc at) n)) 0 → f (at + 0) ≡ true
    go true e l = ap f (omega arith) ∙ e
    go false e l = absurd (omega arith)
first_before f at (suc n) (suc k) h = go (f at) (first_before f (suc at) n k) h
  where
    go : (t : Bool) → (k < first_not f (suc at) n → f (suc at + k) ≡ true) → suc k < pick t (suc (first_not f (suc at) n)) 0 → f (at + suc k) ≡ true
    go true rest l = ap f (omega arith) ∙ rest (omega arith)
    go false rest l = absurd (omega arith)

-- and it has not
first_at : (f : ℕ → Bool) (at n : ℕ) → first_not f at n < n → f (at + first_not f at n) ≡ false
unfolding first_not pick
first_at f at zero h = absurd (omega arith)
first_at f at (suc n) h = go (f at) refl (first_at f (suc at) n) h
  where
    go : (t : Bool) → f at ≡ t → (first_not f (suc at) n < n → f (suc at + first_not f (suc at) n) ≡ false)
        → pick t (suc (first_not f (suc at) n)) 0 < suc n → f (at + pick t (suc (first_not f (suc at) n)) 0) ≡ false
    go true e rest l = ap f (omega arith) ∙ rest (omega arith)
    go false e rest l = ap f (omega arith) ∙ e

-- ---- all of a range

pub all_at : (f : ℕ → Bool) (at n k : ℕ) → all_of f at n ≡ true → k < n → f (at + k) ≡ true
unfolding all_of
all_at f at zero k e h = absurd (omega arith)
all_at f at (suc n) k e h = elim (ℕ_discrete k n) as (λ d. f (at + k) ≡ true) [
  | yes x ↦ ap (λ (j : ℕ). f (at + j)) x ∙ and_right (all_of f at n) (f (at + n)) e
  | no x ↦ all_at f at n k (and_left (all_of f at n) (f (at + n)) e) (omega (arith, x))
]

pub at_all : (f : ℕ → Bool) (at n : ℕ) → ((k : ℕ) → k < n → f (at + k) ≡ true) → all_of f at n ≡ true
unfolding all_of
at_all f at zero g = refl
at_all f at (suc n) g = and_intro (all_of f at n) (f (at + n)) (at_all f at n (λ k h. g k (omega arith))) (g n (omega arith))

-- the first n offsets of a range have f exactly if the first that has not stands behind them
pub all_before : (f : ℕ → Bool) (len n : ℕ) → n ≤ len → all_of f 0 n ≡ leb n (first_not f 0 len)
all_before f len n h = go (dec_le n (first_not f 0 len))
  where
    go : Dec (n ≤ first_not f 0 len) → all_of f 0 n ≡ leb n (first_not f 0 len)
    go (yes x) = at_all f 0 n (λ k l. first_before f 0 len k (omega arith)) ∙ sym (le-leb n _ x)
    go (no x) =
        bool_false (all_of f 0 n) (λ e. clashing (f (0 + first_not f 0 len)) (all_at f 0 n (first_not f 0 len) e (omega (arith, x))) (first_at f 0 len (omega (arith, x))))
        ∙ sym (lt-leb n _ (omega (arith, x)))
      where
        bool_false : (t : Bool) → (t ≡ true → ⊥) → t ≡ false
        bool_false true n = absurd (n refl)
        bool_false false n = refl

pub first_whole : (f : ℕ → Bool) (len : ℕ) → eqb (first_not f 0 len) len ≡ leb len (first_not f 0 len)
first_whole f len = go (dec_le len (first_not f 0 len))
  where
    go : Dec (len ≤ first_not f 0 len) → eqb (first_not f 0 len) len ≡ leb len (first_not f 0 len)
    go (yes x) = eq-eqb (first_not f 0 len) len (omega (arith, first_le f 0 len)) ∙ sym (le-leb len _ x)
    go (no x) = ne_eqb (first_not f 0 len) len (λ e. omega (arith, x)) ∙ sym (lt-leb len _ (omega (arith, x)))

-- ---- a segment

pub inside_in : (g : Segment) (o : ℕ) → g.offset ≤ o → o < g.offset + length g.bytes → inside g o ≡ true
unfolding inside
inside_in g o a b = and_intro (leb g.offset o) (ltb o (g.offset + length g.bytes)) (le-leb _ _ a) (lt-ltb _ _ b)

pub inside_out : (g : Segment) (o : ℕ) → (o < g.offset) ⊎ (g.offset + length g.bytes ≤ o) → inside g o ≡ false
unfolding inside
inside_out g o (inl h) = ap (λ (t : Bool). t && ltb o (g.offset + length g.bytes)) (lt-leb _ _ h)
inside_out g o (inr h) = ap (λ (t : Bool). leb g.offset o && t) (le-ltb _ _ h) ∙ and-false (leb g.offset o)

pub inside_end : (g : Segment) (o : ℕ) → inside g o ≡ true → (g.offset ≤ o) × (o < g.offset + length g.bytes)
unfolding inside
inside_end g o e = (
  leb-true _ _ (and_left (leb g.offset o) (ltb o (g.offset + length g.bytes)) e),
  ltb-true _ _ (and_right (leb g.offset o) (ltb o (g.offset + length g.bytes)) e),
)

-- ---- the map's bits of a message are what its segments cover

abbrev pub Bits : List ℕ → ℕ → ℕ → List Segment → Type 0
Bits ws start len gs = (o : ℕ) → o < len → eqb (bit_at ws (start + o)) 1 ≡ covers gs o

-- a segment more, and its bits are set
pub bits_marked : (ws : List ℕ) (start len : ℕ) (g : Segment) (gs : List Segment) → start + len ≤ 64 * length ws → Bits ws start len gs
    → Bits (marked ws (start + g.offset) (length g.bytes)) start len (g ∷ gs)
unfolding covers
bits_marked ws start len g gs fit b o h = go (dec_lt o g.offset) (dec_lt o (g.offset + length g.bytes))
  where
    ws' : List ℕ
    ws' = marked ws (start + g.offset) (length g.bytes)

    out : (o < g.offset) ⊎ (g.offset + length g.bytes ≤ o) → (start + o < start + g.offset) ⊎ (start + g.offset + length g.bytes ≤ start + o)
        → eqb (bit_at ws' (start + o)) 1 ≡ (inside g o || covers gs o)
    out d e =
        ap (λ (x : ℕ). eqb x 1) (marked_out ws (start + g.offset) (length g.bytes) (start + o) e) ∙ b o h
        ∙ sym (ap (λ (t : Bool). t || covers gs o) (inside_out g o d))

    go : Dec (o < g.offset) → Dec (o < g.offset + length g.bytes) → eqb (bit_at ws' (start + o)) 1 ≡ (inside g o || covers gs o)
    go (yes x) y = out (inl x) (inl (omega arith))
    go (no x) (yes y) =
        ap (λ (z : ℕ). eqb z 1) (marked_in_lem ws (start + g.offset) (length g.bytes) (start + o) (omega (arith, x)) (omega arith) (omega arith))
        ∙ sym (ap (λ (t : Bool). t || covers gs o) (inside_in g o (omega (arith, x)) y))
    go (no x) (no y) = out (inr (omega (arith, y))) (inr (omega (arith, y)))

-- after a range is cleared nothing is covered
pub bits_cleared : (ws : List ℕ) (start capacity len : ℕ) → len ≤ capacity → Bits (cleared ws start capacity) start len []
unfolding covers
bits_cleared ws start capacity len h o l = ap (λ (x : ℕ). eqb x 1) (cleared_in ws start capacity (start + o) (omega arith) (omega arith))

-- bits elsewhere stay
pub bits_same : (ws ws' : List ℕ) (start len : ℕ) (gs : List Segment) → ((o : ℕ) → o < len → bit_at ws' (start + o) ≡ bit_at ws (start + o))
    → Bits ws start len gs → Bits ws' start len gs
bits_same ws ws' start len gs e b o h = ap (λ (x : ℕ). eqb x 1) (e o h) ∙ b o h

-- ---- the area's bytes of a message are those of its segments

-- the byte at x is `mem x`
abbrev pub Content : (ℕ → ℕ) → ℕ → ℕ → List Segment → Type 0
Content mem start len gs = (o : ℕ) → o < len → covers gs o ≡ true → mem (start + o) ≡ byte_of gs o

-- bytes are written from `at` on, and no other byte of the area changes
pub record Wrote (area : ℕ) (mem mem' : ℕ → ℕ) (at : ℕ) (bytes : List ℕ) : Type 0 where
  pub written : (x : ℕ) → x < length bytes → mem' (at + x) ≡ get_or bytes x 0
  pub kept : (y : ℕ) → y < area → (y < at) ⊎ (at + length bytes ≤ y) → mem' y ≡ mem y

-- a segment more, and its bytes are written
pub content_written : (area : ℕ) (mem mem' : ℕ → ℕ) (start len : ℕ) (g : Segment) (gs : List Segment) → start + len ≤ area
    → Wrote area mem mem' (start + g.offset) g.bytes → Content mem start len gs → Content mem' start len (g ∷ gs)
unfolding covers byte_of
content_written area mem mem' start len g gs fit w c o h e = go (inside g o) refl e
  where
    go : (t : Bool) → inside g o ≡ t → (t || covers gs o) ≡ true → mem' (start + o) ≡ pick t (get_or g.bytes (o - g.offset) 0) (byte_of gs o)
    go true x y =
        let (low, high) = inside_end g o x in
        unfold pick in (ap mem' (omega arith) ∙ w.written (o - g.offset) (omega arith))
    go false x y = unfold pick in (w.kept (start + o) (omega arith) (out (dec_lt o g.offset) (dec_lt o (g.offset + length g.bytes))) ∙ c o h y)
      where
        out : Dec (o < g.offset) → Dec (o < g.offset + length g.bytes) → (start + o < start + g.offset) ⊎ (start + g.offset + length g.bytes ≤ start + o)
        out (yes a) b = inl (omega arith)
        out (no a) (yes b) = clashing (inside g o) (inside_in g o (omega (arith, a)) b) x
        out (no a) (no b) = inr (omega (arith, b))

-- bytes elsewhere stay
pub content_same : (mem mem' : ℕ → ℕ) (start len : ℕ) (gs : List Segment) → ((o : ℕ) → o < len → mem' (start + o) ≡ mem (start + o))
    → Content mem start len gs → Content mem' start len gs
content_same mem mem' start len gs e c o h x = e o h ∙ c o h x

-- ---- the bytes of segments, as a list

pub length_bytes : (gs : List Segment) (o n : ℕ) → length (bytes_from gs o n) ≡ n
unfolding bytes_from
length_bytes gs o zero = refl
length_bytes gs o (suc n) = ap suc (length_bytes gs (suc o) n)

pub byte_at : (gs : List Segment) (o n i : ℕ) → i < n → get_or (bytes_from gs o n) i 0 ≡ byte_of gs (o + i)
unfolding bytes_from
byte_at gs o zero i h = absurd (omega arith)
byte_at gs o (suc n) zero h = ap (byte_of gs) (omega arith)
byte_at gs o (suc n) (suc i) h = byte_at gs (suc o) n i (omega arith) ∙ ap (byte_of gs) (omega arith)
