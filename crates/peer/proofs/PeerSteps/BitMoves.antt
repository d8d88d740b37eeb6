-- The map's bits: what a segment leaves of them at a match and after, how far a message is by them, and what a report says of them.
use Rattle.std.proofs.Common.{◌≡◌, ℕ, ◌+◌, ◌*◌, ◌<◌, ◌≤◌, Bool, eqb, ◌⊎◌, ◌↔◌, List, length, sym, refl, ap, ◌∙◌, inl, inr, ⊎_elim, arith, eq-eqb, eqb-true, leb-false, leb-true}
use borrow.Author.Tests.{eqb-false}
use mathlib.Core.List.{Memᴰ}
use Rattle.bitmap.specs.Map.{bit_at, cleared, count_set, first_clear, marked}
use Rattle.bitmap.specs.Offsets.{count_of, first_not}
use Rattle.peer.specs.Checks.{Long}
use Rattle.peer.specs.Effects.{progress_of}
use Rattle.peer.specs.Sentences.{CountOfIsHowMany, Falling, FirstNotIsTheLowest, LongIs68And69}
use Rattle.peer.specs.Incomings.{is_long}
use Rattle.peer.specs.Moves.{AllIn, MatchBits, MoreBits, SomeMissing}
use Rattle.peer.specs.PacketBytes.{offset_in, size_in}
use Rattle.peer.specs.declared.types.Inbound.{Inbound}
use Rattle.peer.specs.declared.types.Progress.{Progress}
use Rattle.peer.specs.declared.types.Receive.{Receive}
use Rattle.bitmap.proofs.BitLaws.{bit_at_small, cleared_in, cleared_out, length_cleared, marked_in_lem, marked_out}
use Rattle.bitmap.proofs.CoverLaws.{count_cover, first_cover}
use Rattle.laws.proofs.Choosing.{branch, clashing}
use Rattle.laws.proofs.Comparing.{le_or_lt}
use Rattle.peer.proofs.Sentences.OffsetsHold.{count_of_is_how_many, first_not_is_the_lowest}
use Rattle.peer.proofs.Sentences.SentencesHold.{long_is_68_and_69}

-- ---- a segment's bits

-- what lies in no place of a range lies before or behind it
outside : (at n x : ℕ) → ((at ≤ x) × (x < at + n) → ⊥) → (x < at) ⊎ (at + n ≤ x)
outside at n x out = ⊎_elim (λ a. ⊎_elim (λ b. inr b) (λ b. absurd (out (a, b))) (le_or_lt (at + n) x)) (λ a. inl a) (le_or_lt at x)

module _ (ws bs : List ℕ) (r : Receive) (at n : ℕ) (place : at ≡ r.start + offset_in bs) (size : n ≡ size_in bs) where
  pub more_marked : at + n ≤ 64 * length ws → MoreBits bs r ws (marked ws at n)
  more_marked fit =
      record {
        stored = λ x w. marked_in_lem ws at n x (omega arith) (omega arith) (omega arith);
        others = λ x out. marked_out ws at n x (outside at n x (λ w. out (omega arith, omega arith)));
      }

  pub match_marked : at + n ≤ r.start + r.capacity → r.start + r.capacity ≤ 64 * length ws
      → MatchBits bs r ws (marked (cleared ws r.start r.capacity) at n)
  match_marked in_range fit =
      record {
        stored = λ x w. marked_in_lem mid at n x (omega arith) (omega arith) (omega (arith, length_cleared ws r.start r.capacity));
        clear = λ x w out. marked_out mid at n x (outside at n x (λ y. out (omega arith, omega arith))) ∙ cleared_in ws r.start r.capacity x w.0 w.1;
        others = λ x out.
            marked_out mid at n x (outside at n x (λ y. out (omega arith, omega arith)))
            ∙ cleared_out ws r.start r.capacity x (outside r.start r.capacity x out);
      }
    where
      mid : List ℕ
      mid = cleared ws r.start r.capacity

-- ---- the first clear bit, and the count

module _ (ws : List ℕ) (start len : ℕ) where
  f : ℕ → Bool
  f x = eqb (bit_at ws (start + x)) 1

  start_at : start + 0 ≡ start
  start_at = omega arith

  first_is : first_not f 0 len ≡ first_clear ws start len
  unfolding f
  first_is = sym (first_cover ws (λ x. eqb (bit_at ws (start + x)) 1) start len (λ o l. refl) 0 len (omega arith)) ∙ ap (λ (s : ℕ). first_clear ws s len) start_at

  pub first_lowest : (first_clear ws start len ≤ len) × ((x : ℕ) → x < first_clear ws start len → bit_at ws (start + x) ≡ 1)
      × (first_clear ws start len < len → bit_at ws (start + first_clear ws start len) ≡ 0)
  unfolding f FirstNotIsTheLowest
  first_lowest =
      let (a, b, c) = (first_not_is_the_lowest f len (first_clear ws start len)).0 first_is in
      let at : ℕ = start + first_clear ws start len in
      (a, λ x l. eqb-true _ _ (b x l), λ l. omega (arith, bit_at_small ws at, eqb-false (bit_at ws at) 1 (c l)))

  pub count_listed : (os : List ℕ) × Falling os × ((x : ℕ) → Memᴰ x os ↔ ((x < len) × (bit_at ws (start + x) ≡ 1)))
      × (count_set ws start len ≡ length os)
  unfolding f CountOfIsHowMany
  count_listed =
      let (os, fall, mem, count) = count_of_is_how_many f len in
      let is : count_set ws start len ≡ count_of f 0 len =
      ap (λ (s : ℕ). count_set ws s len) (sym start_at) ∙ count_cover ws f start len (λ o l. refl) 0 len (omega arith) in (
        os,
        fall,
        λ x. (λ m. let w = (mem x).0 m in (w.0, eqb-true _ _ w.1), λ w. (mem x).1 (w.0, eq-eqb _ _ w.1)),
        is ∙ count,
      )

-- ---- how far a message is

abbrev pub Reached : List ℕ → Inbound → Progress → Type 0
Reached now o Progress.Whole = AllIn now o o.message.length
Reached now o Progress.Due = Long o.message × AllIn now o o.message.granted × SomeMissing now o o.message.length
Reached now o Progress.Partial = SomeMissing now o o.message.length × (Long o.message → SomeMissing now o o.message.granted)

pub reached : (now : List ℕ) (o : Inbound) → Reached now o (progress_of now o)
unfolding progress_of LongIs68And69
reached now o =
    branch (Reached now o) _ _ _ (λ e. let same = eqb-true first o.message.length e in λ x l. low.1 x (omega arith)) (λ e.
    let short : first < o.message.length = omega (arith, low.0, eqb-false first o.message.length e) in
    let gap : SomeMissing now o o.message.length = (first, short, low.2 short) in
    branch (Reached now o) _ _ _
    (λ long. branch (Reached now o) _ _ _
    (λ d. ((long_is_68_and_69 o.message.shape o.message.tagged).0 long, λ x l. low.1 x (omega (arith, leb-true o.message.granted first d)), gap))
    (λ d. (gap, λ w. (first, omega (arith, leb-false o.message.granted first d), low.2 short))))
    (λ long. (gap, λ w. clashing (is_long o.message.shape) ((long_is_68_and_69 o.message.shape o.message.tagged).1 w) long)))
  where
    first : ℕ
    first = first_clear now o.receive.start o.message.length

    low : (first ≤ o.message.length) × ((x : ℕ) → x < first → bit_at now (o.receive.start + x) ≡ 1)
        × (first < o.message.length → bit_at now (o.receive.start + first) ≡ 0)
    low = first_lowest now o.receive.start o.message.length
