-- A range of a map that a set-up can have, and that a range is marked, unless one of its bits is set, by the test and the marks in turn.
use Prim.Native.Nat.{ℕ, ◌+◌, ◌*◌, ◌/◌, ◌^◌, ◌≤◌, ◌<◌}
use borrow.Author.Tests.{leb-true}
use lib.Dec.{leb}
use lib.ListN.{length}
use mathlib.Core.Bool.{Bool, true, false}
use mathlib.Core.List.{List}
use mathlib.Core.Path.{◌≡◌, refl}
use native.Mathlib.Omega.{arith}
use Rattle.bitmap.specs.Map.{marked, touched}
use Rattle.peer.specs.State.{area_limit}
use Rattle.engine.specs.SetUp.{peer_count}
use Rattle.laws.specs.Choose.{pick}
use Rattle.laws.proofs.Choosing.{and_left, and_right}
use Rattle.quagfeather.specs.Exported.{Marked, in_map, mark_of, mark_untested_of, overlap_test_of}

pub in_map_lem : (words at n : ℕ) → in_map words at n ≡ true → (at + n ≤ 64 * words) × (at + n < 2 ^ 63)
unfolding in_map
in_map_lem words at n e =
    let few = leb-true words (peer_count * (area_limit / 64)) (and_left _ (leb (at + n) (64 * words)) e) in
    let inside = leb-true (at + n) (64 * words) (and_right (leb words (peer_count * (area_limit / 64))) _ e) in
    (inside, omega arith)

module _ (m : List ℕ) (at n : ℕ) where
  -- what is answered of a range in the map, by what the test says and what the marks leave
  module _ (inside : in_map (length m) at n ≡ true) where
    pub test_taken : touched m at n ≡ true → 16 ≡ overlap_test_of m at n
    unfolding overlap_test_of pick
    test_taken e = rw (inside, e)

    pub test_left : touched m at n ≡ false → 0 ≡ overlap_test_of m at n
    unfolding overlap_test_of pick
    test_left e = rw (inside, e)

    pub mark_made : (after : List ℕ) → after ≡ marked m at n → record { refusal = 0; map = after } ≡ mark_untested_of m at n
    unfolding mark_untested_of pick
    mark_made after e = rw (inside, e)

  -- what the test answers decides: 0, and the range is marked, or a refusal, which is the answer
  abbrev pub Decides : ℕ → Type 0
  Decides k = (k ≡ 0 → mark_untested_of m at n ≡ mark_of m at n) × ((k ≡ 0 → ⊥) → ◌≡◌ {A = Marked} (record { refusal = k; map = m }) (mark_of m at n))

  pub decides : (k : ℕ) → k ≡ overlap_test_of m at n → Decides k
  unfolding overlap_test_of mark_untested_of mark_of pick
  decides k e = rw e (go (in_map (length m) at n) (touched m at n))
    where
      go : (a b : Bool)
          → let none : Marked = record { refusal = 0; map = marked m at n } in let bad : Marked = record { refusal = 3; map = m } in
          let both = pick a (pick b (record { refusal = 16; map = m }) none) bad in
          let k : ℕ = pick a (pick b 16 0) 3 in
          (k ≡ 0 → pick a none bad ≡ both) × ((k ≡ 0 → ⊥) → ◌≡◌ {A = Marked} (record { refusal = k; map = m }) both)
      go true true = unfold pick in (λ z. absurd (omega arith), λ z. refl)
      go true false = unfold pick in (λ z. refl, λ z. absurd (z refl))
      go false b = unfold pick in (λ z. refl, λ z. refl)
