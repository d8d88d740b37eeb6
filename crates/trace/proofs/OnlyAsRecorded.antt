-- What is read was recorded: `SetUpOnlyAsRecorded` and `EntryOnlyAsRecorded` of specs/ExactlyRecorded.antt. Each number that is read stands
-- where it is read, and the next one behind it.
use Prim.Native.Nat.{ℕ, zero, suc, ◌+◌, ◌-◌, ◌≤◌, ◌<◌}
use borrow.Author.Tests.{eqb-true, leb-true}
use lib.Dec.{eqb, leb}
use lib.ListN.{length, get_or}
use mathlib.Core.Bool.{true}
use mathlib.Core.List.{List, [], ◌∷◌, append-nil}
use mathlib.Core.Path.{◌≡◌, refl}
use native.Mathlib.Omega.{arith}
use Rattle.std.specs.Prelude.{Option, None, Some}
use Rattle.laws.specs.Choose.{pick}
use Rattle.laws.proofs.Choosing.{branch}
use Rattle.laws.proofs.Storing.{length_part}
use Rattle.trace.specs.Entries.{cancel_at, entry_at, on_number, on_pair, packet_at, pair_at, post_at, post_of, receive_at, set_up_at}
use Rattle.trace.specs.ExactlyRecorded.{EntryOnlyAsRecorded, EntryStands, SetUpOnlyAsRecorded, SetUpStands, Stands}
use Rattle.trace.specs.Numbers.{number_at, number_bytes}
use Rattle.trace.specs.Recorded.{numbers_bytes}
use Rattle.trace.specs.ShortestForm.{IsWord}
use Rattle.trace.specs.declared.types.SetUp.{SetUp}
use Rattle.peer.specs.declared.types.Receive.{Receive}
use Rattle.peer.specs.declared.types.Request.{Request}
use Rattle.trace.proofs.NumberLaws.{number_inside, on_number_lem}
use Rattle.trace.proofs.ShortestForm.{number_shortest}
use Rattle.trace.proofs.StandsLaws.{numbers_then, part_stands, stands_then}

-- what holds of the result for a malformed pair and for each that may be read
on_pair_lem : {A : Type 0} (P : A → Type 0) (m : Option (ℕ × ℕ × ℕ)) (bad : A) (f : ℕ → ℕ → ℕ → A) → P bad
    → ((a b next : ℕ) → m ≡ Some (a, b, next) → P (f a b next)) → P (on_pair m bad f)
on_pair_lem P None bad f p q = p
on_pair_lem P (Some (a, b, next)) bad f p q = q a b next refl

-- a kind that is 0 or 1 is that of its receive
kind_is : (kind : ℕ) → kind ≤ 1 → pick (eqb kind 1) 1 0 ≡ kind
unfolding pick
kind_is zero h = refl
kind_is (suc zero) h = refl
kind_is (suc (suc k)) h = absurd (omega arith)

module _ (s : List ℕ) (bytes : (i : ℕ) → get_or s i 0 < 256) where
  number_stands : (at v next : ℕ) → number_at s at ≡ Some (v, next) → IsWord v × Stands s at (numbers_bytes (v ∷ [])) next
  unfolding numbers_bytes
  number_stands at v next e =
      let (small, place, form) = number_shortest s at v next bytes e in
      let n : next - at ≡ length (number_bytes v) = omega arith in
      rw append-nil (small, record { place = place; inside = (number_inside s at v next e).0; there = rw n at form })

  abbrev PairStands : ℕ → Option (ℕ × ℕ × ℕ) → Type 0
  PairStands at None = Unit {0}
  PairStands at (Some (a, b, next)) = IsWord a × IsWord b × Stands s at (numbers_bytes (a ∷ b ∷ [])) next

  pair_stands : (at a b next : ℕ) → pair_at s at ≡ Some (a, b, next) → IsWord a × IsWord b × Stands s at (numbers_bytes (a ∷ b ∷ [])) next
  unfolding pair_at
  pair_stands at a b next e =
      rw e at (on_number_lem (PairStands at) (number_at s at) None (λ a m. on_number (number_at s m) None (λ b end. Some (a, b, end))) tt
      (λ a m p. on_number_lem (PairStands at) (number_at s m) None (λ b end. Some (a, b, end)) tt
      (λ b end q.
      let x = number_stands at a m p in
      let y = number_stands m b end q in
      (x.0, y.0, numbers_then (a ∷ []) (b ∷ []) x.1 y.1))))

  -- ---- the set-up

  abbrev SetUpHolds : ℕ → Option (SetUp × ℕ) → Type 0
  SetUpHolds at None = Unit {0}
  SetUpHolds at (Some (u, next)) = SetUpStands s at u.n u.area u.limit next

  set_up_holds : (at : ℕ) → SetUpHolds at (set_up_at s at)
  unfolding set_up_at
  set_up_holds at =
      on_pair_lem (SetUpHolds at) (pair_at s at) None _ tt
      (λ n area m p. on_number_lem (SetUpHolds at) (number_at s m) None _ tt
      (λ limit end q.
      let (hn, ha, x) = pair_stands at n area m p in
      let (hl, y) = number_stands m limit end q in
      (hn, ha, hl, numbers_then (n ∷ area ∷ []) (limit ∷ []) x y)))

  -- ---- an entry

  abbrev Holds : ℕ → Option (Request × ℕ) → Type 0
  Holds at None = Unit {0}
  Holds at (Some (q, next)) = EntryStands s at q next

  -- its first number stands before the rest
  module _ (at m : ℕ) where
    post_holds : Stands s at (numbers_bytes (1 ∷ [])) m → Holds at (post_at s m)
    unfolding post_at receive_at
    post_holds w =
        on_pair_lem (Holds at) (pair_at s m) None _ tt
        (λ peer kind k p. branch (Holds at) _ _ _
        (λ t. on_pair_lem (λ (a : Option (Receive × ℕ)). Holds at (post_of peer a)) (pair_at s k) None _ tt
        (λ tag ignore l q. on_pair_lem (λ (a : Option (Receive × ℕ)). Holds at (post_of peer a)) (pair_at s l) None _ tt
        (λ start capacity end r.
        let (hp, hk, x) = pair_stands m peer kind k p in
        let (ht, hi, y) = pair_stands k tag ignore l q in
        let (hs, hc, z) = pair_stands l start capacity end r in
        let xyz = numbers_then (peer ∷ kind ∷ tag ∷ ignore ∷ []) (start ∷ capacity ∷ []) (numbers_then (peer ∷ kind ∷ []) (tag ∷ ignore ∷ []) x y) z in
        (hp, ht, hi, hs, hc, rw (kind_is kind (leb-true kind 1 t)) (numbers_then (1 ∷ []) (peer ∷ kind ∷ tag ∷ ignore ∷ start ∷ capacity ∷ []) w xyz)))))
        (λ t. tt))

    packet_holds : Stands s at (numbers_bytes (2 ∷ [])) m → Holds at (packet_at s m)
    unfolding packet_at
    packet_holds w =
        on_pair_lem (Holds at) (pair_at s m) None _ tt
        (λ peer count k p. branch (Holds at) (leb (k + count) (length s)) _ _
        (λ t.
        let (hp, hc, x) = pair_stands m peer count k p in
        let room : k + count ≤ length s = leb-true _ _ t in
        let n = length_part s k count room in
        (hp, hc, refl, refl, rw n (stands_then (numbers_then (2 ∷ []) (peer ∷ count ∷ []) w x) (part_stands s k count room))))
        (λ t. tt))

    cancel_holds : Stands s at (numbers_bytes (3 ∷ [])) m → Holds at (cancel_at s m)
    unfolding cancel_at
    cancel_holds w =
        on_pair_lem (Holds at) (pair_at s m) None _ tt
        (λ peer slot k p.
        let (hp, hs, x) = pair_stands m peer slot k p in
        (hp, hs, numbers_then (3 ∷ []) (peer ∷ slot ∷ []) w x))

  -- it is the one that its test says
  first_is : (at m first k : ℕ) → eqb first k ≡ true → Stands s at (numbers_bytes (first ∷ [])) m → Stands s at (numbers_bytes (k ∷ [])) m
  first_is at m first k t w = let e : first ≡ k = eqb-true first k t in rw e at w

  holds : (at : ℕ) → Holds at (entry_at s at)
  unfolding entry_at
  holds at =
      on_number_lem (Holds at) (number_at s at) None _ tt
      (λ first m p.
      let w = (number_stands at first m p).1 in
      branch (Holds at) _ _ _ (λ t. post_holds at m (first_is at m first 1 t w))
      (λ _. branch (Holds at) _ _ _ (λ t. packet_holds at m (first_is at m first 2 t w))
      (λ _. branch (Holds at) _ _ _ (λ t. cancel_holds at m (first_is at m first 3 t w)) (λ _. tt))))

pub set_up_only_as_recorded : SetUpOnlyAsRecorded
set_up_only_as_recorded s at n area limit next bytes e = rw e at (set_up_holds s bytes at)

pub entry_only_as_recorded : EntryOnlyAsRecorded
entry_only_as_recorded s at q next bytes p = rw p at (holds s bytes at)
