-- Laws of `requests_from`: one more call, one that is none, how many there are, and that each lies in what is lent.
use Prim.Native.Nat.{ℕ, zero, suc, ◌+◌, ◌≤◌}
use borrow.Author.Tests.{leb-true}
use lib.Dec.{eqb, leb}
use lib.ListN.{length, get_or}
use mathlib.Core.List.{List, [], ◌∷◌}
use mathlib.Core.Path.{◌≡◌, subst}
use native.Mathlib.Omega.{arith}
use Rattle.std.specs.Prelude.{Option, None, Some}
use Rattle.laws.proofs.Choosing.{branch}
use Rattle.peer.specs.declared.types.Request.{Request}
use Rattle.peer.specs.LentCalls.{LiesWithin}
use Rattle.packed.specs.Calls.{packed_packet, packed_post, request_at, words_each}
use Rattle.packed.specs.Running.{on_found_request, requests_from}

module _ (k : ℕ) (w bytes replies : List ℕ) (at : ℕ) where
  pub requests_next : (q : Request) → request_at w (length bytes) (length replies) at ≡ Some q
      → requests_from (suc k) w bytes replies at ≡ q ∷ requests_from k w bytes replies (at + words_each)
  unfolding requests_from
  requests_next q e = rw e

  pub requests_end : request_at w (length bytes) (length replies) at ≡ None → requests_from (suc k) w bytes replies at ≡ []
  unfolding requests_from
  requests_end e = rw e

pub calls_few : (k : ℕ) (w bytes replies : List ℕ) (at : ℕ) → length (requests_from k w bytes replies at) ≤ k
unfolding requests_from
calls_few zero w bytes replies at = omega arith
calls_few (suc k) w bytes replies at = found (request_at w (length bytes) (length replies) at) (calls_few k w bytes replies (at + words_each))
  where
    found : (f : Option Request) → length (requests_from k w bytes replies (at + words_each)) ≤ k → length (on_found_request f [] (λ q. q ∷ requests_from k w bytes replies (at + words_each))) ≤ suc k
    found None l = omega arith
    found (Some q) l = omega arith

-- ---- packet and reply buffer lie in what is lent

abbrev InsideFound : ℕ → ℕ → Option Request → Type 0
InsideFound bytes replies None = Unit {0}
InsideFound bytes replies (Some q) = LiesWithin bytes replies q.call

found_inside : (w : List ℕ) (bytes replies at : ℕ) → InsideFound bytes replies (request_at w bytes replies at)
unfolding request_at packed_post packed_packet
found_inside w bytes replies at =
    let P : Option Request → Type 0 = InsideFound bytes replies in
    branch P (eqb (get_or w at 0) 1) _ _ (λ h. branch P (leb (get_or w (at + 2) 0) 1) _ _ (λ g. tt) (λ g. tt))
    (λ h. branch P (eqb (get_or w at 0) 2) _ _
    (λ h. branch P (leb (get_or w (at + 2) 0 + get_or w (at + 3) 0) bytes) _ _
    (λ g. branch P (leb (get_or w (at + 4) 0 + get_or w (at + 5) 0) replies) _ _ (λ l. (leb-true _ _ g, leb-true _ _ l)) (λ l. tt)) (λ g. tt))
    (λ h. branch P (eqb (get_or w at 0) 3) _ _ (λ h. tt) (λ h. branch P (eqb (get_or w at 0) 4) _ _ (λ h. tt) (λ h. tt))))

pub request_inside : (w : List ℕ) (bytes replies at : ℕ) (q : Request) → request_at w bytes replies at ≡ Some q → LiesWithin bytes replies q.call
request_inside w bytes replies at q e = subst (InsideFound bytes replies) e (found_inside w bytes replies at)
