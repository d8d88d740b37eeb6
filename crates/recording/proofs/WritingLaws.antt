-- Laws of writing: numbers one after the other, the next of them and their end, and bytes in a buffer that has room or not.
use Prim.Native.Nat.{ℕ, suc, ◌+◌, ◌≤◌, ◌<◌}
use borrow.Author.Tests.{le-leb, lt-leb}
use lib.ListN.{length, get_or, drop, length-append, drop_of_length-le}
use lib.Seq.{drop-cons}
use mathlib.Core.List.{List, [], ◌++◌}
use mathlib.Core.Path.{◌≡◌}
use native.Mathlib.Nat.{add_assoc}
use native.Mathlib.Omega.{arith}
use Rattle.std.specs.Prelude.{None, Some}
use Rattle.laws.specs.Choose.{pick}
use Rattle.laws.specs.Parts.{store_at}
use Rattle.trace.specs.Numbers.{number_bytes}
use Rattle.trace.specs.Recorded.{numbers_bytes}
use Rattle.recording.specs.Writing.{wrote}
use Rattle.laws.proofs.Storing.{store_store}

pub numbers_next : (l : List ℕ) (k : ℕ) → k < length l → numbers_bytes (drop k l) ≡ number_bytes (get_or l k 0) ++ numbers_bytes (drop (suc k) l)
unfolding numbers_bytes
numbers_next l k h = rw (drop-cons l k 0 h)

pub numbers_length : (l : List ℕ) (k : ℕ) → k < length l
    → length (numbers_bytes (drop k l)) ≡ length (number_bytes (get_or l k 0)) + length (numbers_bytes (drop (suc k) l))
numbers_length l k h = rw (numbers_next l k h, length-append)

pub numbers_end : (l : List ℕ) (k : ℕ) → length l ≤ k → numbers_bytes (drop k l) ≡ []
unfolding numbers_bytes
numbers_end l k h = rw (drop_of_length-le l h)

-- ---- in a lent buffer

module _ (out : List ℕ) (at : ℕ) (a b : List ℕ) where
  pub wrote_short : length out < at + length a + length b → wrote out at (a ++ b) ≡ record { written = None; out = out }
  unfolding wrote pick
  wrote_short h = rw (length-append, lt-leb (at + (length a + length b)) (length out) (omega arith))

  -- one list behind the other
  pub wrote_both : at + length a + length b ≤ length out
      → wrote out at (a ++ b) ≡ record { written = Some (at + length a + length b); out = store_at (store_at out at a) (at + length a) b }
  unfolding wrote pick
  wrote_both h = rw (length-append, le-leb (at + (length a + length b)) (length out) (omega arith), store_store out at a b h, add_assoc)
