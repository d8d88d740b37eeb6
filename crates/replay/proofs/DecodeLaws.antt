-- Laws of `decode`: one more entry, a bad one, the end, and how many calls there are.
use Prim.Native.Nat.{ℕ, zero, suc, ◌≤◌, ◌<◌}
use borrow.Author.Tests.{le-leb, lt-leb}
use lib.Dec.{leb}
use lib.ListN.{length}
use mathlib.Core.List.{List}
use mathlib.Core.Logic.{◌⊎◌, ⊎_elim}
use mathlib.Core.Path.{◌≡◌, refl, sym, ap, ◌∙◌}
use native.Mathlib.Omega.{arith}
use Rattle.std.specs.Prelude.{Option, None, Some}
use Rattle.laws.proofs.Choosing.{pick_either, pick_false, pick_true}
use Rattle.peer.specs.declared.types.Request.{Request}
use Rattle.trace.specs.Entries.{entry_at}
use Rattle.replay.specs.Decoding.{Decoded, decode, ending_at, lent_buffer, no_more, on_found_entry, with_first}
use Rattle.replay.specs.declared.types.Ending.{Ending}

module _ (k : ℕ) (s buffer : List ℕ) (at : ℕ) where
  pub decode_entry : (q : Request) (next : ℕ) → at < length s → entry_at s at ≡ Some (q, next)
      → decode (suc k) s buffer at ≡ with_first (lent_buffer (length buffer) q) (decode k s buffer next)
  unfolding decode
  decode_entry q next h f = pick_false _ _ (lt-leb (length s) at h) ∙ rw f

  pub decode_bad : at < length s → entry_at s at ≡ None → decode (suc k) s buffer at ≡ no_more (Ending.Bad at)
  unfolding decode
  decode_bad h f = pick_false _ _ (lt-leb (length s) at h) ∙ rw f

-- no entry may be taken, or none is left
pub decode_end : (k : ℕ) (s buffer : List ℕ) (at : ℕ) → (k ≡ 0) ⊎ (length s ≤ at) → decode k s buffer at ≡ no_more (ending_at at (length s))
unfolding decode
decode_end zero s buffer at h = refl
decode_end (suc k) s buffer at h =
    let l : length s ≤ at = ⊎_elim (λ e. absurd (omega arith)) (λ e. e) h in
    pick_true _ _ (le-leb (length s) at l) ∙ ap no_more (sym (pick_true _ _ (le-leb (length s) at l)))

-- "Replay takes at most a given number of entries"
pub calls_few : (k : ℕ) (s buffer : List ℕ) (at : ℕ) → length (decode k s buffer at).calls ≤ k
unfolding decode
calls_few zero s buffer at = omega arith
calls_few (suc k) s buffer at =
    pick_either (λ (d : Decoded). length d.calls ≤ suc k) (leb (length s) at) (omega arith) (found (entry_at s at) (calls_few k s buffer))
  where
    found : (f : Option (Request × ℕ)) → ((next : ℕ) → length (decode k s buffer next).calls ≤ k)
        → length (on_found_entry f (no_more (Ending.Bad at)) (λ q next. with_first (lent_buffer (length buffer) q) (decode k s buffer next))).calls ≤ suc k
    found None ih = omega arith
    found (Some (q, next)) ih = let l = ih next in omega arith
