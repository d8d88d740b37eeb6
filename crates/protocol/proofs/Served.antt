-- What a reader of some types takes, the reader of all types takes alike.
use Prim.Native.Nat.{ℕ}
use lib.ListN.{get_or}
use mathlib.Core.Bool.{Bool, true, false}
use mathlib.Core.List.{List}
use mathlib.Core.Path.{◌≡◌, ◌∙◌}
use native.Mathlib.Omega.{arith}
use Rattle.std.specs.Prelude.{Option, Some, None, Ok, Err}
use Rattle.laws.specs.Choose.{pick}
use Rattle.protocol.specs.Reading.{read_flags, read_of, read_typed}
use Rattle.protocol.specs.Refusals.{bad_type}
use Rattle.protocol.specs.Types.{admit, every_row, row_of}
use Rattle.protocol.specs.declared.table.TypeRow.{TypeRow}
use Rattle.protocol.specs.declared.types.Packet.{Packet}
use Rattle.protocol.specs.declared.refusals.Refusal.{Refusal}
use Rattle.laws.proofs.Choosing.{pick_false, pick_first, pick_second, pick_true}

no_packet : (k : Refusal) (p : Packet) → Err k ≡ Ok p → ⊥
no_packet k p e = let z : ◌≡◌ {A = ℕ} 0 1 = cc in omega arith

found_any : (which : TypeRow → Bool) (o : Option TypeRow) (bs : List ℕ) (p : Packet) → read_typed (admit which o) bs ≡ Ok p → read_typed (admit every_row o) bs ≡ Ok p
unfolding read_typed admit pick
found_any which None bs p e = absurd (no_packet bad_type p e)
found_any which (Some r) bs p e = go (which r) e
  where
    go : (t : Bool) → read_typed (pick t (Some r) None) bs ≡ Ok p → read_flags r bs ≡ Ok p
    go true x = x
    go false x = absurd (no_packet bad_type p x)

pub any_read : (which : TypeRow → Bool) (limit : ℕ) (bs : List ℕ) (p : Packet) → read_of which limit bs ≡ Ok p → read_of every_row limit bs ≡ Ok p
unfolding read_of
any_read which limit bs p e =
    let (a, e) = pick_second _ _ _ _ (no_packet _ p) e in
    let (b, e) = pick_second _ _ _ _ (no_packet _ p) e in
    let (c, e) = pick_first _ _ _ _ (no_packet _ p) e in
    pick_false _ _ a ∙ pick_false _ _ b ∙ pick_true _ _ c ∙ found_any which (row_of (get_or bs 0 0)) bs p e
