-- `headers::table::find` meets its contract: `row_in` finds the first row of the type.
use lib.Dec.{eqb}
use mathlib.Core.Bool.{Bool, true, false}
use mathlib.Core.List.{List, [], ◌∷◌}
use mathlib.Core.Path.{◌≡◌, refl, ◌∙◌}
use Prim.Native.Nat.{ℕ}
use Rattle.std.specs.Prelude.{Some, cond}
use Rattle.std.specs.List.{find}
use Rattle.laws.specs.Choose.{pick}
use Rattle.protocol.specs.Types.{row_in, row_of, rows}
use Rattle.protocol.specs.declared.table.TypeRow.{TypeRow}
use Rattle.headers.proofs.table.find.Goals as goal

found : (k : ℕ) (rs : List TypeRow) → find (λ (r : TypeRow). eqb r.kind k) rs ≡ row_in rs k
unfolding row_in pick
found k [] = refl
found k (r ∷ rs) = rw (found k rs) (chosen (eqb r.kind k))
  where
    chosen : (t : Bool) → cond t (Some r) (row_in rs k) ≡ pick t (Some r) (row_in rs k)
    chosen true = refl
    chosen false = refl

pub returns : goal.returns
unfolding row_of
returns c =
    c.copied.ensures ∙ (c.first.ensures ∙ found c.args.kind rows)
