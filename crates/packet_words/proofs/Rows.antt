-- What the table's rows have in common, for the writer from words: their numbers and their own fields.
use Prim.Native.Nat.{ℕ, ◌<◌}
use borrow.Author.Tests.{leb-true}
use lib.Dec.{eqb, leb}
use mathlib.Core.List.{List, [], ◌∷◌, map}
use mathlib.Core.Path.{◌≡◌, refl, ap, ◌∙◌}
use native.Mathlib.Omega.{arith}
use Rattle.std.specs.Prelude.{Option, Some, None}
use Rattle.laws.specs.Choose.{pick}
use Rattle.protocol.specs.ByType.{column}
use Rattle.protocol.specs.Layout.{Field, layout, own_fields}
use Rattle.protocol.specs.Types.{row_in, row_of, rows}
use Rattle.protocol.specs.declared.table.TypeRow.{TypeRow}
use Rattle.packet_words.specs.Says.{own_by_type}
use Rattle.laws.proofs.Choosing.{pick_ap}
use Rattle.protocol.proofs.TableRule.{row_kind, row_passes}

-- types are bytes
pub row_small : (k : ℕ) (r : TypeRow) → row_of k ≡ Some r → k < 256
row_small k r e = omega (arith, row_kind k r e, leb-true r.kind 255 (row_passes (λ q. leb q.kind 255) refl k r e))

pub no_type_lem : (k : ℕ) → 255 < k → row_of k ≡ None
no_type_lem k h = go (row_of k) refl
  where
    go : (o : Option TypeRow) → row_of k ≡ o → row_of k ≡ None
    go None e = e
    go (Some r) e = absurd (omega (arith, row_small k r e))

-- ---- own fields

abbrev pub own_of : Option TypeRow → List Field
own_of None = []
own_of (Some r) = own_fields r

-- what a table's row says, as a column of it
as_column : (rs : List TypeRow) (k : ℕ) → own_of (row_in rs k) ≡ column [] (map (λ q. (q.kind, own_fields q)) rs) k
unfolding row_in
as_column [] k = refl
as_column (q ∷ rs) k =
    pick_ap own_of (eqb q.kind k) (Some q) (row_in rs k) ∙ ap (λ (l : List Field). pick (eqb q.kind k) (own_fields q) l) (as_column rs k)

-- the own fields of a type by its row and by its number
pub own_fields_lem : (k : ℕ) → own_of (row_of k) ≡ own_by_type k
unfolding row_of own_fields layout
own_fields_lem k = unfold pick in as_column rows k
