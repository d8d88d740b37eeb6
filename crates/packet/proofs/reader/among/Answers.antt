-- `packet::reader::among` meets its contract. What `typed` requires, the rule of the table, holds of a row that is found.
use Prim.Native.Nat.{ℕ}
use borrow.Author.Tests.{lt-ltb, le-ltb, eq-eqb, ne_eqb}
use lib.ListN.{get_or}
use mathlib.Core.Bool.{Bool}
use mathlib.Core.Logic.{⊎_elim}
use mathlib.Core.Path.{◌≡◌, sym, ◌∙◌}
use native.Mathlib.Omega.{arith}
use Rattle.std.specs.Prelude.{Option, Some, None}
use Rattle.laws.specs.Choose.{pick}
use Rattle.protocol.specs.Reading.{read_of, read_typed}
use Rattle.protocol.specs.Types.{admit, reader_rows, row_of}
use Rattle.protocol.specs.declared.table.TypeRow.{TypeRow}
use Rattle.laws.proofs.Choosing.{pick_cases}
use Rattle.protocol.proofs.TableRule.{sound}
use Rattle.packet.proofs.reader.among.Goals as goal
use Rattle.packet.proofs.reader.among.Goals.{After-shared_slice_known-3-1}

-- what is admitted was found
admitted : (which : TypeRow → Bool) (f : Option TypeRow) (r : TypeRow) → admit which f ≡ Some r → f ≡ Some r
unfolding admit
admitted which None r e = e
admitted which (Some q) r e =
    ⊎_elim (λ w. w.1) (λ w. let z : ◌≡◌ {A = ℕ} 0 1 = cc in absurd (omega arith))
    (pick_cases (which q) (Some q) None (Some r) e)

-- past the tests of length and version, the type is looked for
passed : (c : After-shared_slice_known-3-1) → let a = c.args in
    read_of (reader_rows a.all) a.limit a.bytes.now ≡ read_typed (admit (reader_rows a.all) (row_of (get_or a.bytes.now 0 0))) a.bytes.now
unfolding read_of pick
passed c =
    rw (le-ltb _ _ c.if-limit-n.false, le-ltb _ _ c.if-n-lt4.false, eq-eqb _ _ c.if-bytes-ne-VERSION.false)

pub returns-then-limit-n : goal.returns-then-limit-n
unfolding read_of pick
returns-then-limit-n c = rw (lt-ltb _ _ c.if-limit-n.true)

pub returns-then-n-lt4 : goal.returns-then-n-lt4
unfolding read_of pick
returns-then-n-lt4 c =
    rw (le-ltb _ _ c.if-limit-n.false, lt-ltb _ _ c.if-n-lt4.true)

pub returns-then-bytes-ne-VERSION : goal.returns-then-bytes-ne-VERSION
unfolding read_of pick
returns-then-bytes-ne-VERSION c =
    rw (
      le-ltb _ _ c.if-limit-n.false,
      le-ltb _ _ c.if-n-lt4.false,
      ne_eqb _ _ c.if-bytes-ne-VERSION.true,
    )

pub returns-in_default : goal.returns-in_default
unfolding read_typed
returns-in_default c =
    rw (passed (goal.at.returns-in_default c).After-shared_slice_known-3-1, ← c.find_among.ensures, c.in_default.is)

pub typed-requires-clause-sound : goal.typed-requires-clause-sound
typed-requires-clause-sound c =
    let e = sym c.find_among.ensures ∙ c.in-Some.is in sound _ _ (admitted _ _ _ e)

pub returns : goal.returns
unfolding read_typed
returns c =
    rw (passed (goal.at.returns c).After-shared_slice_known-3-1, ← c.find_among.ensures, c.in-Some.is, c.typed.ensures)
