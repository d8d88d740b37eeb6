-- `headers::sections::find` meets its contract: a packet that ends before its mandatory header does is cut; of any other `behind` answers.
use Rattle.laws.specs.Choose.{pick}
use Rattle.protocol.proofs.ArrayLaws.{array_small}
use Rattle.protocol.proofs.ReadingLaws.{cut_before}
use Rattle.protocol.proofs.RowLaws.{after_no_array, header_bounds}
use Rattle.protocol.proofs.StepLaws.{extent_in_steps}
use Rattle.protocol.specs.SectionsInTurn.{after_array, sections_behind}
use Prim.Native.Nat.{◌^◌, ◌<◌}
use borrow.Author.Tests.{ne_eqb}
use mathlib.Core.Path.{sym, ◌∙◌}
use native.Mathlib.Omega.{arith}
use Rattle.headers.proofs.sections.find.Goals as goal
use Rattle.headers.proofs.sections.find.Goals.{After-length-size}

-- an array has less than 2^40 bytes
array_short : (c : After-length-size) → c.length-size.result < 2 ^ 40
array_short c =
    let l : c.count.result < 2 ^ 32 = omega arith in
    rw c.length-size.ensures (array_small c.args.row c.count.result c.requires l)

pub returns-then-bytes-at : goal.returns-then-bytes-at
unfolding sections_behind after_array
returns-then-bytes-at c =
    let a = c.args in
    sym (extent_in_steps a.row a.flags a.bytes.now ∙ cut_before _ _ _ _ _ (omega arith))

pub returns-then-row-eq0 : goal.returns-then-row-eq0
returns-then-row-eq0 c =
    let a = c.args in
    rw (c.behind.ensures, extent_in_steps a.row a.flags a.bytes.now, after_no_array a.row a.bytes.now c.if-row-eq0.true)

pub behind-requires-2-clause-at_bound : goal.behind-requires-2-clause-at_bound
behind-requires-2-clause-at_bound c =
    omega (arith, header_bounds c.args.row c.requires, array_short (goal.at.behind-requires-2-clause-at_bound c).After-length-size)

pub returns : goal.returns
unfolding after_array pick
returns c =
    let a = c.args in
    let e = ne_eqb _ _ c.if-row-eq0.false in
    rw (c.behind-2.ensures, c.length-size.ensures, c.count.ensures, extent_in_steps a.row a.flags a.bytes.now, e)

pub overflow_add-at : goal.overflow_add-at
overflow_add-at c = omega (arith, header_bounds c.args.row c.requires, array_short (goal.at.overflow_add-at c).After-length-size)
