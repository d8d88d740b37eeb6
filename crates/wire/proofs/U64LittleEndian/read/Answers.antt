-- `wire::U64LittleEndian::read` meets its contract.
use mathlib.Core.Path.{sym}
use native.Mathlib.Omega.{arith}
use Rattle.wire.proofs.Laws.{le_halves}
use Rattle.wire.proofs.U64LittleEndian.read.Goals as goal

pub returns : goal.returns
returns c =
    let a = c.args in
    rw (c.read.ensures, c.read-2.ensures) (sym (le_halves 4 4 a.s.now a.at (omega arith)))
