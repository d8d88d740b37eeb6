-- `wire::U64LittleEndian::write` meets its contract.
use native.Mathlib.Omega.{arith}
use Rattle.wire.proofs.Laws.{store_halves}
use Rattle.wire.proofs.U64LittleEndian.write.Goals as goal

pub returns : goal.returns
returns c =
    let a = c.args in
    let w = c.write in
    rw (c.write-2.ensures, w.ensures) (store_halves 4 4 a.self a.s.now a.at (omega arith))
