-- `wire::U16LittleEndian::read` meets its contract.
use Prim.Native.Nat.{suc, ◌<◌}
use lib.ListN.{length}
use lib.Seq.{drop-cons}
use native.Mathlib.Numerals.{add-one}
use native.Mathlib.Omega.{arith}
use Rattle.laws.specs.Parts.{part}
use Rattle.wire.specs.LittleEndian.{le_at, le_of}
use Rattle.wire.proofs.U16LittleEndian.read.Goals as goal

pub returns : goal.returns
unfolding le_at le_of part
returns c =
    let s = c.args.s.now in
    let i = c.args.at in
    let h : i < length s = omega arith in
    let k : suc i < length s = omega arith in
    rw (drop-cons s i 0 h, drop-cons s (suc i) 0 k, add-one) (omega arith)
