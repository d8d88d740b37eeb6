-- `headers::options::write_number` meets its contract.
use mathlib.Core.Path.{sym}
use native.Mathlib.Omega.{arith}
use Rattle.wire.specs.LittleEndian.{le_bytes}
use Rattle.laws.proofs.Storing.{store_nothing}
use Rattle.headers.proofs.options.write_number.Goals as goal

pub returns-then-width-eq0 : goal.returns-then-width-eq0
unfolding le_bytes
returns-then-width-eq0 c = rw c.if-width-eq0.true (omega arith, sym (store_nothing _ _))
