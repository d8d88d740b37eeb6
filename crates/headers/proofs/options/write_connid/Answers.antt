-- `headers::options::write_connid` meets its contract.
use mathlib.Core.Path.{sym}
use native.Mathlib.Omega.{arith}
use Rattle.protocol.specs.Options.{connid_bytes}
use Rattle.laws.proofs.Storing.{store_nothing}
use Rattle.wire.proofs.Laws.{length_le}
use Rattle.headers.proofs.options.write_connid.Goals as goal

pub write_number-requires-clause-width_in_bounds : goal.write_number-requires-clause-width_in_bounds
unfolding connid_bytes
write_number-requires-clause-width_in_bounds c =
    let p = c.requires in rw (c.in-Some.is, length_le) at p.connid_in_bounds

pub returns-in-None : goal.returns-in-None
unfolding connid_bytes
returns-in-None c = rw c.in-None.is (omega arith, sym (store_nothing _ _))

pub returns-in-Some : goal.returns-in-Some
unfolding connid_bytes
returns-in-Some c = rw (c.in-Some.is, length_le) c.write_number.ensures
