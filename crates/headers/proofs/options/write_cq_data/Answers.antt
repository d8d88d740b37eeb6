-- `headers::options::write_cq_data` meets its contract.
use mathlib.Core.Path.{refl, sym}
use native.Mathlib.Omega.{arith}
use Rattle.protocol.specs.Options.{cq_data_bytes}
use Rattle.laws.proofs.Storing.{store_nothing}
use Rattle.wire.proofs.Laws.{length_le}
use Rattle.headers.proofs.options.write_cq_data.Goals as goal

pub write-requires : goal.write-requires
unfolding cq_data_bytes
write-requires c = rw (c.in-Some.is, length_le) at c.requires

pub returns-in_default : goal.returns-in_default
unfolding cq_data_bytes
returns-in_default c = rw c.in_default.is (omega arith, sym (store_nothing _ _))

pub returns : goal.returns
unfolding cq_data_bytes
returns c = rw (c.in-Some.is, length_le, c.write.ensures) (refl, refl)
