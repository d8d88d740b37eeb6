-- `headers::flags::raw_address` meets its contract.
use Rattle.protocol.specs.Optional.{flagged}
use Rattle.headers.proofs.flags.raw_address.Goals as goal

pub returns-then-row : goal.returns-then-row
unfolding flagged
returns-then-row c = rw c.if-row.true c.has.ensures

pub returns-else-row : goal.returns-else-row
unfolding flagged
returns-else-row c = rw c.if-row.false
