-- `headers::options::read_connid` meets its contract.
use Rattle.laws.specs.Choose.{pick}
use Rattle.protocol.specs.Options.{connid_in}
use Rattle.headers.proofs.options.read_connid.Goals as goal

pub returns-then-there : goal.returns-then-there
unfolding connid_in pick
returns-then-there c = rw (c.if-there.true, c.read.ensures)

pub returns-else-there : goal.returns-else-there
unfolding connid_in pick
returns-else-there c = rw c.if-there.false
