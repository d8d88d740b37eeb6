-- `headers::options::read_cq_data` meets its contract.
use Rattle.laws.specs.Choose.{pick}
use Rattle.protocol.specs.Options.{cq_data_in}
use Rattle.headers.proofs.options.read_cq_data.Goals as goal

pub returns-then-there : goal.returns-then-there
unfolding cq_data_in pick
returns-then-there c = rw (c.if-there.true, c.read.ensures)

pub returns-else-there : goal.returns-else-there
unfolding cq_data_in pick
returns-else-there c = rw c.if-there.false
