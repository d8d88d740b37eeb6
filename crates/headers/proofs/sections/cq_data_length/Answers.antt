-- `headers::sections::cq_data_length` meets its contract.
use Rattle.laws.specs.Choose.{pick}
use Rattle.protocol.specs.SectionsInTurn.{cq_data_length}
use Rattle.headers.proofs.sections.cq_data_length.Goals as goal

pub returns-then-cq_data : goal.returns-then-cq_data
unfolding cq_data_length pick
returns-then-cq_data c = rw (← c.cq_data.ensures, c.if-cq_data.true)

pub returns-else-cq_data : goal.returns-else-cq_data
unfolding cq_data_length pick
returns-else-cq_data c = rw (← c.cq_data.ensures, c.if-cq_data.false)
