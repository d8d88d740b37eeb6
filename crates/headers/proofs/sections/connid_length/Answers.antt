-- `headers::sections::connid_length` meets its contract.
use Rattle.laws.specs.Choose.{pick}
use Rattle.protocol.specs.Optional.{flagged}
use Rattle.protocol.specs.SectionsInTurn.{connid_length}
use Rattle.headers.proofs.sections.connid_length.Goals as goal

pub returns-then-has : goal.returns-then-has
unfolding connid_length flagged pick
returns-then-has c = rw (← c.has.ensures, c.if-has.true)

pub returns-else-has : goal.returns-else-has
unfolding connid_length flagged pick
returns-else-has c = rw (← c.has.ensures, c.if-has.false)
