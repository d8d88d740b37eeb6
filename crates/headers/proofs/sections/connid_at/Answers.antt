-- `headers::sections::connid_at` meets its contract.
use borrow.Author.Tests.{eq-eqb, ne_eqb}
use Rattle.laws.specs.Choose.{pick}
use Rattle.protocol.specs.Sections.{connid_at}
use Rattle.headers.proofs.sections.connid_at.Goals as goal

pub returns-then-at-eq0 : goal.returns-then-at-eq0
unfolding connid_at pick
returns-then-at-eq0 c = rw (← c.place-at.ensures, eq-eqb _ _ c.if-at-eq0.true)

pub returns-else-at-eq0 : goal.returns-else-at-eq0
unfolding connid_at pick
returns-else-at-eq0 c = rw (← c.place-at.ensures, ne_eqb _ _ c.if-at-eq0.false)
