-- `in_map` meets its contract.
use borrow.Author.Tests.{le-leb, lt-leb}
use Rattle.quagfeather.specs.Exported.{in_map}
use Rattle.quagfeather.proofs.in_map.Goals as goal

pub returns-then-words-gt-MAP : goal.returns-then-words-gt-MAP
unfolding in_map
returns-then-words-gt-MAP c = rw (lt-leb _ _ c.if-words-gt-MAP.true)

pub returns : goal.returns
unfolding in_map
returns c = rw (le-leb _ _ c.if-words-gt-MAP.false, c.ends_by.ensures)
