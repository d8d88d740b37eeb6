-- `packet_words::reading::read` meets its contract.
use borrow.Author.Tests.{lt-leb, le-leb}
use mathlib.Core.Path.{◌≡◌}
use Rattle.laws.specs.Choose.{pick}
use Rattle.packet_words.specs.Values.{read_into, value_count}
use Rattle.protocol.specs.Reading.{read_of}
use Rattle.protocol.specs.Types.{every_row}
use Rattle.protocol.specs.Limits.{packet_limit}
use Rattle.packet_words.proofs.reading.read.Goals as goal
use Rattle.packet_words.proofs.reading.read.Goals.{After-read}

-- what the packet reader answers, with its own limit
answer : (c : After-read) → c.read.result ≡ read_of every_row packet_limit c.args.bytes.now
answer c = c.read.ensures

pub returns-then-values-lt-VALUES : goal.returns-then-values-lt-VALUES
unfolding read_into pick
returns-then-values-lt-VALUES c = rw (lt-leb _ _ c.if-values-lt-VALUES.true, c.number.ensures)

pub returns-in-Err : goal.returns-in-Err
unfolding read_into pick
returns-in-Err c = rw (le-leb value_count _ c.if-values-lt-VALUES.false, ← answer (goal.at.returns-in-Err c).After-read, c.in-Err.is, c.number-in-Err.ensures)

pub returns-in-Ok : goal.returns-in-Ok
unfolding read_into pick
returns-in-Ok c = rw (le-leb _ _ c.if-values-lt-VALUES.false, ← answer (goal.at.returns-in-Ok c).After-read, c.in-Ok.is, c.put_words.ensures, c.value_words.ensures)
