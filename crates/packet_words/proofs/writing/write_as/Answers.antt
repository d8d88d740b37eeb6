-- `packet_words::writing::write_as` meets its contract: its two refusals come before the packet writer's own.
use mathlib.Core.Path.{ap}
use Rattle.laws.specs.Choose.{pick}
use Rattle.packet_words.specs.Writing.{put_of, put_typed}
use Rattle.packet_words.proofs.writing.write_as.Goals as goal

pub returns-then-not-options_fit : goal.returns-then-not-options_fit
unfolding put_typed pick
returns-then-not-options_fit c size = rw (← c.options_fit.ensures, c.if-not-options_fit.true)

pub returns-then-not-numbers_fit : goal.returns-then-not-numbers_fit
unfolding put_typed pick
returns-then-not-numbers_fit c size =
    rw (
      ← c.options_fit.ensures,
      c.if-not-options_fit.false,
      ← c.numbers_fit.ensures,
      c.if-not-numbers_fit.true,
    )

pub returns : goal.returns
unfolding put_typed pick
returns c size =
    rw (
      ← c.options_fit.ensures,
      c.if-not-options_fit.false,
      ← c.numbers_fit.ensures,
      c.if-not-numbers_fit.false,
    )
    (ap (put_of size) c.write_header.ensures)
