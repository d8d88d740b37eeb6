-- `packet::writer::write` meets its contract. What `typed` requires, the rule of the table, holds of a row that is found.
use mathlib.Core.Path.{sym, ◌∙◌}
use Rattle.protocol.specs.Writing.{write_of, write_typed}
use Rattle.protocol.proofs.TableRule.{sound}
use Rattle.packet.proofs.writer.write.Goals as goal

pub typed-requires : goal.typed-requires
typed-requires c = sound _ _ (sym c.find.ensures ∙ c.in-Some.is)

pub returns-in_default : goal.returns-in_default
unfolding write_of write_typed
returns-in_default c =
    rw (← c.find.ensures, c.in_default.is)

pub returns : goal.returns
unfolding write_of write_typed
returns c =
    rw (← c.find.ensures, c.in-Some.is, c.typed.ensures)
