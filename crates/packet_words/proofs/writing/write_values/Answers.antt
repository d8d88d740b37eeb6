-- `packet_words::writing::write_values` meets its contract: no type has a number above 255, and where every number of 32 bits is one the packet
-- writer's own checks are all.
use borrow.Author.Tests.{lt-leb, le-leb}
use mathlib.Core.Path.{sym, ap, ◌∙◌}
use native.Mathlib.Omega.{arith}
use Rattle.laws.specs.Choose.{pick}
use Rattle.packet_words.specs.Writing.{put_of, put_typed, write_from}
use Rattle.protocol.proofs.TableRule.{sound}
use Rattle.packet_words.proofs.Narrow.{written_at_once}
use Rattle.packet_words.proofs.Rows.{no_type_lem}
use Rattle.packet_words.proofs.writing.write_values.Goals as goal

pub returns-then-values-lt-VALUES : goal.returns-then-values-lt-VALUES
unfolding write_from pick
returns-then-values-lt-VALUES c size = rw (lt-leb _ _ c.if-values-lt-VALUES.true)

pub returns-then-kind-gt255 : goal.returns-then-kind-gt255
unfolding write_from put_typed pick
returns-then-kind-gt255 c size = rw (le-leb _ _ c.if-values-lt-VALUES.false, no_type_lem _ c.if-kind-gt255.true)

pub returns-then-all_narrow : goal.returns-then-all_narrow
unfolding write_from pick
returns-then-all_narrow c size =
    rw (le-leb _ _ c.if-values-lt-VALUES.false)
    (ap (put_of size) c.write_header.ensures
    ∙ sym (written_at_once _ (λ i. (c.shared_slice_known-4-1.given i).fits) (sym c.all_narrow.ensures ∙ c.if-all_narrow.true) _ _ _ _ (omega arith)))

pub write_as-requires-clause-sound : goal.write_as-requires-clause-sound
write_as-requires-clause-sound c =
    sound _ _ (sym c.find.ensures ∙ c.in-Some.is)

pub returns-in_default : goal.returns-in_default
unfolding write_from put_typed pick
returns-in_default c size =
    rw (le-leb _ _ c.if-values-lt-VALUES.false, ← c.find.ensures, c.in_default.is)

pub returns : goal.returns
unfolding write_from pick
returns c size =
    rw (le-leb _ _ c.if-values-lt-VALUES.false, ← c.find.ensures, c.in-Some.is) (c.write_as.ensures size)
