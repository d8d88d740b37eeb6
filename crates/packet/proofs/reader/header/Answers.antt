-- `packet::reader::header` meets its contract.
use mathlib.Core.Path.{sym, ◌∙◌}
use Rattle.protocol.specs.Optional.{flagged}
use Rattle.protocol.specs.Reading.{header_in}
use Rattle.packet.proofs.reader.header.Goals as goal

pub read_connid-connid-requires : goal.read_connid-connid-requires
unfolding flagged
read_connid-connid-requires c = λ e. c.requires.sections_inside.connid (sym c.has.ensures ∙ e)

pub returns : goal.returns
unfolding header_in flagged
returns c =
    rw (
      c.raw_address.ensures,
      c.read_connid-connid.ensures,
      c.has.ensures,
      c.read_cq_data-cq_data.ensures,
      c.cq_data.ensures,
      c.read-fields.ensures,
    )
