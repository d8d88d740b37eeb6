-- `headers::layout::read` meets its contract: each field is read where the row says.
use mathlib.Core.Path.{◌≡◌, ◌∙◌}
use native.Mathlib.Omega.{arith}
use Rattle.protocol.specs.FieldNumbers.{field_in, fields_in, number_there}
use Rattle.protocol.specs.Layout.{Field, credit_request, layout, msg_id, msg_length, place_of, recv_id, recv_length, seg_length, seg_offset, send_id, tag, width}
use Rattle.protocol.proofs.LayoutLaws.{read_there}
use Rattle.headers.proofs.layout.read.Goals as goal

pub number-requires-clause-unit_in_bounds : goal.number-requires-clause-unit_in_bounds
number-requires-clause-unit_in_bounds c =
    omega (arith, c.requires.sound.inside msg_id)

pub number-requires-2-clause-unit_in_bounds : goal.number-requires-2-clause-unit_in_bounds
number-requires-2-clause-unit_in_bounds c =
    omega (arith, c.requires.sound.inside recv_id)

pub number-requires-3-clause-unit_in_bounds : goal.number-requires-3-clause-unit_in_bounds
number-requires-3-clause-unit_in_bounds c =
    omega (arith, c.requires.sound.inside send_id)

pub number-requires-4-clause-unit_in_bounds : goal.number-requires-4-clause-unit_in_bounds
number-requires-4-clause-unit_in_bounds c =
    omega (arith, c.requires.sound.inside msg_length)

pub number-requires-5-clause-unit_in_bounds : goal.number-requires-5-clause-unit_in_bounds
number-requires-5-clause-unit_in_bounds c =
    omega (arith, c.requires.sound.inside seg_length)

pub number-requires-6-clause-unit_in_bounds : goal.number-requires-6-clause-unit_in_bounds
number-requires-6-clause-unit_in_bounds c =
    omega (arith, c.requires.sound.inside recv_length)

pub number-requires-7-clause-unit_in_bounds : goal.number-requires-7-clause-unit_in_bounds
number-requires-7-clause-unit_in_bounds c =
    omega (arith, c.requires.sound.inside seg_offset)

pub number-requires-8-clause-unit_in_bounds : goal.number-requires-8-clause-unit_in_bounds
number-requires-8-clause-unit_in_bounds c =
    omega (arith, c.requires.sound.inside credit_request)

pub number-requires-9-clause-unit_in_bounds : goal.number-requires-9-clause-unit_in_bounds
number-requires-9-clause-unit_in_bounds c =
    omega (arith, c.requires.sound.inside tag)

pub returns : goal.returns
unfolding fields_in
returns c =
    let there : (f : Field) → number_there (place_of c.args.row f) (width f) c.args.bytes.now ≡ field_in (layout c.args.row) 4 c.args.bytes.now f =
    λ f. read_there c.args.row c.args.bytes.now f c.requires.sound in
    λ i. record {
      msg_id = (c.number.ensures ∙ there msg_id) i;
      recv_id = (c.number-2.ensures ∙ there recv_id) i;
      send_id = (c.number-3.ensures ∙ there send_id) i;
      msg_length = (c.number-4.ensures ∙ there msg_length) i;
      seg_length = (c.number-5.ensures ∙ there seg_length) i;
      recv_length = (c.number-6.ensures ∙ there recv_length) i;
      seg_offset = (c.number-7.ensures ∙ there seg_offset) i;
      credit_request = (c.number-8.ensures ∙ there credit_request) i;
      tag = (c.number-9.ensures ∙ there tag) i;
    }
