-- `headers::layout::write_lengths` meets its contract: each field is put inside the header.
use native.Mathlib.Omega.{arith}
use Rattle.laws.specs.Choose.{pick}
use Rattle.protocol.specs.Layout.{msg_length, recv_length, seg_length, seg_offset}
use Rattle.headers.proofs.layout.write_lengths.Goals as goal

pub put-requires-clause-unit_in_bounds : goal.put-requires-clause-unit_in_bounds
put-requires-clause-unit_in_bounds c =
    omega (arith, c.requires.sound.inside msg_length)

pub put-requires-2-clause-unit_in_bounds : goal.put-requires-2-clause-unit_in_bounds
put-requires-2-clause-unit_in_bounds c =
    omega (arith, c.requires.sound.inside seg_length)

pub put-requires-3-clause-unit_in_bounds : goal.put-requires-3-clause-unit_in_bounds
put-requires-3-clause-unit_in_bounds c =
    omega (arith, c.requires.sound.inside recv_length)

pub put-requires-4-clause-unit_in_bounds : goal.put-requires-4-clause-unit_in_bounds
put-requires-4-clause-unit_in_bounds c =
    omega (arith, c.requires.sound.inside seg_offset)

pub returns : goal.returns
unfolding pick
returns c =
    rw (c.put-4.ensures, c.put-3.ensures, c.put-2.ensures, c.put.ensures)
