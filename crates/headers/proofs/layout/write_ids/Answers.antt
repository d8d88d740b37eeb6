-- `headers::layout::write_ids` meets its contract: each field is put inside the header.
use native.Mathlib.Omega.{arith}
use Rattle.laws.specs.Choose.{pick}
use Rattle.protocol.specs.Layout.{msg_id, recv_id, send_id}
use Rattle.headers.proofs.layout.write_ids.Goals as goal

pub put-requires-clause-unit_in_bounds : goal.put-requires-clause-unit_in_bounds
put-requires-clause-unit_in_bounds c =
    omega (arith, c.requires.sound.inside msg_id)

pub put-requires-2-clause-unit_in_bounds : goal.put-requires-2-clause-unit_in_bounds
put-requires-2-clause-unit_in_bounds c =
    omega (arith, c.requires.sound.inside recv_id)

pub put-requires-3-clause-unit_in_bounds : goal.put-requires-3-clause-unit_in_bounds
put-requires-3-clause-unit_in_bounds c =
    omega (arith, c.requires.sound.inside send_id)

pub returns : goal.returns
unfolding pick
returns c =
    rw (c.put-3.ensures, c.put-2.ensures, c.put.ensures)
