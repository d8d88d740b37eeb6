-- `headers::layout::write_others` meets its contract: each field is put inside the header.
use native.Mathlib.Omega.{arith}
use Rattle.laws.specs.Choose.{pick}
use Rattle.protocol.specs.Layout.{credit_request, tag}
use Rattle.headers.proofs.layout.write_others.Goals as goal

pub put-requires-clause-unit_in_bounds : goal.put-requires-clause-unit_in_bounds
put-requires-clause-unit_in_bounds c =
    omega (arith, c.requires.sound.inside credit_request)

pub put-requires-2-clause-unit_in_bounds : goal.put-requires-2-clause-unit_in_bounds
put-requires-2-clause-unit_in_bounds c =
    omega (arith, c.requires.sound.inside tag)

pub returns : goal.returns
unfolding pick
returns c =
    rw (c.put-2.ensures, c.put.ensures)
