-- `headers::layout::write` meets its contract: the fields, put each at its place, stand side by side behind the base header.
use Rattle.laws.specs.Choose.{pick}
use Rattle.protocol.proofs.PutLaws.{fields_put}
use Rattle.headers.proofs.layout.write.Goals as goal

pub returns : goal.returns
unfolding pick
returns c =
    rw (c.write_valueless.ensures, c.write_others.ensures, c.write_lengths.ensures, c.write_ids.ensures)
    (fields_put c.args.count c.args.header c.args.out.now c.args.row c.requires.sound c.requires.header_in_bounds)
