-- `headers::flags::written` meets its contract. The sum does not wrap: the rule of the table leaves room for the flags of all optional headers.
use native.Mathlib.Omega.{arith}
use Rattle.protocol.specs.Optional.{flags_of}
use Rattle.protocol.proofs.FlagLaws.{flags_small}
use Rattle.headers.proofs.flags.written.Goals as goal

pub overflow_add-result : goal.overflow_add-result
unfolding flags_of
overflow_add-result c =
    rw (c.bit-raw.ensures) (omega (arith, flags_small c.args.row c.args.header c.requires))

pub overflow_add-result-2 : goal.overflow_add-result-2
unfolding flags_of
overflow_add-result-2 c =
    rw (c.bit-cq.ensures, c.bit-raw.ensures, c.is_some.ensures) (omega (arith, flags_small c.args.row c.args.header c.requires))

pub overflow_add-result-3 : goal.overflow_add-result-3
unfolding flags_of
overflow_add-result-3 c =
    rw (c.bit-id.ensures, c.bit-cq.ensures, c.bit-raw.ensures, c.is_some.ensures, c.is_some-2.ensures)
    (omega (arith, flags_small c.args.row c.args.header c.requires))

pub returns : goal.returns
unfolding flags_of
returns c =
    rw (c.bit-id.ensures, c.bit-cq.ensures, c.bit-raw.ensures, c.is_some.ensures, c.is_some-2.ensures) (omega arith)
