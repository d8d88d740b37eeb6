-- `trace::reading::packet_at` meets its contract: the place behind two numbers lies inside the trace, so that the bytes left there are counted.
use Prim.Native.Nat.{◌+◌, ◌≤◌}
use borrow.Author.Tests.{le-leb}
use lib.ListN.{length}
use mathlib.Core.Path.{sym}
use native.Mathlib.Omega.{arith}
use Rattle.laws.specs.Choose.{pick}
use Rattle.trace.specs.Entries.{packet_at}
use Rattle.trace.proofs.NumberLaws.{pair_inside}
use Rattle.trace.proofs.reading.packet_at.Goals as goal

pub overflow_sub-s : goal.overflow_sub-s
overflow_sub-s c = (pair_inside _ _ _ _ _ (sym c.in_ok-peer.ensures)).0

pub returns : goal.returns
unfolding packet_at pick
returns c =
    let h : c.in_ok-peer.next ≤ length c.args.s.now = (pair_inside _ _ _ _ _ (sym c.in_ok-peer.ensures)).0 in
    let e = le-leb (c.in_ok-peer.next + c.in_ok-peer.size) (length c.args.s.now) (omega arith) in
    rw (← c.in_ok-peer.ensures, e)
