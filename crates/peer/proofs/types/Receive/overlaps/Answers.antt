-- `peer::types::Receive::overlaps` meets its contract: the range that starts later starts in the other, and none is empty.
use Rattle.std.proofs.Common.{◌+◌, ◌-◌, min, max, sym, arith, le-ltb}
use Rattle.laws.proofs.Comparing.{ltb_same}
use Rattle.peer.specs.State.{overlap}
use Rattle.peer.proofs.types.Receive.overlaps.Goals as goal

pub returns-then-self-eq0 : goal.returns-then-self-eq0
unfolding overlap
returns-then-self-eq0 c =
    let r = c.args.self in
    let s = c.args.other in
    sym (le-ltb (max r.start s.start) (min (r.start + r.capacity) (s.start + s.capacity)) (omega (arith, c.if-self-eq0.true)))

pub returns-then-other-eq0 : goal.returns-then-other-eq0
unfolding overlap
returns-then-other-eq0 c =
    let r = c.args.self in
    let s = c.args.other in
    sym (le-ltb (max r.start s.start) (min (r.start + r.capacity) (s.start + s.capacity)) (omega (arith, c.if-other-eq0.true)))

pub returns-then-self-other : goal.returns-then-self-other
unfolding overlap
returns-then-self-other c =
    let r = c.args.self in
    let s = c.args.other in
    ltb_same (s.start - r.start) r.capacity (max r.start s.start) (min (r.start + r.capacity) (s.start + s.capacity))
    (λ h. omega (arith, c.if-self-other.true, c.if-other-eq0.false, c.if-self-eq0.false)) (λ h. omega (arith, c.if-self-other.true, c.if-other-eq0.false, c.if-self-eq0.false))

pub returns-else-self-other : goal.returns-else-self-other
unfolding overlap
returns-else-self-other c =
    let r = c.args.self in
    let s = c.args.other in
    ltb_same (r.start - s.start) s.capacity (max r.start s.start) (min (r.start + r.capacity) (s.start + s.capacity))
    (λ h. omega (arith, c.if-self-other.false, c.if-other-eq0.false, c.if-self-eq0.false)) (λ h. omega (arith, c.if-self-other.false, c.if-other-eq0.false, c.if-self-eq0.false))
