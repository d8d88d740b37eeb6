-- `headers::lengths::fit` meets its contract.
use borrow.Author.Tests.{le-leb, lt-leb, eq-eqb, ne_eqb}
use mathlib.Core.Path.{refl}
use Rattle.protocol.specs.Lengths.{lengths_fit}
use Rattle.headers.proofs.lengths.fit.Goals as goal

pub returns-then-n-eq0 : goal.returns-then-n-eq0
unfolding lengths_fit
returns-then-n-eq0 c = rw (c.in-Cts.is, eq-eqb _ _ c.if-n-eq0.true)

pub returns-else-n-eq0 : goal.returns-else-n-eq0
unfolding lengths_fit
returns-else-n-eq0 c = rw (c.in-Cts.is, ne_eqb _ _ c.if-n-eq0.false)

pub returns-then-n-ge1 : goal.returns-then-n-ge1
unfolding lengths_fit
returns-then-n-ge1 c = rw (c.in-CtsData.is, le-leb _ _ c.if-n-ge1.true)

pub returns-else-n-ge1 : goal.returns-else-n-ge1
unfolding lengths_fit
returns-else-n-ge1 c = rw (c.in-CtsData.is, lt-leb _ _ c.if-n-ge1.false)

pub returns-in-Eager : goal.returns-in-Eager
unfolding lengths_fit
returns-in-Eager c = rw c.in-Eager.is

pub returns-then-n-ge1-2 : goal.returns-then-n-ge1-2
unfolding lengths_fit
returns-then-n-ge1-2 c = rw (c.in-Medium.is, le-leb _ _ c.if-n-ge1-2.true, c.ends_by.ensures) refl

pub returns-else-n-ge1-2 : goal.returns-else-n-ge1-2
unfolding lengths_fit
returns-else-n-ge1-2 c = rw (c.in-Medium.is, lt-leb _ _ c.if-n-ge1-2.false)

pub returns-then-fields-ge1 : goal.returns-then-fields-ge1
unfolding lengths_fit
returns-then-fields-ge1 c = rw (c.in-LongCts.is, le-leb 1 _ c.if-fields-ge1.true)

pub returns-else-fields-ge1 : goal.returns-else-fields-ge1
unfolding lengths_fit
returns-else-fields-ge1 c = rw (c.in-LongCts.is, lt-leb 1 _ c.if-fields-ge1.false)
