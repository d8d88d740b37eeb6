-- `headers::sections::behind` meets its contract: a packet that ends before its raw address does is cut; of any other `from` answers.
use Rattle.laws.specs.Choose.{pick}
use Rattle.protocol.proofs.ReadingLaws.{cut_before}
use Rattle.protocol.specs.Sections.{raw_span}
use Rattle.protocol.specs.SectionsInTurn.{sections_behind}
use lib.ListN.{length}
use mathlib.Core.Path.{sym}
use native.Mathlib.Nat.{add_assoc, add-zero}
use native.Mathlib.Omega.{arith}
use Rattle.headers.proofs.sections.behind.Goals as goal

pub returns-then-not-raw_address : goal.returns-then-not-raw_address
unfolding sections_behind raw_span pick
returns-then-not-raw_address c =
    rw (c.from.ensures, ← c.raw_address.ensures, c.if-not-raw_address.true, add-zero)

pub returns-then-n-start : goal.returns-then-n-start
unfolding sections_behind pick
returns-then-n-start c =
    let a = c.args in
    rw (← c.raw_address.ensures, c.if-not-raw_address.false)
    (sym (cut_before a.row a.flags _ _ (length a.bytes.now) (omega arith)))

pub returns : goal.returns
unfolding sections_behind raw_span pick
returns c =
    let e = c.if-not-raw_address.false in
    rw (c.from-2.ensures, ← c.raw_address.ensures, e, c.read-size.ensures, add_assoc)
