-- `packet::reader::typed` meets its contract. What `whole` requires, that the sections lie inside the packet, holds of sections that are found.
use mathlib.Core.Path.{◌≡◌, sym, ◌∙◌}
use Rattle.laws.specs.Choose.{pick}
use Rattle.protocol.specs.Reading.{read_flags, read_sections}
use Rattle.protocol.specs.Sections.{extent_of}
use Rattle.protocol.proofs.ReadingLaws.{extent_inside}
use Rattle.packet.proofs.reader.typed.Goals as goal
use Rattle.packet.proofs.reader.typed.Goals.{Else-not-fit}

-- past the test of the flags, the sections are read
passed : (c : Else-not-fit) → let a = c.args in
    read_flags a.row a.bytes.now
    ≡ read_sections a.row c.read-flags.result a.bytes.now (extent_of a.row c.read-flags.result a.bytes.now)
unfolding read_flags pick
passed c =
    rw (← c.read-flags.ensures, ← c.fit.ensures, c.if-not-fit.false)

pub returns-then-not-fit : goal.returns-then-not-fit
unfolding read_flags pick
returns-then-not-fit c =
    let e = c.if-not-fit.true in
    rw (← c.read-flags.ensures, ← c.fit.ensures, e)

pub returns-in_default : goal.returns-in_default
unfolding read_sections
returns-in_default c =
    rw (passed (goal.at.returns-in_default c).Else-not-fit, ← c.find.ensures, c.in_default.is)

pub whole-requires-clause-sections_inside : goal.whole-requires-clause-sections_inside
whole-requires-clause-sections_inside c =
    let s = c.requires.sound in extent_inside _ _ _ _ s (sym c.find.ensures ∙ c.in-Some.is)

pub returns : goal.returns
unfolding read_sections
returns c =
    rw (passed (goal.at.returns c).Else-not-fit, ← c.find.ensures, c.in-Some.is, c.whole.ensures)
