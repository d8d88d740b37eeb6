-- `posting::calls::post` meets its contract.
use Prim.Native.Nat.{◌+◌}
use lib.ListN.{length}
use mathlib.Core.Path.{◌≡◌, sym, ◌∙◌, refl}
use native.Mathlib.Omega.{arith}
use Rattle.laws.specs.Choose.{pick}
use Rattle.laws.proofs.Comparing.{beyond, not_beyond}
use Rattle.laws.proofs.Listing.{length_mapped}
use Rattle.peer.specs.Calls.{placed_in, post_effect}
use Rattle.peer.proofs.Slots.Slots.{vacant}
use Rattle.peer.specs.State.{slot_count}
use Rattle.posting.proofs.calls.post.Goals as goal

pub returns-then-not-ends_by : goal.returns-then-not-ends_by
unfolding post_effect pick
returns-then-not-ends_by c = λ ws.
    let a = c.args in
    let n = a.receive.start + a.receive.capacity in
    rw (not_beyond n a.area (sym c.ends_by.ensures ∙ c.if-not-ends_by.true), c.refused.ensures)

pub returns-then-overlaps_some : goal.returns-then-overlaps_some
unfolding post_effect pick
returns-then-overlaps_some c = λ ws.
    let a = c.args in
    let n = a.receive.start + a.receive.capacity in
    rw (beyond n a.area (sym c.ends_by.ensures ∙ c.if-not-ends_by.false), ← c.overlaps_some.ensures, c.if-overlaps_some.true, c.refused-then-overlaps_some.ensures)

pub placed-requires : goal.placed-requires
placed-requires c =
    let ss = c.args.peer.slots in
    let len : length ss ≡ slot_count = search length_mapped in
    omega (arith, len, (vacant ss _ (sym c.find_vacancy.ensures ∙ c.in-Some.is)).0)

pub returns-in_default : goal.returns-in_default
unfolding post_effect placed_in pick
returns-in_default c = λ ws.
    let a = c.args in
    let n = a.receive.start + a.receive.capacity in
    rw (
      beyond n a.area (sym c.ends_by.ensures ∙ c.if-not-ends_by.false),
      ← c.overlaps_some.ensures,
      c.if-overlaps_some.false,
      ← c.find_vacancy.ensures,
      c.in_default.is,
      c.refused-in_default.ensures,
    ) refl

pub returns : goal.returns
unfolding post_effect placed_in pick
returns c = λ ws.
    let a = c.args in
    let n = a.receive.start + a.receive.capacity in
    rw (
      beyond n a.area (sym c.ends_by.ensures ∙ c.if-not-ends_by.false),
      ← c.overlaps_some.ensures,
      c.if-overlaps_some.false,
      ← c.find_vacancy.ensures,
      c.in-Some.is,
      c.placed.ensures,
    )
