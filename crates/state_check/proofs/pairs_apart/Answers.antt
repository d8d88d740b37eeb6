-- `state_check::pairs_apart` meets its contract. The loop's invariant: the slots passed clash with none behind them.
use Prim.Native.Nat.{ℕ, ◌+◌, ◌-◌}
use lib.ListN.{length, drop, take, length-drop}
use lib.Seq.{take_all}
use mathlib.Core.Bool.{true, false}
use mathlib.Core.List.{List}
use mathlib.Core.Path.{◌≡◌, sym, ap, ◌∙◌}
use native.Mathlib.Omega.{arith}
use Rattle.peer.specs.State.{none_clash, phase_at}
use Rattle.peer.specs.declared.types.Slot.{Slot}
use Rattle.peer.proofs.Slots.SlotTurns.{pairs_end, pairs_turn}
use Rattle.state_check.proofs.pairs_apart.Goals as goal

behind : (ss : List Slot) (n : ℕ) → take (length ss - n) (drop n ss) ≡ drop n ss
behind ss n = take_all (length ss - n) (drop n ss) (omega (arith, length-drop n ss))

pub returns-then-not-apart : goal.returns-then-not-apart
returns-then-not-apart c =
    let ss = c.args.slots.now in
    let i = c.loop-i.i in
    let none : none_clash (phase_at ss i) (drop (i + 1) ss) ≡ false =
    ap (none_clash (phase_at ss i)) (sym (behind ss (i + 1))) ∙ sym c.apart.ensures ∙ c.if-not-apart.true in
    rw (c.loop-i.invariant, pairs_turn ss i c.loop-i-test.true, none)

pub loop-i-preserved : goal.loop-i-preserved
loop-i-preserved c =
    let ss = c.args.slots.now in
    let i = c.loop-i.i in
    let none : none_clash (phase_at ss i) (drop (i + 1) ss) ≡ true =
    ap (none_clash (phase_at ss i)) (sym (behind ss (i + 1))) ∙ sym c.apart.ensures ∙ c.if-not-apart.false in
    rw (c.loop-i.invariant, pairs_turn ss i c.loop-i-test.true, none)

pub returns : goal.returns
returns c = sym (c.loop-i.invariant ∙ pairs_end c.args.slots.now c.loop-i.i (omega arith))
