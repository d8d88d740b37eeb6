-- `text::put_decimal` meets its contract. The loop's invariant: the digits passed stand at the array's end, and those of the rest go before
-- them.
use Prim.Native.Nat.{suc, ◌^◌, ◌≤◌, ◌<◌}
use lib.ListN.{length, drop}
use mathlib.Core.List.{◌++◌}
use mathlib.Core.Path.{◌≡◌}
use Rattle.text.specs.Decimals.{digits, decimal}
use Rattle.text.proofs.put_decimal.Given as goal

abbrev pub invariant-loop-rest : goal.invariant-loop-rest
invariant-loop-rest l =
    (l.first ≤ 19) × (length l.digits ≡ 20) × (l.rest < 10 ^ suc l.first) × (decimal l.v ≡ digits l.first l.rest ++ drop (suc l.first) l.digits)

abbrev pub decreases-loop-rest : goal.decreases-loop-rest
decreases-loop-rest l = l.first
