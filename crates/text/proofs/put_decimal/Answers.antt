-- `text::put_decimal` meets its contract. The loop's invariant: the digits passed stand at the array's end, and those of the rest go before
-- them.
use Prim.Native.Nat.{◌+◌, ◌-◌, ◌≤◌}
use lib.ListN.{take, drop, set, length-set}
use mathlib.Core.Path.{◌≡◌, ◌∙◌}
use native.Mathlib.Omega.{arith}
use Rattle.text.specs.Decimals.{decimal}
use Rattle.text.proofs.DecimalLaws.{more_places, tenth, set_last, set_all}
use Rattle.text.proofs.put_decimal.Goals as goal
use Rattle.text.proofs.put_decimal.Goals.{After-loop-rest, In-loop-rest}

-- a rest of more digits than one has a place before it
more : (c : In-loop-rest) → 1 ≤ c.loop-rest.first
more c = let l = c.loop-rest in more_places l.first l.rest (omega arith) l.invariant.2

-- the last digit is set
digits_in : (c : After-loop-rest)
    → let l = c.loop-rest in
    take (20 - l.first) (drop l.first (set l.digits l.first (48 + l.rest))) ≡ decimal c.args.v
digits_in c =
    let l = c.loop-rest in
    set_all l.digits l.first l.rest (decimal c.args.v) l.invariant.0 l.invariant.1 (omega arith) l.invariant.3

pub loop-rest-preserved : goal.loop-rest-preserved
loop-rest-preserved c =
    let l = c.loop-rest in
    let p = more (goal.at.loop-rest-preserved c).In-loop-rest in (
      omega arith,
      simp length-set l.invariant.1,
      tenth l.first l.rest p l.invariant.2,
      l.invariant.3 ∙ set_last l.digits l.first l.rest p (omega arith) (omega arith),
    )

pub write_bytes-requires : goal.write_bytes-requires
write_bytes-requires c =
    rw (digits_in (goal.at.write_bytes-requires c).After-loop-rest) c.requires

pub returns : goal.returns
returns c =
    let e = digits_in (goal.at.returns c).After-loop-rest in
    let w = c.write_bytes.ensures in
    (rw (← e) w.0, rw (← e) w.1)
