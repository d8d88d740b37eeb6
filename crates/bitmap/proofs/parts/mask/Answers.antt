-- `bitmap::parts::mask` meets its contract: of the full word, the upper 64 - n bits are shifted out, and the n that are left are shifted to `lo`.
use Prim.Native.Nat.{◌+◌, ◌-◌, ◌^◌}
use lib.Pow.{shl_exact, high, ones_lt, ones_split, high_ones}
use mathlib.Core.Path.{◌≡◌}
use native.Mathlib.Omega.{arith}
use Rattle.bitmap.proofs.parts.mask.Goals as goal

pub returns : goal.returns
returns c =
    let n = c.args.n in
    let lo = c.args.lo in
    let e : n + (64 - n) ≡ 64 = omega arith in
    let s = rw e at (ones_split n (64 - n)) in
    rw (s, high (2 ^ n - 1) (64 - n) (ones_lt (64 - n)), high_ones n lo) (shl_exact n lo 64 (ones_lt n) (omega arith))
