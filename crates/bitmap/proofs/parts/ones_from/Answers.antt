-- `bitmap::parts::ones_from` meets its contract: the law of the trailing zeros of a complement, at the smaller of the run and n.
use native.Mathlib.Omega.{arith}
use Rattle.bitmap.proofs.Runs.{run_word}
use Rattle.bitmap.proofs.parts.ones_from.Goals as goal

pub returns : goal.returns
returns c = let a = c.args in omega (arith, run_word a.w a.lo a.n c.ranges.w.fits (omega arith))
