-- `bitmap::parts::clear_part` meets its contract: a word and the complement of a mask is the word without the mask's bits, which is its part of the range cleared.
use Prim.Native.Nat.{◌/◌}
use lib.ListN.{get_or}
use native.Mathlib.Omega.{arith}
use Rattle.bitmap.specs.Map.{cleared}
use Rattle.bitmap.proofs.Stores.{clear_word}
use Rattle.bitmap.proofs.Word.{and_not}
use Rattle.bitmap.proofs.parts.clear_part.Goals as goal

pub returns-then-n-eq0 : goal.returns-then-n-eq0
unfolding cleared
returns-then-n-eq0 c = rw c.if-n-eq0.true

pub returns : goal.returns
returns c =
    let a = c.args in
    let w = get_or a.map.now (a.i / 64) 0 in
    let k = c.mask-m in
    let e = and_not 64 w k.result (c.slice_known-2-1.given (a.i / 64)).fits (omega (arith, k.type_inv)) in
    rw (e, k.ensures) (clear_word a.map.now a.i a.n (omega arith) (omega arith))
