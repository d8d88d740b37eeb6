-- `bitmap::parts::mark_part` meets its contract: a word or a mask is the word's part of the range marked.
use native.Mathlib.Omega.{arith}
use Rattle.bitmap.specs.Map.{marked}
use Rattle.bitmap.proofs.Stores.{mark_word}
use Rattle.bitmap.proofs.parts.mark_part.Goals as goal

pub returns-then-n-eq0 : goal.returns-then-n-eq0
unfolding marked
returns-then-n-eq0 c = rw c.if-n-eq0.true

pub returns : goal.returns
returns c =
    let a = c.args in
    rw c.mask-m.ensures (mark_word a.map.now a.i a.n (omega arith) (omega arith))
