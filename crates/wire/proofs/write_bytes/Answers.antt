-- `wire::write_bytes` meets its contract. The loop's invariant: the bytes passed stand in their place.
use Prim.Native.Nat.{ℕ, ◌+◌, ◌<◌}
use lib.ListN.{length, get_or, set}
use lib.Seq.{paste-suc}
use mathlib.Core.List.{List}
use mathlib.Core.Path.{◌≡◌, refl, ap, ◌∙◌}
use native.Mathlib.Numerals.{add-one}
use native.Mathlib.Omega.{arith}
use Rattle.laws.proofs.Storing.{paste_store}
use Rattle.wire.proofs.write_bytes.Goals as goal

pub loop-i-preserved : goal.loop-i-preserved
loop-i-preserved c =
    let a = c.args in
    let l = c.loop-i in
    let hd : a.at + l.i < length a.s.now = omega arith in
    let hs : l.i < length a.bytes.now = omega arith in
    let put : List ℕ → List ℕ = λ s. set s (a.at + l.i) (get_or a.bytes.now l.i 0) in
    ap put l.invariant ∙ rw (add-one, paste-suc a.s.now a.at a.bytes.now l.i 0 hd hs)

pub returns : goal.returns
returns c =
    let a = c.args in
    let e : c.loop-i.i ≡ length a.bytes.now = omega arith in
    (refl, rw (← paste_store a.s.now a.at a.bytes.now, ← e, ← c.loop-i.invariant))
