-- `headers::options::write_raw_address` meets its contract: the size and the bytes are stored side by side.
use Prim.Native.Nat.{◌+◌, ◌≤◌}
use lib.ListN.{length, length-append}
use mathlib.Core.Bool.{true}
use mathlib.Core.Path.{sym, ◌∙◌}
use native.Mathlib.Omega.{arith}
use Rattle.laws.specs.Choose.{pick}
use Rattle.protocol.specs.Options.{raw_address_bytes}
use Rattle.wire.specs.LittleEndian.{le_bytes}
use Rattle.laws.proofs.Storing.{store_next, store_nothing}
use Rattle.protocol.proofs.OptionLaws.{length_raw}
use Rattle.wire.proofs.Laws.{length_le}
use Rattle.headers.proofs.options.write_raw_address.Goals as goal
use Rattle.headers.proofs.options.write_raw_address.Goals.{Else-not-there}

-- with a raw address, its size and its bytes have room
room : (c : Else-not-there) → let a = c.args in a.at + (4 + length a.raw.now) ≤ length a.out.now
unfolding pick
room c =
    rw (c.if-not-there.false, length_raw true c.args.raw.now) at c.requires.raw_in_bounds

pub returns-then-not-there : goal.returns-then-not-there
unfolding raw_address_bytes pick
returns-then-not-there c =
    rw (c.if-not-there.true) (omega arith, sym (store_nothing _ _))

pub write-requires : goal.write-requires
write-requires c = omega (arith, room (goal.at.write-requires c).Else-not-there)

pub write_bytes-requires : goal.write_bytes-requires
write_bytes-requires c = omega (arith, room (goal.at.write_bytes-requires c).Else-not-there)

pub returns : goal.returns
unfolding raw_address_bytes pick
returns c =
    let a = c.args in
    let raw = a.raw.now in
    let size = le_bytes 4 (length raw) in
    let n = length_le 4 (length raw) in
    let p = room (goal.at.returns c).Else-not-there in
    let w = c.write_bytes.ensures in
    let e = store_next a.out.now a.at size raw (a.at + 4) (omega arith) (omega arith) in
    rw (c.if-not-there.false, length-append)
    (omega arith, w.1 ∙ rw c.write.ensures e)
