-- `packet::writer::put_base` meets its contract.
use lib.Seq.{sets}
use mathlib.Core.List.{[], ◌∷◌}
use mathlib.Core.Path.{◌≡◌, refl}
use native.Mathlib.Omega.{arith}
use Rattle.laws.specs.Parts.{store_at}
use Rattle.protocol.specs.Writing.{base_bytes}
use Rattle.wire.specs.LittleEndian.{le_bytes}
use Rattle.laws.proofs.Storing.{sets_store, store_next}
use Rattle.wire.proofs.Laws.{length_le}
use Rattle.packet.proofs.writer.put_base.Goals as goal

pub returns : goal.returns
unfolding base_bytes
returns c =
    let a = c.args in
    let l = a.out.now in
    let first = a.kind ∷ 4 ∷ [] in
    let n = length_le 2 a.flags in
    let e : sets l 0 first ≡ store_at l 0 first = sets_store l 0 first (omega arith) in
    rw (c.write.ensures, e) (store_next l 0 first (le_bytes 2 a.flags) 2 refl (omega arith))
