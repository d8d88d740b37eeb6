-- `wire::U16LittleEndian::write` meets its contract.
use Prim.Native.Nat.{◌/◌, ◌%◌}
use mathlib.Core.List.{[], ◌∷◌}
use native.Mathlib.Numerals.{add-one}
use native.Mathlib.Omega.{arith}
use Rattle.wire.specs.LittleEndian.{le_bytes}
use Rattle.laws.proofs.Storing.{sets_store}
use Rattle.wire.proofs.U16LittleEndian.write.Goals as goal

pub returns : goal.returns
unfolding le_bytes
returns c = let a = c.args in rw add-one (sets_store a.s.now a.at (a.self % 256 ∷ a.self / 256 % 256 ∷ []) (omega arith))
