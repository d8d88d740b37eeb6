-- From what an answer says by 01's number and values to the answer itself, and back.
use Prim.Native.Nat.{ℕ}
use mathlib.Core.List.{List}
use mathlib.Core.Path.{◌≡◌, refl, ap}
use native.Mathlib.Omega.{arith}
use Rattle.std.specs.Prelude.{Result, Ok, Err}
use Rattle.protocol.specs.Checks.{gives, refused}
use Rattle.protocol.specs.Says.{read_says, written_says}
use Rattle.protocol.specs.Values.{Values, values_in}
use Rattle.protocol.specs.declared.types.Packet.{Packet}
use Rattle.protocol.specs.declared.refusals.Refusal.{Refusal}

refused_not_gives : {A : Type 0} (a : A) (n : ℕ) → refused n ≡ gives a → ⊥
refused_not_gives a n e = let z : ◌≡◌ {A = ℕ} 0 1 = cc in omega arith

pub read_gives : (bs : List ℕ) (y : Result Packet Refusal) (v : Values) → read_says bs y ≡ gives v → (p : Packet) × (y ≡ Ok p) × (values_in p bs ≡ v)
read_gives bs (Err k) v e = absurd (refused_not_gives v _ e)
read_gives bs (Ok p) v e = (p, refl, cc)

pub written_gives : (y : Result ℕ Refusal) (n : ℕ) → written_says y ≡ gives n → y ≡ Ok n
written_gives (Err k) n e = absurd (refused_not_gives n _ e)
written_gives (Ok m) n e = let x : m ≡ n = cc in ap Ok x
