-- A part of a trace, written into a lent buffer.
use Rattle.std.specs.Prelude.{ℕ, ◌+◌, List, Option, None, Some, length, leb}
use Rattle.laws.specs.Choose.{pick}
use Rattle.laws.specs.Parts.{store_at}

-- what is answered, and the buffer
pub record TraceLeaves : Type 0 where
  pub written : Option ℕ
  pub out : List ℕ

-- the bytes from `at` on and the place behind them, or nothing where the buffer is too short
unfoldable pub wrote : List ℕ → ℕ → List ℕ → TraceLeaves
wrote out at bytes =
    pick (leb (at + length bytes) (length out))
    (record { written = Some (at + length bytes); out = store_at out at bytes })
    (record { written = None; out = out })
