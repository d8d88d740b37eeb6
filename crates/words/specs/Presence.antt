-- What may be absent, in two words: 1 and its value, or 0 and 0.
use Rattle.std.specs.Prelude.{ℕ, Bool, true, false, Option, is_some, unwrap_or}

abbrev pub bool_bit : Bool → ℕ
bool_bit true = 1
bool_bit false = 0

abbrev pub option_bit : {A : Type 0} → Option A → ℕ
option_bit o = bool_bit (is_some o)

abbrev pub option_value : Option ℕ → ℕ
option_value o = unwrap_or o 0
