-- Tests of the row that is found for a type.
use mathlib.Core.Bool.{Bool, true, false, not, true≢false, false≢true}
use mathlib.Core.Path.{◌≡◌, refl, ap}
use Rattle.std.specs.Prelude.{Option, Some, None}
use Rattle.laws.specs.Choose.{pick}
use Rattle.protocol.specs.declared.table.TypeRow.{TypeRow}

abbrev pub of_row : Option TypeRow → (TypeRow → Bool) → Bool
of_row None t = false
of_row (Some r) t = t r

abbrev pub is_unknown : Option TypeRow → Bool
is_unknown None = true
is_unknown (Some r) = false

pub row_in : (o : Option TypeRow) (t : TypeRow → Bool) → of_row o t ≡ true → (r : TypeRow) × (o ≡ Some r) × (t r ≡ true)
row_in None t e = absurd (false≢true e)
row_in (Some r) t e = (r, refl, e)

-- a test of the row that was found
pub row_at : (o : Option TypeRow) (r : TypeRow) (t : TypeRow → Bool) → o ≡ Some r → of_row o t ≡ t r
row_at o r t x = ap (λ (o : Option TypeRow). of_row o t) x

pub row_out : (o : Option TypeRow) → is_unknown o ≡ false → (r : TypeRow) × (o ≡ Some r)
row_out None e = absurd (true≢false e)
row_out (Some r) e = (r, refl)

pub is_unknown_lem : (o : Option TypeRow) → is_unknown o ≡ true → o ≡ None
is_unknown_lem None e = refl
is_unknown_lem (Some r) e = absurd (false≢true e)

-- a choice by the opposite test
pub pick_not : {A : Type 0} (t : Bool) (a b : A) → pick t a b ≡ pick (not t) b a
unfolding pick
pick_not true a b = refl
pick_not false a b = refl
