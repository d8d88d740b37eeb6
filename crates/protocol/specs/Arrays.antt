-- A counted array of members of one width, which follows a type's fixed fields, by the row's unit and less.
use Rattle.std.specs.Prelude.{ℕ, ◌+◌, ◌-◌, ◌*◌, ◌/◌, ◌%◌, Bool, true, not, ◌||◌, eqb}
use Rattle.laws.specs.Choose.{pick}
use Rattle.protocol.specs.declared.table.TypeRow.{TypeRow}

abbrev pub has_array : TypeRow → Bool
has_array r = not (eqb r.unit 0)

-- the bytes of the array that a count tells: members are count − less, at least 0, and each has a unit
unfoldable pub array_length : TypeRow → ℕ → ℕ
array_length r n = (n - r.less) * r.unit

-- the count that tells an array of n bytes
unfoldable pub array_count : TypeRow → ℕ → ℕ
array_count r n = pick (has_array r) (n / r.unit + r.less) 0

-- n bytes of an array may be given to a writer: none to a type that has no array (refusal 10)
unfoldable pub array_allowed : TypeRow → ℕ → Bool
array_allowed r n = has_array r || eqb n 0

-- and they are whole members (refusal 11)
unfoldable pub array_whole : TypeRow → ℕ → Bool
array_whole r n = pick (has_array r) (eqb (n % r.unit) 0) true
