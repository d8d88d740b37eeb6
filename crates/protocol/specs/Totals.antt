-- A packet's length as the writer computes it, if the limit allows it.
use Rattle.std.specs.Prelude.{ℕ, ◌+◌, List, [], ◌∷◌, ltb, Option, Some, None}
use Rattle.laws.specs.Choose.{pick}
use Rattle.protocol.specs.declared.table.TypeRow.{TypeRow}
use Rattle.protocol.specs.Optional.{Section, flagged, sections_of}
use Rattle.protocol.specs.Sections.{size_of}
use Rattle.protocol.specs.Limits.{packet_limit}

-- the bytes of the sections ss that are there, with an array of a bytes and a raw address of n
abbrev pub sizes : TypeRow → ℕ → ℕ → ℕ → List Section → ℕ
sizes r f a n [] = 0
sizes r f a n (s ∷ ss) = pick (flagged r f s) (size_of r a n s) 0 + sizes r f a n ss

unfoldable pub limited_to : ℕ → Option ℕ
limited_to n = pick (ltb packet_limit n) None (Some n)

-- with so many bytes of array and raw address, where they are there, and of data
unfoldable pub total_of : TypeRow → ℕ → ℕ → ℕ → ℕ → Option ℕ
total_of r f arr raw size = limited_to (r.header + sizes r f arr raw (sections_of r) + size)
