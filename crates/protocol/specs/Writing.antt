-- Writing a packet: its bytes, and the checks in 01's order (9, 10, 11, 6, 21). Refused, the buffer stays; written, bytes past the packet stay.
use Rattle.std.specs.Prelude.{ℕ, ◌&&◌, List, [], ◌∷◌, ◌++◌, ltb, length, Option, Some, None, Result, Ok, Err}
use Rattle.laws.specs.Choose.{pick}
use Rattle.laws.specs.Parts.{store_at}
use Rattle.wire.specs.LittleEndian.{le_bytes}
use Rattle.protocol.specs.declared.table.TypeRow.{TypeRow}
use Rattle.protocol.specs.declared.types.Header.{Header}
use Rattle.protocol.specs.declared.refusals.Refusal.{Refusal}
use Rattle.protocol.specs.Types.{row_of}
use Rattle.protocol.specs.Arrays.{array_allowed, array_count, array_whole}
use Rattle.protocol.specs.FieldNumbers.{field_bytes}
use Rattle.protocol.specs.Layout.{layout}
use Rattle.protocol.specs.Lengths.{lengths_fit}
use Rattle.protocol.specs.Optional.{flags_of, options_fit, sections_of}
use Rattle.protocol.specs.Options.{sections_bytes}
use Rattle.protocol.specs.Refusals.{above_limit, bad_type, bad_flags, bad_length, no_room}
use Rattle.protocol.specs.Limits.{packet_limit}

-- type 1, version 1, flags 2
unfoldable pub base_bytes : ℕ → ℕ → List ℕ
base_bytes kind flags = kind ∷ 4 ∷ le_bytes 2 flags

-- the mandatory header of a packet with an array of n bytes
unfoldable pub mandatory_bytes : TypeRow → Header → ℕ → List ℕ
mandatory_bytes r h n = base_bytes r.kind (flags_of r h) ++ field_bytes (layout r) (array_count r n) h

-- the bytes of a packet: the mandatory header, the array and the optional headers that its type may have, the data
unfoldable pub packet_bytes : TypeRow → Header → List ℕ → List ℕ → List ℕ → List ℕ
packet_bytes r h arr raw body = mandatory_bytes r h (length arr) ++ sections_bytes r h arr raw (sections_of r) ++ body

-- what a call of the writer leaves: its answer, and the lent buffer
pub record WriteLeaves : Type 0 where
  pub answer : Result ℕ Refusal
  pub out : List ℕ

abbrev pub refused : Refusal → List ℕ → WriteLeaves
refused k out = record { answer = Err k; out = out }

-- refusals 6 and 21, then the packet
unfoldable pub write_bytes : List ℕ → List ℕ → WriteLeaves
write_bytes bytes out =
    pick (ltb packet_limit (length bytes)) (refused above_limit out)
    (pick (ltb (length out) (length bytes)) (refused no_room out)
    (record { answer = Ok (length bytes); out = store_at out 0 bytes }))

-- refusals 10 (an optional header, or an array, that its type can't have) and 11
unfoldable pub write_as : TypeRow → Header → List ℕ → List ℕ → List ℕ → List ℕ → WriteLeaves
write_as r h arr raw body out =
    pick (options_fit r h && array_allowed r (length arr))
    (pick (array_whole r (length arr) && lengths_fit r.shape h.fields (length body)) (write_bytes (packet_bytes r h arr raw body) out)
    (refused bad_length out))
    (refused bad_flags out)

-- refusal 9
unfoldable pub write_typed : Option TypeRow → Header → List ℕ → List ℕ → List ℕ → List ℕ → WriteLeaves
write_typed None h arr raw body out = refused bad_type out
write_typed (Some r) h arr raw body out = write_as r h arr raw body out

-- no type of the table has an array, so none is given
unfoldable pub write_of : Header → List ℕ → List ℕ → List ℕ → WriteLeaves
write_of h raw body out = write_typed (row_of h.kind) h [] raw body out
