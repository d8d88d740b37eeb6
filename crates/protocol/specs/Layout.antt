-- The fields of a type (01, the table's column "Fields after type 1, version 1, flags 2"), by the places that the type's row gives them.
use Rattle.std.specs.Prelude.{ℕ, ◌+◌, ◌*◌, ◌/◌, ◌%◌, ◌^◌, Bool, true, false, not, ◌&&◌, ◌||◌, eqb}
use mathlib.Core.List.{List, [], ◌∷◌, ◌++◌, foldr}
use Rattle.laws.specs.Choose.{pick}
use Rattle.protocol.specs.declared.table.TypeRow.{TypeRow}

pub data Field : Type 0 where
  msg_id recv_id send_id msg_length seg_length recv_length seg_offset credit_request tag multiuse padding count : Field

abbrev pub fields : List Field
fields =
    msg_id
    ∷ recv_id
    ∷ send_id
    ∷ msg_length
    ∷ seg_length
    ∷ recv_length
    ∷ seg_offset
    ∷ credit_request
    ∷ tag
    ∷ multiuse
    ∷ padding
    ∷ count
    ∷ []

-- a field's number among them, which is its digit's in a row's places
abbrev pub ordinal : Field → ℕ
ordinal msg_id = 0
ordinal recv_id = 1
ordinal send_id = 2
ordinal msg_length = 3
ordinal seg_length = 4
ordinal recv_length = 5
ordinal seg_offset = 6
ordinal credit_request = 7
ordinal tag = 8
ordinal multiuse = 9
ordinal padding = 10
ordinal count = 11

abbrev pub same_field : Field → Field → Bool
same_field g f = eqb (ordinal g) (ordinal f)

-- a field's bytes
abbrev pub width : Field → ℕ
width msg_id = 4
width recv_id = 4
width send_id = 4
width msg_length = 8
width seg_length = 8
width recv_length = 8
width seg_offset = 8
width credit_request = 4
width tag = 8
width multiuse = 4
width padding = 4
width count = 4

-- ---- places

-- the digit that puts field f at word w
abbrev pub word : ℕ → Field → ℕ
word w f = w * 16 ^ ordinal f

-- the place that the digit with this unit gives
abbrev pub place_by : ℕ → ℕ → ℕ
place_by places unit = places / unit % 16 * 4

-- where a field of the type stands; 0 where the type has no such field
abbrev pub place_of : TypeRow → Field → ℕ
place_of r f = place_by r.places (16 ^ ordinal f)

-- where the length of a type stands: of the message, the segment or the grant, whichever the type has; 0 where it has none
unfoldable pub length_place : TypeRow → ℕ
length_place r = foldr (λ f at. pick (eqb (place_of r f) 0) at (place_of r f)) 0 (msg_length ∷ seg_length ∷ recv_length ∷ [])

-- ---- the layout

-- those of some fields that pass a test
abbrev pub select : (Field → Bool) → List Field → List Field
select test [] = []
select test (f ∷ fs) = pick (test f) (f ∷ select test fs) (select test fs)

-- the words behind type, version and flags
abbrev words : List ℕ
words = 1 ∷ 2 ∷ 3 ∷ 4 ∷ 5 ∷ 6 ∷ 7 ∷ 8 ∷ 9 ∷ 10 ∷ 11 ∷ 12 ∷ 13 ∷ 14 ∷ 15 ∷ []

-- the fields of a type in the order of their places
unfoldable pub layout : TypeRow → List Field
layout r = foldr (λ w gs. select (λ f. eqb (place_of r f) (4 * w)) fields ++ gs) [] words

-- "padding and multiuse are none"; nor is a count, which follows from its array
abbrev pub is_own : Field → Bool
is_own f = not (same_field multiuse f || (same_field padding f || same_field count f))

-- the fields that a type has of its own
unfoldable pub own_fields : TypeRow → List Field
own_fields r = select is_own (layout r)

-- the bytes that fields take together
abbrev pub widths : List Field → ℕ
widths [] = 0
widths (g ∷ gs) = width g + widths gs

-- where f stands among the fields gs, one behind the other from `at` on; 0 where it is none of them
unfoldable pub place_in : List Field → ℕ → Field → ℕ
place_in [] at f = 0
place_in (g ∷ gs) at f = pick (same_field g f) at (place_in gs (at + width g) f)

-- f is one of the fields gs
abbrev pub has : Field → List Field → Bool
has f [] = false
has f (g ∷ gs) = same_field g f || has f gs

-- no field stands among gs twice
abbrev pub distinct : List Field → Bool
distinct [] = true
distinct (g ∷ gs) = not (has g gs) && distinct gs
