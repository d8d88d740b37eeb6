-- The sections that follow a type's mandatory header, by the type's row: its counted array, and the optional headers (01: "After an RTM's mandatory
-- header come, where flagged, raw address .., CQ data 8, connid 4, in that order"; "CTSDATA: .. with CONNID_HDR also connid 4, padding 4").
use Rattle.std.specs.Prelude.{ℕ, ◌+◌, List, [], ◌∷◌, ◌++◌, Bool, true, false, not, ◌&&◌, ◌||◌, eqb, is_some}
use Rattle.laws.specs.Choose.{pick}
use Rattle.protocol.specs.declared.table.TypeRow.{TypeRow}
use Rattle.protocol.specs.declared.types.Header.{Header}
use Rattle.protocol.specs.Arrays.{has_array}
use Rattle.protocol.specs.Flags.{has_flag, raw_address_flag, cq_data_flag, connid_flag}
use Rattle.protocol.specs.Layout.{multiuse, place_of}

pub data Section : Type 0 where
  array raw_address cq_data connid : Section

-- the optional headers, which are there where their flag is set
abbrev pub options : List Section
options = raw_address ∷ cq_data ∷ connid ∷ []

-- an array has no flag
abbrev pub flag_of : Section → ℕ
flag_of array = 0
flag_of raw_address = raw_address_flag
flag_of cq_data = cq_data_flag
flag_of connid = connid_flag

-- their order
abbrev pub ordinal : Section → ℕ
ordinal array = 0
ordinal raw_address = 1
ordinal cq_data = 2
ordinal connid = 3

abbrev pub same_section : Section → Section → Bool
same_section s t = eqb (ordinal s) (ordinal t)

abbrev pub is_among : Section → List Section → Bool
is_among s [] = false
is_among s (t ∷ ts) = same_section s t || is_among s ts

-- those that may follow a type's mandatory header, in their order
unfoldable pub sections_of : TypeRow → List Section
sections_of r =
    pick (has_array r) (array ∷ []) []
    ++ (pick r.request (raw_address ∷ cq_data ∷ []) [] ++ pick (eqb r.connid 0) [] (connid ∷ []))

-- an optional header that a type may have: one of these, or the connid where it stands in multiuse
unfoldable pub may_have : TypeRow → Section → Bool
may_have r s = is_among s (sections_of r) || (same_section connid s && not (eqb (place_of r multiuse) 0))

-- ---- their flags

-- those that sections take
abbrev pub flag_sum : List Section → ℕ
flag_sum [] = 0
flag_sum (s ∷ ss) = flag_of s + flag_sum ss

-- the flags that a type takes: its sections', and the connid's where it stands in multiuse
unfoldable pub flags_taken : TypeRow → ℕ
flags_taken r = flag_sum (sections_of r) + pick (eqb (place_of r multiuse) 0) 0 connid_flag

-- a packet of the type with the flags f has the section: an array wherever the type has one; the flags 0x1 and 0x2 are those of raw address and
-- CQ data in a request alone
unfoldable pub flagged : TypeRow → ℕ → Section → Bool
flagged r f array = has_array r
flagged r f raw_address = r.request && has_flag f raw_address_flag
flagged r f cq_data = r.request && has_flag f cq_data_flag
flagged r f connid = has_flag f connid_flag

-- ---- in a header

-- the array is none of a header's
abbrev pub has_section : Header → Section → Bool
has_section h array = false
has_section h raw_address = h.raw_address
has_section h cq_data = is_some h.cq_data
has_section h connid = is_some h.connid

-- the flags of those of some sections that a header has
abbrev pub flags_set : Header → List Section → ℕ
flags_set h [] = 0
flags_set h (s ∷ ss) = pick (has_section h s) (flag_of s) 0 + flags_set h ss

-- the flags that a packet of this type and with these optional headers is written with
unfoldable pub flags_of : TypeRow → Header → ℕ
flags_of r h = r.must + flags_set h options

-- of some sections, the type may have each that the header has
abbrev pub may_have_all : TypeRow → Header → List Section → Bool
may_have_all r h [] = true
may_have_all r h (s ∷ ss) = (not (has_section h s) || may_have r s) && may_have_all r h ss

-- a header without "an optional header its type can't have"
unfoldable pub options_fit : TypeRow → Header → Bool
options_fit r h = may_have_all r h options
