-- What a packet says, by the bytes where 01's table puts it ("Fields after type 1, version 1, flags 2"), for the types that the engine serves.
use Rattle.std.specs.Prelude.{ℕ, ◌-◌, Bool, ◌||◌, List, length, ◌==◌, nat_lt}
use Rattle.laws.specs.Choose.{pick}
use Rattle.protocol.specs.ByType.{Rtm}
pub use Rattle.protocol.specs.Sentences.{type_in}
use Rattle.protocol.specs.Sentences.{head_in}
use Rattle.protocol.specs.declared.table.Shape.{Shape}
use Rattle.protocol.specs.declared.table.Shape.TheVariants.{Cts, CtsData, Eager, Medium, LongCts}
use Rattle.peer.specs.declared.types.Incoming.{Incoming}
use Rattle.peer.specs.declared.types.Message.{Message}
use Rattle.wire.specs.LittleEndian.{le_at}

-- the number of a type: "3 CTS", "4 CTSDATA", "64/65 EAGER MSG/TAG RTM", "66/67 MEDIUM MSG/TAG RTM", "68/69 LONGCTS MSG/TAG RTM"
abbrev pub type_number : Shape → Bool → ℕ
type_number Cts tagged = 3
type_number CtsData tagged = 4
type_number Eager tagged = pick tagged 65 64
type_number Medium tagged = pick tagged 67 66
type_number LongCts tagged = pick tagged 69 68

-- of a packet that was read, and of the packet that began a message
abbrev pub type_said : Incoming → ℕ
type_said h = type_number h.shape h.tagged

abbrev pub type_of : Message → ℕ
type_of m = type_number m.shape m.tagged

-- its type is 64 to 69
abbrev pub RtmIn : List ℕ → Type 0
RtmIn bs = Rtm (type_in bs)

-- "msg_id 4", "recv_id 4": both stand after type, version and flags; "recv_id is the message's id"
abbrev pub id_in : List ℕ → ℕ
id_in bs = le_at 4 bs 4

-- the number of data bytes, behind all headers: "the rest is data"
unfoldable pub size_in : List ℕ → ℕ
size_in bs = length bs - head_in bs

-- the message's length, of an RTM of type k: 66 to 69 have "msg_length 8" after msg_id; eager "its length is the message length"
abbrev pub length_as : ℕ → List ℕ → ℕ
length_as k bs = pick (nat_lt k 66) (size_in bs) (le_at 8 bs 8)

unfoldable pub length_in : List ℕ → ℕ
length_in bs = length_as (type_in bs) bs

-- "seg_offset 8" of 4, 66 and 67; "its offset .. (0 where the packet has none)"
abbrev pub offset_as : ℕ → List ℕ → ℕ
offset_as k bs = pick (k == 4 || (k == 66 || k == 67)) (le_at 8 bs 16) 0

unfoldable pub offset_in : List ℕ → ℕ
offset_in bs = offset_as (type_in bs) bs

-- "tag 8" for 65, 67 and 69, last in the header
abbrev pub tag_as : ℕ → List ℕ → ℕ
tag_as k bs = pick (k == 65) (le_at 8 bs 8) (pick (k == 67 || k == 69) (le_at 8 bs 24) 0)

unfoldable pub tag_in : List ℕ → ℕ
tag_in bs = tag_as (type_in bs) bs
