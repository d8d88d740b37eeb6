-- The refusals, and their numbers in 01's table of refusals.
use Rattle.std.specs.Prelude.{ℕ}
use Rattle.protocol.specs.declared.refusals.Refusal.{Refusal}
use Rattle.protocol.specs.declared.refusals.Refusal.TheVariants.{BadSetUp, BadState, BadLent, BadPeer, ShortReply, AboveLimit, CutShort, BadVersion, BadType, BadFlags, BadLength, Early, NoReceive, Differs, Late, Repeated, BeyondGrant, NoSlot, Overlaps, BadSlot, NoRoom}

abbrev pub number : Refusal → ℕ
-- "set-up numbers or lent lengths are wrong; map untouched"
number BadSetUp = 1
-- "a state that can't be"
number BadState = 2
-- "arena or map has the wrong length"
number BadLent = 3
-- "peer not below n"
number BadPeer = 4
-- "reply buffer below 24 bytes"
number ShortReply = 5
-- "packet above L (reader and writer alone: 8,192)"
number AboveLimit = 6
-- "packet ends inside a header"
number CutShort = 7
-- "version is not 4"
number BadVersion = 8
-- "type not in the table; in the engine, CTS too"
number BadType = 9
-- "flags break the rule"
number BadFlags = 10
-- "a length rule above broken; a post whose start + capacity exceeds A"
number BadLength = 11
-- "early: id ahead of next"
number Early = 12
-- "id is next and no posted receive of this peer fits"
number NoReceive = 13
-- "id is open, but type, length or tag differs, or the type isn't medium"
number Differs = 14
-- "late: id behind next and not open; CTSDATA for no open long message"
number Late = 15
-- "segment shares a byte with one already accepted"
number Repeated = 16
-- "CTSDATA's offset + length, as whole numbers, is beyond the granted end"
number BeyondGrant = 17
-- "no free slot (a freed slot counts as free)"
number NoSlot = 18
-- "post overlaps a used range of this peer (empty ranges overlap nothing)"
number Overlaps = 19
-- "slot not below 8, or free; for the missing-byte report, not open"
number BadSlot = 20
-- "writer's buffer too short"
number NoRoom = 21

-- ---- by their names here

abbrev pub bad_set_up : Refusal
bad_set_up = BadSetUp

abbrev pub bad_state : Refusal
bad_state = BadState

abbrev pub bad_lent : Refusal
bad_lent = BadLent

abbrev pub bad_peer : Refusal
bad_peer = BadPeer

abbrev pub short_reply : Refusal
short_reply = ShortReply

abbrev pub above_limit : Refusal
above_limit = AboveLimit

abbrev pub cut_short : Refusal
cut_short = CutShort

abbrev pub bad_version : Refusal
bad_version = BadVersion

abbrev pub bad_type : Refusal
bad_type = BadType

abbrev pub bad_flags : Refusal
bad_flags = BadFlags

abbrev pub bad_length : Refusal
bad_length = BadLength

abbrev pub early : Refusal
early = Early

abbrev pub no_receive : Refusal
no_receive = NoReceive

abbrev pub differs : Refusal
differs = Differs

abbrev pub late : Refusal
late = Late

abbrev pub repeated : Refusal
repeated = Repeated

abbrev pub beyond_grant : Refusal
beyond_grant = BeyondGrant

abbrev pub no_slot : Refusal
no_slot = NoSlot

abbrev pub overlaps : Refusal
overlaps = Overlaps

abbrev pub bad_slot : Refusal
bad_slot = BadSlot

abbrev pub no_room : Refusal
no_room = NoRoom
