-- What a packet that was read says of its message and of its segment.
use Rattle.std.specs.Prelude.{Bool, true, false, ◌||◌}
use Rattle.laws.specs.Choose.{pick}
use Rattle.protocol.specs.declared.table.Shape.{Shape}
use Rattle.protocol.specs.declared.table.Shape.TheVariants.{Cts, CtsData, Eager, Medium, LongCts}
use Rattle.protocol.specs.declared.types.Packet.{Packet}
use Rattle.peer.specs.declared.types.Incoming.{Incoming}

-- what a type is, by its row's shape: a whole message, a segment of a message that needs no grant, one that begins a message which goes on
-- by grants
abbrev pub is_eager : Shape → Bool
is_eager Cts = false
is_eager CtsData = false
is_eager Eager = true
is_eager Medium = false
is_eager LongCts = false

abbrev pub is_medium : Shape → Bool
is_medium Cts = false
is_medium CtsData = false
is_medium Eager = false
is_medium Medium = true
is_medium LongCts = false

abbrev pub is_long : Shape → Bool
is_long Cts = false
is_long CtsData = false
is_long Eager = false
is_long Medium = false
is_long LongCts = true

-- these three are the RTMs
abbrev pub is_rtm : Shape → Bool
is_rtm s = is_eager s || (is_medium s || is_long s)

-- CTSDATA names its message by recv_id, which "is the message's id"; an eager packet's data are the whole message, and its offset is 0 as a
-- LONGCTS packet's is ("from its offset on (0 where the packet has none)")
unfoldable pub incoming_of : Packet → Incoming
incoming_of q =
    record {
      shape = q.shape;
      tagged = q.tagged;
      id = pick (is_rtm q.shape) q.header.fields.msg_id q.header.fields.recv_id;
      tag = q.header.fields.tag;
      length = pick (is_eager q.shape) q.«data».size q.header.fields.msg_length;
      offset = q.header.fields.seg_offset;
      size = q.«data».size;
      send_id = q.header.fields.send_id;
      credit_request = q.header.fields.credit_request;
      cq_data = q.header.cq_data;
    }
