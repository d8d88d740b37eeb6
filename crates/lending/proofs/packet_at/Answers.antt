-- `lending::packet_at` meets its contract: what the peer stores in its own part is stored in the whole.
use lib.ListN.{length}
use mathlib.Core.Path.{◌≡◌}
use Rattle.laws.proofs.Listing.{length_mapped}
use Rattle.lending.proofs.PartLaws.{packet_put}
use Rattle.peer.specs.State.{slot_count}
use Rattle.lending.proofs.packet_at.Goals as goal

pub returns : goal.returns
returns c =
    let a = c.args in
    let m = c.requires in
    let w = c.well_formed.0 in
    let len : length a.there.slots ≡ slot_count = search length_mapped in
    packet_put a.area a.limit a.p a.there a.arena.now a.map.now a.reply.now a.bytes.now m len _ c.packet.ensures
