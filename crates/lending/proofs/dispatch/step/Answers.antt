-- `lending::dispatch::step` meets its contract: a call of a peer leaves, of what is lent whole, what its own step leaves of its parts.
use mathlib.Core.Path.{ap, ◌∙◌}
use Rattle.peer.specs.Calls.{peer_step}
use Rattle.laws.proofs.Storing.{lent_part}
use Rattle.lending.proofs.StepLaws.{local_call, packet_leaves_lem, quiet_leaves}
use Rattle.lending.proofs.dispatch.step.Goals as goal

pub returns-in-Local : goal.returns-in-Local
returns-in-Local c =
    let a = c.args in
    let q = ap (peer_step a.area a.limit a.there _) (local_call c.in-Local.local_call) in
    rw c.in-Local.is (quiet_leaves _ _ _ _ _ _ _ _ c.requires.owned.mapped.in_map (c.local.ensures a.limit ∙ q))

pub returns-in-Packet : goal.returns-in-Packet
unfolding peer_step
returns-in-Packet c =
    let q = c.packet_at in
    let sent = c.in-Packet.sent in
    let i = rw c.in-Packet.is at c.requires.lies_within in
    rw c.in-Packet.is
    (packet_leaves_lem _ _ _ _ _ _ _ _ _ _ _ _ i.1 q.auto.reply (rw (lent_part c.args.bytes.now sent.at sent.size) at q.ensures))
