-- `receiving::effects::carry` meets its contract: what a verdict's part asks follows from the verdict.
use Rattle.std.proofs.Common.{◌≡◌, length, sym, ◌∙◌}
use Rattle.laws.proofs.Listing.{length_mapped}
use Rattle.peer.specs.Effects.{advance, carry, truncated_at}
use Rattle.receiving.proofs.Asking.{begins, begun_slot, cut_slot, goes_on, in_peer_lem, left_quiet, more_slot}
use Rattle.peer.specs.State.{slot_count}
use Rattle.receiving.proofs.effects.carry.Goals as goal

pub stepped-requires : goal.stepped-requires
stepped-requires c =
    let a = c.args in
    let w = c.well_formed.0 in
    let len : length a.peer.slots ≡ slot_count = search length_mapped in
    cut_slot a.limit a.peer a.h (length a.bytes.now) (length a.area.now) (length a.words.now) (length a.reply.now) c.requires len a.words.now _ (sym c.judge.ensures ∙ c.in-Truncate.is)

pub begin-step-requires : goal.begin-step-requires
begin-step-requires c =
    let a = c.args in
    let w = c.well_formed.0 in
    let len : length a.peer.slots ≡ slot_count = search length_mapped in
    begins a.limit a.peer a.h (length a.bytes.now) (length a.area.now) (length a.words.now) (length a.reply.now) c.requires len a.words.now _ _ (sym c.judge.ensures ∙ c.in-Begin.is)

pub stepped-requires-in-Begin : goal.stepped-requires-in-Begin
stepped-requires-in-Begin c =
    let a = c.args in
    let w = c.well_formed.0 in
    let len : length a.peer.slots ≡ slot_count = search length_mapped in
    begun_slot a.limit a.peer a.h (length a.bytes.now) (length a.area.now) (length a.words.now) (length a.reply.now) c.requires len a.words.now _ _ (sym c.judge.ensures ∙ c.in-Begin.is)

pub accept-step-requires : goal.accept-step-requires
accept-step-requires c =
    let a = c.args in
    let w = c.well_formed.0 in
    let len : length a.peer.slots ≡ slot_count = search length_mapped in
    goes_on a.limit a.peer a.h (length a.bytes.now) (length a.area.now) (length a.words.now) (length a.reply.now) c.requires len a.words.now _ _ (sym c.judge.ensures ∙ c.in-More.is)

pub stepped-requires-in-More : goal.stepped-requires-in-More
stepped-requires-in-More c =
    let a = c.args in
    let w = c.well_formed.0 in
    let len : length a.peer.slots ≡ slot_count = search length_mapped in
    more_slot a.limit a.peer a.h (length a.bytes.now) (length a.area.now) (length a.words.now) (length a.reply.now) c.requires len a.words.now _ _ (sym c.judge.ensures ∙ c.in-More.is)

pub returns-in-Refuse : goal.returns-in-Refuse
unfolding carry
returns-in-Refuse c = rw (← c.judge.ensures, c.in-Refuse.is, c.refused.ensures) (left_quiet _ _ _ _ _)

pub returns-in-Truncate : goal.returns-in-Truncate
unfolding carry truncated_at
returns-in-Truncate c =
    rw (← c.judge.ensures, c.in-Truncate.is, c.stepped.ensures, c.truncate.ensures, c.advanced.ensures)
    (left_quiet _ _ _ _ _)

pub returns-in-Begin : goal.returns-in-Begin
unfolding carry
returns-in-Begin c =
    let a = c.args in
    rw (← c.judge.ensures, c.in-Begin.is, c.stepped-in-Begin.ensures, c.advanced-in-Begin.ensures)
    (in_peer_lem (advance a.peer) c.in-Begin.i _ _ c.begin-step.ensures)

pub returns-in-More : goal.returns-in-More
unfolding carry
returns-in-More c =
    let a = c.args in
    rw (← c.judge.ensures, c.in-More.is, c.stepped-in-More.ensures)
    (in_peer_lem a.peer c.in-More.i _ _ c.accept-step.ensures)
