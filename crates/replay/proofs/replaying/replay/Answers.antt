-- `replay::replaying::replay` meets its contract: what is lent on of arena and map is there, and is put back.
use borrow.Author.Tests.{leb-true}
use Prim.Native.Nat.{◌+◌, ◌*◌, ◌≤◌}
use lib.ListN.{length}
use lib.Seq.{length-take-le}
use mathlib.Core.Bool.{true}
use mathlib.Core.Path.{◌≡◌, sym, ap, ◌∙◌}
use Rattle.laws.specs.Parts.{part}
use Rattle.laws.proofs.Choosing.{pick_false, pick_true}
use Rattle.laws.proofs.Storing.{store_nothing}
use Rattle.replay.specs.Lines.{ending_line}
use Rattle.replay.specs.Replaying.{has_room, in_whole, replay_of, started}
use Rattle.replay.proofs.RoomLaws.{lent_there}
use Rattle.replay.proofs.LineRoom.{tell_room}
use Rattle.replay.proofs.WholeLaws.{put_back}
use Rattle.replay.proofs.replaying.replay.Goals as goal
use Rattle.replay.proofs.replaying.replay.Goals.{Else-not-has_room}

-- past the first test the text has room
open_room : (c : Else-not-has_room) → let a = c.args in
    has_room a.budget (length a.text.now) ≡ true
open_room c = sym c.has_room.ensures ∙ c.if-not-has_room.false

room : (c : Else-not-has_room) → let a = c.args in
    64 + 80 * a.budget ≤ length a.text.now
unfolding has_room
room c = leb-true _ _ (open_room c)

pub returns-then-not-has_room : goal.returns-then-not-has_room
unfolding replay_of ending_line
returns-then-not-has_room c =
    let e = sym c.has_room.ensures ∙ c.if-not-has_room.true in
    rw (pick_false _ _ e, store_nothing)

pub tell-requires : goal.tell-requires
tell-requires c = tell_room _ _ _ (room (goal.at.tell-requires c).Else-not-has_room)

pub slice_bounds-begin-end : goal.slice_bounds-begin-end
slice_bounds-begin-end c = rw c.lent-bytes.ensures (lent_there _ _ _)

pub slice_bounds-begin-end-2 : goal.slice_bounds-begin-end-2
slice_bounds-begin-end-2 c = sym (length-take-le _ _ (rw c.lent-bytes.ensures (lent_there _ _ _)))

pub slice_bounds-begin-end-3 : goal.slice_bounds-begin-end-3
slice_bounds-begin-end-3 c = rw c.lent-words.ensures (lent_there _ _ _)

pub slice_bounds-begin-end-4 : goal.slice_bounds-begin-end-4
slice_bounds-begin-end-4 c = sym (length-take-le _ _ (rw c.lent-words.ensures (lent_there _ _ _)))

pub begin-requires : goal.begin-requires
begin-requires c = room (goal.at.begin-requires c).Else-not-has_room

pub returns-in_default : goal.returns-in_default
unfolding replay_of started
returns-in_default c =
    c.tell.ensures _ _ _
    ∙ sym (pick_true _ _ (open_room (goal.at.returns-in_default c).Else-not-has_room) ∙ rw (sym c.read_set_up.ensures ∙ c.in_default.is))

pub returns : goal.returns
unfolding replay_of started part
returns c =
    let a = c.args in
    let g = c.begin in
    let m = c.lent-bytes in
    let k = c.lent-words in
    put_back a.arena.now a.map.now _ m.result k.result
    (g.auto.arena ∙ length-take-le _ _ (rw m.ensures (lent_there _ _ _)))
    (g.auto.map ∙ length-take-le _ _ (rw k.ensures (lent_there _ _ _)))
    ∙ ap (in_whole a.arena.now a.map.now) g.ensures
    ∙ sym (pick_true _ _ (open_room (goal.at.returns c).Else-not-has_room) ∙ rw (sym c.read_set_up.ensures ∙ c.in-Some.is, ← m.ensures, ← k.ensures))
