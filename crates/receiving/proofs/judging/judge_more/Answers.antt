-- `receiving::judging::judge_more` meets its contract.
use Rattle.std.proofs.Common.{◌≡◌, ◌+◌}
use Rattle.bitmap.specs.Map.{touched}
use Rattle.laws.specs.Choose.{pick}
use Rattle.peer.specs.Judging.{judge_more}
use Rattle.receiving.proofs.judging.judge_more.Goals as goal
use Rattle.receiving.proofs.judging.judge_more.Goals.{After-is_touched}

-- what is looked at is the packet's own range
looked : (c : After-is_touched) → let a = c.args in
    c.is_touched.result ≡ touched a.words.now (a.inbound.receive.start + a.h.offset) a.h.size
looked c = c.is_touched.ensures

pub returns-then-is_touched : goal.returns-then-is_touched
unfolding judge_more pick
returns-then-is_touched c = rw (← looked (goal.at.returns-then-is_touched c).After-is_touched, c.if-is_touched.true)

pub returns-else-is_touched : goal.returns-else-is_touched
unfolding judge_more pick
returns-else-is_touched c = rw (← looked (goal.at.returns-else-is_touched c).After-is_touched, c.if-is_touched.false)
