-- `receiving::judging::judge` meets its contract: a segment of an open message is looked for where the map has bits.
use Rattle.std.proofs.Common.{length, sym, ◌∙◌}
use Rattle.laws.specs.Choose.{pick}
use Rattle.peer.specs.Judging.{judge, judge_found}
use Rattle.receiving.proofs.Asking.{again_placed, data_placed}
use Rattle.receiving.proofs.judging.judge.Goals as goal

pub judge_again-requires : goal.judge_again-requires
judge_again-requires c =
    let a = c.args in
    let found = sym c.find_open.ensures ∙ c.in-Some.is in
    again_placed (length a.words.now) a.peer.now a.h c.requires _ _ found (sym c.is_rtm-rtm.ensures ∙ c.if-rtm.true)

pub judge_data-requires : goal.judge_data-requires
judge_data-requires c =
    let a = c.args in
    let found = sym c.find_open.ensures ∙ c.in-Some.is in
    data_placed (length a.words.now) a.peer.now a.h c.requires _ _ found

pub returns-in-Some : goal.returns-in-Some
unfolding judge judge_found pick
returns-in-Some c = rw (← c.find_open.ensures, c.in-Some.is, ← c.is_rtm-rtm.ensures, c.if-rtm.true, c.judge_again.ensures)

pub returns-in-Some-2 : goal.returns-in-Some-2
unfolding judge judge_found pick
returns-in-Some-2 c = rw (← c.find_open.ensures, c.in-Some.is, ← c.is_rtm-rtm.ensures, c.if-rtm.false, c.judge_data.ensures)

pub returns-in-None : goal.returns-in-None
unfolding judge judge_found pick
returns-in-None c = rw (← c.find_open.ensures, c.in-None.is, ← c.is_rtm-rtm.ensures, c.if-rtm-2.true, c.judge_new.ensures)

pub returns-in-None-2 : goal.returns-in-None-2
unfolding judge judge_found pick
returns-in-None-2 c = rw (← c.find_open.ensures, c.in-None.is, ← c.is_rtm-rtm.ensures, c.if-rtm-2.false)
