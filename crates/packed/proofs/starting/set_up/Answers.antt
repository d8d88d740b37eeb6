-- `packed::starting::set_up` meets its contract.
use Rattle.packed.proofs.SettingUp.{start_ready, start_refused, start_short}
use Rattle.packed.proofs.starting.set_up.Goals as goal

pub returns-then-state-ne-STATE : goal.returns-then-state-ne-STATE
returns-then-state-ne-STATE c = rw c.number.ensures (start_short _ _ _ _ _ _ c.if-state-ne-STATE.true)

pub returns-in-Err : goal.returns-in-Err
returns-in-Err c =
    rw c.number-in-Err.ensures (start_refused _ _ _ _ _ _ c.if-state-ne-STATE.false _ c.set_up-started.ensures _ c.in-Err.is)

pub returns-in-Ok : goal.returns-in-Ok
returns-in-Ok c = rw c.save.ensures (start_ready _ _ _ _ _ _ c.if-state-ne-STATE.false _ c.set_up-started.ensures c.in-Ok.is)
