-- `calls::local` meets its contract.
use lib.ListN.{length}
use native.Mathlib.Omega.{arith}
use Rattle.engine.proofs.CheckLaws.{Gated, gated, opened}
use Rattle.engine.proofs.PutBack.{quiet_call, refused_call}
use Rattle.peer.specs.LentCalls.{local_call_of}
use Rattle.calls.proofs.local.Goals as goal
use Rattle.calls.proofs.local.Goals.{After-admit}

-- it is known what the gate says
passed : (c : After-admit) → let a = c.args in Gated a.engine.now (length a.arena.now) (length a.map.now) a.peer c.admit.result
passed c = gated (search arith) c.fits-fits.ensures c.admit.ensures

pub returns-in-Err : goal.returns-in-Err
returns-in-Err c = refused_call _ (passed (goal.at.returns-in-Err c).After-admit) (local_call_of c.args.call) c.in-Err.is

pub returns-in-Ok : goal.returns-in-Ok
returns-in-Ok c = quiet_call _ (passed (goal.at.returns-in-Ok c).After-admit) c.in-Ok.is (local_call_of c.args.call) _ (c.local-step.ensures _)

pub offset_bounds-engine-peer : goal.offset_bounds-engine-peer
offset_bounds-engine-peer c = omega (arith, (opened (passed (goal.at.offset_bounds-engine-peer c).After-admit) c.in-Ok.is).below)

pub bounds-engine-peer : goal.bounds-engine-peer
bounds-engine-peer c = omega (arith, (opened (passed (goal.at.bounds-engine-peer c).After-admit) c.in-Ok.is).below)

pub offset_bounds-engine-peer-in-Ok : goal.offset_bounds-engine-peer-in-Ok
offset_bounds-engine-peer-in-Ok c = omega (arith, (opened (passed (goal.at.offset_bounds-engine-peer-in-Ok c).After-admit) c.in-Ok.is).below)

pub bounds-engine-peer-in-Ok : goal.bounds-engine-peer-in-Ok
bounds-engine-peer-in-Ok c = omega (arith, (opened (passed (goal.at.bounds-engine-peer-in-Ok c).After-admit) c.in-Ok.is).below)

pub local-step-requires : goal.local-step-requires
local-step-requires c = ((opened (passed (goal.at.local-step-requires c).After-admit) c.in-Ok.is).owns _).mapped
