-- `calls::packet` meets its contract.
use lib.ListN.{length}
use native.Mathlib.Omega.{arith}
use Rattle.laws.proofs.Listing.{length_mapped}
use Rattle.peer.specs.Calls.{packet}
use Rattle.engine.proofs.CheckLaws.{Gated, gated, opened}
use Rattle.engine.proofs.PutBack.{packet_call, refused_call_leaves}
use Rattle.calls.proofs.packet.Goals as goal
use Rattle.calls.proofs.packet.Goals.{After-admit}

-- it is known what the gate says
passed : (c : After-admit) → let a = c.args in Gated a.engine (length a.arena.now) (length a.map.now) a.peer c.admit.result
passed c = gated (search length_mapped) c.fits-fits.ensures c.admit.ensures

pub offset_bounds-engine-peer : goal.offset_bounds-engine-peer
offset_bounds-engine-peer c = omega (arith, (opened (passed (goal.at.offset_bounds-engine-peer c).After-admit) c.in-Ok.is).below)

pub bounds-engine-peer : goal.bounds-engine-peer
bounds-engine-peer c = omega (arith, (opened (passed (goal.at.bounds-engine-peer c).After-admit) c.in-Ok.is).below)

pub offset_bounds-engine-peer-in-Ok : goal.offset_bounds-engine-peer-in-Ok
offset_bounds-engine-peer-in-Ok c = omega (arith, (opened (passed (goal.at.offset_bounds-engine-peer-in-Ok c).After-admit) c.in-Ok.is).below)

pub bounds-engine-peer-in-Ok : goal.bounds-engine-peer-in-Ok
bounds-engine-peer-in-Ok c = omega (arith, (opened (passed (goal.at.bounds-engine-peer-in-Ok c).After-admit) c.in-Ok.is).below)

pub returns-in-Err : goal.returns-in-Err
returns-in-Err c = refused_call_leaves _ (passed (goal.at.returns-in-Err c).After-admit) (packet _ _) _ c.in-Err.is

pub returns-in-Ok : goal.returns-in-Ok
returns-in-Ok c = packet_call _ (passed (goal.at.returns-in-Ok c).After-admit) c.in-Ok.is _ _ _ _ c.step-step.ensures

pub step-step-requires-clause-owned : goal.step-step-requires-clause-owned
step-step-requires-clause-owned c = (opened (passed (goal.at.step-step-requires-clause-owned c).After-admit) c.in-Ok.is).owns _
