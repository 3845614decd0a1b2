use Rattle.std.proofs.Common.{arith, sym}
use Rattle.store_frames.proofs.Awaiting.{tree_awaited, tree_sound, tree_there}
use Rattle.store_frames.proofs.suspended.read_tree.Goals as goal

pub returns-in-Some : goal.returns-in-Some
returns-in-Some c = λ suspension told. tree_awaited suspension c.args.payload.now (omega arith) told c.in-Ok.one c.in-Ok.ensures _ c.in-Some.is

pub returns-in-None : goal.returns-in-None
returns-in-None c = λ suspension told. tree_there suspension c.args.payload.now (omega arith) told c.in-Ok.one c.in-Ok.ensures c.in-None.is

pub returns-in-Err-Fault : goal.returns-in-Err-Fault
returns-in-Err-Fault c = λ suspension told. tree_sound suspension c.args.payload.now (omega arith) told c.in-Err-Fault.field-0 c.in-Err-Fault.field-0-0 c.in-Err-Fault.field-0-is c.in-Err-Fault.ensures
