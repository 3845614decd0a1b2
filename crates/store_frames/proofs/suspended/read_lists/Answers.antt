use Rattle.std.proofs.Common.{arith}
use Rattle.store_frames.proofs.Awaiting.{lists_one, lists_sound}
use Rattle.store_frames.proofs.suspended.read_lists.Goals as goal

pub returns-in-Ok : goal.returns-in-Ok
returns-in-Ok c = λ suspension told. lists_one suspension c.args.payload.now (omega arith) told c.in-Ok.one c.in-Ok.ensures c.any_of.result c.any_of.ensures

pub returns-in-Err-Fault : goal.returns-in-Err-Fault
returns-in-Err-Fault c = λ suspension told. lists_sound suspension c.args.payload.now (omega arith) told c.in-Err-Fault.field-0 c.in-Err-Fault.field-0-0 c.in-Err-Fault.field-0-is c.in-Err-Fault.ensures
