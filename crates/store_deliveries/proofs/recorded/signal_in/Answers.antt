use Rattle.store_deliveries.proofs.Decoding.{signal_sound, signal_told}
use Rattle.store_deliveries.proofs.recorded.signal_in.Goals as goal

pub returns-in_ok-found-in-Ok-clause-told : goal.returns-in_ok-found-in-Ok-clause-told
returns-in_ok-found-in-Ok-clause-told c request message it short same is =
    c.or_foreign.ensures.told message
    (signal_told request it short c.args.payload.now same message is c.in-Ok.one c.in-Ok.ensures c.in_ok-found-in-Ok.found c.in_ok-found-in-Ok.ensures)

pub returns-in-Err-Fault-clause-told : goal.returns-in-Err-Fault-clause-told
returns-in-Err-Fault-clause-told c request message it short same is =
    absurd (signal_sound request it short c.args.payload.now same c.in-Err-Fault.field-0-0 (rw c.in-Err-Fault.field-0-is at c.in-Err-Fault.ensures))
