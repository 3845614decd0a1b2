use Rattle.sqlite.specs.Held.{state}
use Rattle.store_refusals.proofs.Causes.{unasked_tells}
use Rattle.store_arrivals.proofs.Hearing.{fault_refused}
use Rattle.store_arrivals.proofs.Unasked.{fault_unasked}
use Rattle.store_arrivals.proofs.wake.is_woken_by_new.Goals as goal

pub returns-in-Ok-clause-told : goal.returns-in-Ok-clause-told
returns-in-Ok-clause-told g c clean events store waits read keeps asleep =
    c.woken_by_new.ensures.told clean events store waits (c.in-Ok.ensures waits read keeps) asleep

pub returns-in-Err-clause-told : goal.returns-in-Err-clause-told
returns-in-Err-clause-told g c clean events store waits read keeps asleep =
    fault_refused c.in-Err.fault c.refusal_of.result (c.in-Err.ensures waits read keeps) c.refusal_of.ensures

pub returns-in-Err-clause-cause : goal.returns-in-Err-clause-cause
returns-in-Err-clause-cause g c =
    unasked_tells (state g.S.Store c.args.tables.now) (state g.S.Store c.args.tables.now) c.refusal_of.result (fault_unasked c.in-Err.fault c.refusal_of.result c.refusal_of.ensures)
