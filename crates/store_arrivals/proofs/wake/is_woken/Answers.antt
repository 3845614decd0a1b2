use Rattle.std.proofs.Common.{◌++◌, drop}
use Rattle.sqlite.specs.Held.{state}
use Rattle.journal_model.specs.Journal.{recorded_arrivals}
use Rattle.store_refusals.proofs.Causes.{unasked_tells}
use Rattle.store_arrivals.proofs.Hearing.{fault_refused}
use Rattle.store_arrivals.proofs.Unasked.{fault_unasked, heard_cause}
use Rattle.store_arrivals.proofs.wake.is_woken.Goals as goal

pub returns-in-Ok-clause-told : goal.returns-in-Ok-clause-told
returns-in-Ok-clause-told g c clean events store waits read keeps =
    c.woken_by.ensures.told waits (drop c.args.heard (recorded_arrivals events c.args.id.now) ++ c.args.new.now) (c.in-Ok.ensures waits read keeps) (c.heard_after-heard.ensures.told clean events store)

pub returns-in-Err-clause-told : goal.returns-in-Err-clause-told
returns-in-Err-clause-told g c clean events store waits read keeps =
    fault_refused c.in-Err.fault c.refusal_of.result (c.in-Err.ensures waits read keeps) c.refusal_of.ensures

pub returns-in-Ok-clause-cause : goal.returns-in-Ok-clause-cause
returns-in-Ok-clause-cause g c =
    heard_cause (state g.S.Store c.args.tables.now) (state g.S.Store c.heard_after-heard.new.tables) c.heard_after-heard.result c.woken_by.result c.woken_by.ensures.refused c.heard_after-heard.ensures.cause

pub returns-in-Err-clause-cause : goal.returns-in-Err-clause-cause
returns-in-Err-clause-cause g c =
    unasked_tells (state g.S.Store c.args.tables.now) (state g.S.Store c.args.tables.now) c.refusal_of.result (fault_unasked c.in-Err.fault c.refusal_of.result c.refusal_of.ensures)
