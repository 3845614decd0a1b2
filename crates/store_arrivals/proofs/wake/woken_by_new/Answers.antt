use Rattle.std.proofs.Common.{◌≡◌, ◌∙◌, ◌++◌, sym, drop}
use Rattle.sqlite.specs.Held.{state}
use Rattle.journal_model.specs.Journal.{recorded_arrivals}
use Rattle.store_refusals.proofs.Causes.{unasked_tells}
use Rattle.store_arrivals.proofs.Unasked.{heard_cause}
use Rattle.store_arrivals.proofs.Naming.{unnamed_sleeps}
use Rattle.store_arrivals.proofs.wake.woken_by_new.Goals as goal

pub returns-in-Ok-true-clause-told : goal.returns-in-Ok-true-clause-told
returns-in-Ok-true-clause-told g c clean events store waits awaited asleep =
    c.woken_by.ensures.told waits (drop c.args.heard (recorded_arrivals events c.args.id.now) ++ c.args.new.now) awaited (c.heard_after-heard.ensures.told clean events store)

pub returns-in-Ok-false-clause-told : goal.returns-in-Ok-false-clause-told
returns-in-Ok-false-clause-told g c clean events store waits awaited asleep =
    unnamed_sleeps waits c.args.awaited (drop c.args.heard (recorded_arrivals events c.args.id.now)) c.args.new.now awaited (sym c.in-Ok-false.ensures.told ∙ c.in-Ok-false.field-0-test) asleep

pub returns-in-Ok-true-clause-cause : goal.returns-in-Ok-true-clause-cause
returns-in-Ok-true-clause-cause g c =
    heard_cause (state g.S.Store c.args.tables.now) (state g.S.Store c.heard_after-heard.new.tables) c.heard_after-heard.result c.woken_by.result c.woken_by.ensures.refused c.heard_after-heard.ensures.cause

pub returns-in-Err-clause-cause : goal.returns-in-Err-clause-cause
returns-in-Err-clause-cause g c =
    unasked_tells (state g.S.Store c.args.tables.now) (state g.S.Store c.args.tables.now) c.in-Err.why c.in-Err.ensures.unasked
