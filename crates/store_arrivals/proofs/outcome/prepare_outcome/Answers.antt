use Rattle.std.proofs.Common.{◌∙◌, sym}
use Rattle.sqlite.specs.Held.{state}
use Rattle.store_refusals.proofs.Causes.{err_unasked}
use Rattle.store_arrivals.proofs.Outcomes.{none_waits, outcome_ready, unanswered}
use Rattle.store_arrivals.proofs.outcome.prepare_outcome.Goals as goal

pub returns-in-Ok-true-clause-decided : goal.returns-in-Ok-true-clause-decided
returns-in-Ok-true-clause-decided g c clean events store of =
    outcome_ready events store.accepted c.args.id.now c.args.completion c.args.row of (sym (c.in-Ok-true.ensures.told clean events store) ∙ c.in-Ok-true.field-0-test)
    c.args.brought c.prepare_arrival.result c.prepare_arrival.ensures.decided

pub returns-in-Ok-false-clause-decided : goal.returns-in-Ok-false-clause-decided
returns-in-Ok-false-clause-decided g c clean events store of =
    none_waits events c.args.id.now c.args.completion c.args.brought (sym (c.in-Ok-false.ensures.told clean events store) ∙ c.in-Ok-false.field-0-test)

pub returns-in-Err-clause-decided : goal.returns-in-Err-clause-decided
returns-in-Err-clause-decided g c clean events store of =
    unanswered events c.args.id.now c.args.completion c.args.brought c.in-Err.why (c.in-Err.ensures.told clean events store)

pub returns-in-Ok-true-clause-cause : goal.returns-in-Ok-true-clause-cause
returns-in-Ok-true-clause-cause g c =
    err_unasked (state g.S.Store c.args.tables.now) (state g.S.Store c.is_run_open.new.tables) c.prepare_arrival.result c.prepare_arrival.ensures.unasked
