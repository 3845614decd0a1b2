use Rattle.std.proofs.Common.{◌≡◌, ◌∙◌, sym, subst, []}
use Rattle.sqlite.specs.Held.{state}
use Rattle.journal_model.specs.Journal.{entries_of, open_request}
use Rattle.journal_model.specs.Cause.{is_run}
use Rattle.store_refusals.specs.RefusalConditions.{IsRefused}
use Rattle.store_refusals.proofs.Causes.{cause_by}
use Rattle.store_invocations.proofs.Reading.{told_err}
use Rattle.store_arrivals.proofs.Outcomes.{no_run_told, run_told}
use Rattle.store_arrivals.proofs.outcome.is_run_open.Goals as goal

pub returns-in_err-open-clause-told : goal.returns-in_err-open-clause-told
returns-in_err-open-clause-told g c clean events store =
    told_err (λ is_open. is_open ≡ is_run (open_request (entries_of events c.args.id.now) c.args.completion)) c.from_residual.result c.from_residual.ensures.1 (λ why gives.
    subst (IsRefused []) (sym gives) (c.in_err-open.ensures.told clean events store))

pub returns-in-Some-clause-told : goal.returns-in-Some-clause-told
returns-in-Some-clause-told g c clean events store =
    c.is_run.ensures ∙ run_told c.args.completion (open_request (entries_of events c.args.id.now) c.args.completion) c.in-Some.asked (sym c.in-Some.is ∙ c.in_ok-open.ensures.told clean events store)

pub returns-in-None-clause-told : goal.returns-in-None-clause-told
returns-in-None-clause-told g c clean events store =
    no_run_told c.args.completion (open_request (entries_of events c.args.id.now) c.args.completion) (sym c.in-None.is ∙ c.in_ok-open.ensures.told clean events store)

pub returns-in_err-open-clause-cause : goal.returns-in_err-open-clause-cause
returns-in_err-open-clause-cause g c =
    cause_by (state g.S.Store c.args.tables.now) (state g.S.Store c.open_request_of.new.tables) _ c.from_residual.result c.from_residual.ensures.1 c.in_err-open.ensures.cause
