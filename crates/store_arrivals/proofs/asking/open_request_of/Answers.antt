use Rattle.std.proofs.Common.{◌≡◌, ◌∙◌, sym, ap, subst, arith, option_map, []}
use Rattle.sqlite.specs.Held.{state}
use Rattle.sqlite.specs.State.{State, HasCleanDisk}
use Rattle.journal_model.specs.Journal.{entries_of, open_request}
use Rattle.store_refusals.specs.RefusalConditions.{IsRefused}
use Rattle.store_refusals.proofs.Causes.{cause_by, err_later}
use Rattle.store_invocations.proofs.Reading.{told_err}
use Rattle.store_invocations.proofs.Standing.{store_kept}
use Rattle.store_arrivals.specs.AskedCompletions.{completion_asked_by}
use Rattle.store_arrivals.proofs.Waiting.{closed_if, open_if, told_open}
use Rattle.store_arrivals.proofs.asking.open_request_of.Goals as goal

pub returns-in_err-come-clause-told : goal.returns-in_err-come-clause-told
returns-in_err-come-clause-told g c clean events store =
    let id = c.args.id.now in
    let n = c.args.completion in
    told_err (λ asked. asked ≡ option_map (completion_asked_by n) (open_request (entries_of events id) n)) c.from_residual.result c.from_residual.ensures.1 (λ why gives.
    subst (IsRefused []) (sym gives) (c.in_err-come.ensures.told clean events store))

pub returns-then-come-clause-told : goal.returns-then-come-clause-told
returns-then-come-clause-told g c clean events store =
    let n = c.args.completion in
    sym (ap (option_map (completion_asked_by n)) (closed_if n (entries_of events c.args.id.now) (sym (c.in_ok-come.ensures.told clean events store) ∙ c.if-come.true)))

pub returns-clause-told : goal.returns-clause-told
returns-clause-told g c clean events store =
    let old : State = state g.S.Store c.args.tables.now in
    let mid : State = state g.S.Store c.has_come.new.tables in
    let early : HasCleanDisk mid = omega (arith, c.request_of.ensures.looks.crash.clean) in
    let n = c.args.completion in
    let stands = store_kept events old mid c.has_come.ensures.looks.crash c.has_come.ensures.looks.kept store in
    let same = open_if n (entries_of events c.args.id.now) (sym (c.in_ok-come.ensures.told early events store) ∙ c.if-come.false) in
    told_open n same c.request_of.result (c.request_of.ensures.told clean events stands)

pub returns-in_err-come-clause-cause : goal.returns-in_err-come-clause-cause
returns-in_err-come-clause-cause g c =
    cause_by (state g.S.Store c.args.tables.now) (state g.S.Store c.has_come.new.tables) _ c.from_residual.result c.from_residual.ensures.1 c.in_err-come.ensures.cause

pub returns-clause-cause : goal.returns-clause-cause
returns-clause-cause g c =
    err_later (state g.S.Store c.args.tables.now) (state g.S.Store c.has_come.new.tables) (state g.S.Store c.request_of.new.tables) _ _ c.has_come.ensures.looks.crash c.request_of.ensures.looks.crash
    c.request_of.result c.request_of.ensures.cause
