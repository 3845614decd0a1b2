use Rattle.std.proofs.Common.{◌≡◌, ◌∙◌, sym, ap, subst, arith, option_map, []}
use Rattle.sqlite.specs.Held.{state}
use Rattle.sqlite.specs.State.{State, HasCleanDisk}
use Rattle.journal_model.specs.Journal.{entries_of, request_asking}
use Rattle.store_refusals.specs.RefusalConditions.{IsRefused}
use Rattle.store_refusals.proofs.Causes.{cause_by, err_later}
use Rattle.store_invocations.proofs.Reading.{told_err}
use Rattle.store_invocations.proofs.Standing.{store_kept}
use Rattle.store_arrivals.specs.AskedCompletions.{as_second, completion_asked_by}
use Rattle.store_arrivals.proofs.Waiting.{first_asked, second_asked}
use Rattle.store_arrivals.proofs.asking.request_of.Goals as goal

pub returns-in_err-first-clause-told : goal.returns-in_err-first-clause-told
returns-in_err-first-clause-told g c clean events store =
    let id = c.args.id.now in
    let n = c.args.completion in
    told_err (λ asked. asked ≡ option_map (completion_asked_by n) (request_asking (entries_of events id) n)) c.from_residual.result c.from_residual.ensures.1 (λ why gives.
    subst (IsRefused []) (sym gives) (c.in_err-first.ensures.told clean events store))

pub returns-in-Some-clause-told : goal.returns-in-Some-clause-told
returns-in-Some-clause-told g c clean events store =
    let id = c.args.id.now in
    let n = c.args.completion in
    first_asked n (request_asking (entries_of events id) n) c.in-Some.ty (sym c.in-Some.is ∙ c.in_ok-first.ensures.told clean events store)

pub returns-in_err-second-in-None-clause-told : goal.returns-in_err-second-in-None-clause-told
returns-in_err-second-in-None-clause-told g c clean events store =
    let old : State = state g.S.Store c.args.tables.now in
    let mid : State = state g.S.Store c.first_type.new.tables in
    let id = c.args.id.now in
    let n = c.args.completion in
    let stands = store_kept events old mid c.first_type.ensures.looks.crash c.first_type.ensures.looks.kept store in
    told_err (λ asked. asked ≡ option_map (completion_asked_by n) (request_asking (entries_of events id) n)) c.from_residual-in_err-second-in-None.result c.from_residual-in_err-second-in-None.ensures.1 (λ why gives.
    subst (IsRefused []) (sym gives) (c.in_err-second-in-None.ensures.told clean events stands))

pub returns-in_ok-second-in-None-clause-told : goal.returns-in_ok-second-in-None-clause-told
returns-in_ok-second-in-None-clause-told g c clean events store =
    let old : State = state g.S.Store c.args.tables.now in
    let mid : State = state g.S.Store c.first_type.new.tables in
    let early : HasCleanDisk mid = omega (arith, c.second_type.ensures.looks.crash.clean) in
    let id = c.args.id.now in
    let n = c.args.completion in
    let stands = store_kept events old mid c.first_type.ensures.looks.crash c.first_type.ensures.looks.kept store in
    let none = sym c.in-None.is ∙ c.in_ok-first.ensures.told early events store in
    c.asked_second.ensures ∙ ap (option_map as_second) (c.in_ok-second-in-None.ensures.told clean events stands) ∙ second_asked n (entries_of events id) none

pub returns-in_err-first-clause-cause : goal.returns-in_err-first-clause-cause
returns-in_err-first-clause-cause g c =
    cause_by (state g.S.Store c.args.tables.now) (state g.S.Store c.first_type.new.tables) _ c.from_residual.result c.from_residual.ensures.1 c.in_err-first.ensures.cause

pub returns-in_err-second-in-None-clause-cause : goal.returns-in_err-second-in-None-clause-cause
returns-in_err-second-in-None-clause-cause g c =
    err_later (state g.S.Store c.args.tables.now) (state g.S.Store c.first_type.new.tables) (state g.S.Store c.second_type.new.tables) _ _ c.first_type.ensures.looks.crash c.second_type.ensures.looks.crash _
    (cause_by (state g.S.Store c.first_type.new.tables) (state g.S.Store c.second_type.new.tables) _ c.from_residual-in_err-second-in-None.result c.from_residual-in_err-second-in-None.ensures.1 c.in_err-second-in-None.ensures.cause)
