use Rattle.std.proofs.Common.{◌≡◌, ◌∙◌, sym, ap, subst, arith, inr, IsTrue, not, is_some}
use Rattle.sqlite.specs.Held.{state}
use Rattle.sqlite.specs.State.{State, HasCleanDisk}
use Rattle.journal_model.specs.Journal.{entries_of, is_awaited}
use Rattle.store_tables.specs.Questions.{answers}
use Rattle.store_model.proofs.Answering.{answer_found}
use Rattle.store_refusals.specs.RefusalConditions.{is_circumstance}
use Rattle.store_refusals.proofs.Causes.{read_cause_by}
use Rattle.store_invocations.proofs.Reading.{asked_once, told_err}
use Rattle.store_arrivals.proofs.asking.has_come.Goals as goal

pub returns-clause-told : goal.returns-clause-told
returns-clause-told g c clean events store =
    let old : State = state g.S.Store c.args.tables.now in
    let early : HasCleanDisk old = omega (arith, c.entry_by_answered.ensures.looks.crash.clean) in
    let k = store.keeps early (c.in_ok-row.ensures.open clean) in
    c.is_some-come.ensures ∙ ap (λ o. is_some o) (c.in_ok-row.ensures.found clean k.records k.held)
    ∙ (answer_found events k.records c.args.id.now c.args.completion k.accepted k.kept).0

pub returns-in_err-row-clause-told : goal.returns-in_err-row-clause-told
returns-in_err-row-clause-told g c clean events store =
    let old : State = state g.S.Store c.args.tables.now in
    let early : HasCleanDisk old = omega (arith, c.entry_by_answered.ensures.looks.crash.clean) in
    told_err (λ come. come ≡ not (is_awaited (entries_of events c.args.id.now) c.args.completion)) c.from_residual.result c.from_residual.ensures.1 (λ why gives.
    inr (subst (λ w. IsTrue (is_circumstance w)) (sym gives)
    (asked_once events old (λ r. r.entries) (answers c.args.id.now c.args.completion) _ (c.in_err-row.ensures.open clean) (c.in_err-row.ensures.foreign clean) (store.keeps early)
    (λ r accepted kept. (answer_found events r c.args.id.now c.args.completion accepted kept).1))))

pub returns-in_err-row-clause-cause : goal.returns-in_err-row-clause-cause
returns-in_err-row-clause-cause g c =
    read_cause_by (state g.S.Store c.args.tables.now) (state g.S.Store c.entry_by_answered.new.tables) _ c.from_residual.result c.from_residual.ensures.1 c.in_err-row.ensures.cause
