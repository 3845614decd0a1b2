use Rattle.std.proofs.Common.{◌≡◌, ◌∙◌, sym, ap, subst, arith, inr, IsTrue, option_and_then, option_map}
use Rattle.sqlite.specs.Held.{state}
use Rattle.sqlite.specs.State.{State, HasCleanDisk}
use Rattle.journal_model.specs.Journal.{entries_of, request_asking}
use Rattle.store_tables.specs.declared.row.EntryRow.{EntryRow}
use Rattle.store_tables.specs.Questions.{asks_second_for}
use Rattle.store_model.specs.Lookups.{asked_at, second_row}
use Rattle.store_model.proofs.Asking.{asked_found}
use Rattle.store_model.proofs.Only.{only_one}
use Rattle.store_refusals.specs.RefusalConditions.{is_circumstance}
use Rattle.store_refusals.proofs.Causes.{read_cause_by}
use Rattle.store_invocations.proofs.Reading.{asked_once, found_is, told_err}
use Rattle.store_arrivals.specs.AskedCompletions.{second_type}
use Rattle.store_arrivals.proofs.Waiting.{type_second}
use Rattle.store_arrivals.proofs.asking.second_type.Goals as goal

pub returns-clause-told : goal.returns-clause-told
returns-clause-told g c clean events store =
    let old : State = state g.S.Store c.args.tables.now in
    let early : HasCleanDisk old = omega (arith, c.entry_by_second_completion.ensures.looks.crash.clean) in
    let id = c.args.id.now in
    let n = c.args.completion in
    let k = store.keeps early (c.in_ok-row.ensures.open clean) in
    let asked = asked_at 1 (entries_of events id) n in
    let found = found_is events old (λ r. r.entries) (asks_second_for id n) (option_and_then (second_row id n) asked) c.in_ok-row.row k
    (λ r accepted kept. (asked_found events r id n accepted kept).1) (c.in_ok-row.ensures.found clean) in
    c.type_of-ty.ensures ∙ ap (option_map (λ (e : EntryRow). e.kind)) found ∙ type_second id n asked
    ∙ ap (option_and_then (second_type n)) (asked_found events k.records id n k.accepted k.kept).2

pub returns-in_err-row-clause-told : goal.returns-in_err-row-clause-told
returns-in_err-row-clause-told g c clean events store =
    let old : State = state g.S.Store c.args.tables.now in
    let early : HasCleanDisk old = omega (arith, c.entry_by_second_completion.ensures.looks.crash.clean) in
    let id = c.args.id.now in
    let n = c.args.completion in
    told_err (λ ty. ty ≡ option_and_then (second_type n) (request_asking (entries_of events id) n)) c.from_residual.result c.from_residual.ensures.1 (λ why gives.
    inr (subst (λ w. IsTrue (is_circumstance w)) (sym gives)
    (asked_once events old (λ r. r.entries) (asks_second_for id n) _ (c.in_err-row.ensures.open clean) (c.in_err-row.ensures.foreign clean) (store.keeps early)
    (λ r accepted kept. only_one (asks_second_for id n) r.entries _ (asked_found events r id n accepted kept).1))))

pub returns-in_err-row-clause-cause : goal.returns-in_err-row-clause-cause
returns-in_err-row-clause-cause g c =
    read_cause_by (state g.S.Store c.args.tables.now) (state g.S.Store c.entry_by_second_completion.new.tables) _ c.from_residual.result c.from_residual.ensures.1 c.in_err-row.ensures.cause
