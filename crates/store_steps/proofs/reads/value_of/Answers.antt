-- One value at most is kept of a key, and it is the one by the events.
use Rattle.std.proofs.Common.{◌≡◌, sym, subst, arith, inr, Option, IsTrue}
use Rattle.sqlite.specs.Held.{state}
use Rattle.sqlite.specs.State.{State, HasCleanDisk}
use Rattle.journal_model.specs.Delivery.{value_or_void}
use Rattle.journal_model.specs.Journal.{object_state}
use Rattle.journal_model.specs.State.{value_of_key}
use Rattle.store_tables.specs.Records.{is_at_key}
use Rattle.store_tables.specs.Questions.{IsFound}
use Rattle.store_tables.specs.declared.row.StateRow.{StateRow}
use Rattle.store_invocations.proofs.Reading.{asked_once, once_of, told_err}
use Rattle.store_refusals.specs.RefusalConditions.{is_circumstance}
use Rattle.store_refusals.proofs.Causes.{read_cause_by}
use Rattle.store_steps.proofs.Values.{none_found, row_at_key, value_found, value_kept}
use Rattle.store_steps.proofs.reads.value_of.Goals as goal

pub returns-in-Some-clause-told : goal.returns-in-Some-clause-told
returns-in-Some-clause-told g c clean events store =
    let old : State = state g.S.Store c.args.tables.now in
    let early : HasCleanDisk old = omega (arith, c.state_at.ensures.looks.crash.clean) in
    let object = c.args.object.now in
    let key = c.args.key.now in
    value_found events old (store.keeps early (c.in_ok-found.ensures.open clean)) object key
    c.in-Some.field-0
    (subst (λ (o : Option StateRow). IsFound (λ r. r.states) (is_at_key object key) old.now.trees o) c.in-Some.is (c.in_ok-found.ensures.found clean))

pub returns-in-None-clause-told : goal.returns-in-None-clause-told
returns-in-None-clause-told g c clean events store =
    let old : State = state g.S.Store c.args.tables.now in
    let early : HasCleanDisk old = omega (arith, c.state_at.ensures.looks.crash.clean) in
    let object = c.args.object.now in
    let key = c.args.key.now in
    none_found events old (store.keeps early (c.in_ok-found.ensures.open clean)) object key
    (subst (λ (o : Option StateRow). IsFound (λ r. r.states) (is_at_key object key) old.now.trees o) c.in-None.is (c.in_ok-found.ensures.found clean))

pub returns-in_err-found-clause-told : goal.returns-in_err-found-clause-told
returns-in_err-found-clause-told g c clean events store =
    let old : State = state g.S.Store c.args.tables.now in
    let early : HasCleanDisk old = omega (arith, c.state_at.ensures.looks.crash.clean) in
    let object = c.args.object.now in
    let key = c.args.key.now in
    told_err (λ value. value ≡ value_or_void (value_of_key (object_state events object) key)) c.from_residual.result c.from_residual.ensures.1 (λ why gives.
    inr (subst (λ w. IsTrue (is_circumstance w)) (sym gives)
    (asked_once events old (λ r. r.states) (is_at_key object key) _ (c.in_err-found.ensures.open clean) (c.in_err-found.ensures.foreign clean) (store.keeps early)
    (once_of events (λ r. r.states) (is_at_key object key) (row_at_key events object key) (value_kept events object key)))))

pub returns-in_err-found-clause-cause : goal.returns-in_err-found-clause-cause
returns-in_err-found-clause-cause g c =
    read_cause_by (state g.S.Store c.args.tables.now) (state g.S.Store c.state_at.new.tables) c.in_err-found.field-0.0 c.from_residual.result c.from_residual.ensures.1 c.in_err-found.ensures.cause
