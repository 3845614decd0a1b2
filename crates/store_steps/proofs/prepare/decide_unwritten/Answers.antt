-- What the row says is proved in `Taking`; a row that is not there, and a foreign one, are never met. What was answered was asked
-- of an open connection, which keeps the records.
use Rattle.std.proofs.Common.{sym, subst, arith, Option, None, Some, Err}
use Rattle.sqlite.specs.Held.{state}
use Rattle.sqlite.specs.State.{State, HasCleanDisk}
use Rattle.store_tables.specs.Questions.{IsFound, has_id}
use Rattle.store_tables.specs.declared.row.InvocationRow.{InvocationRow}
use Rattle.store_refusals.specs.Preparations.{Keeps}
use Rattle.store_refusals.specs.declared.refusal.Refusal.{Refusal}
use Rattle.journal_model.specs.declared.cause.Cause.{Cause}
use Rattle.store_refusals.specs.declared.refusal.Refusal.TheVariants as refusal
use Rattle.store_refusals.proofs.Causes.{err_later, read_cause}
use Rattle.store_invocations.proofs.Standing.{store_kept}
use Rattle.store_steps.specs.PreparedFrames.{TakesAttemptFrame}
use Rattle.store_steps.proofs.Taking.{row_of, never_missing, never_foreign, read_failed, was_asked}
use Rattle.store_steps.proofs.prepare.decide_unwritten.Goals as goal

pub returns-in-Ok-Some-clause-prepared : goal.returns-in-Ok-Some-clause-prepared
returns-in-Ok-Some-clause-prepared g c clean events store other =
    let old : State = state g.S.Store c.args.tables.now in
    let mid : State = state g.S.Store c.invocation_by_id.new.tables in
    let later : HasCleanDisk mid = omega (arith, c.other_by_row.ensures.looks.crash.clean) in
    let early : HasCleanDisk old = omega (arith, c.invocation_by_id.ensures.looks.crash.clean) in
    let keeps : Keeps events old = store.keeps early (c.in-Ok-Some.ensures.open later) in
    let found : IsFound (λ r. r.invocations) (has_id c.args.id.now) old.now.trees (Some c.in-Ok-Some.row) =
    subst (λ (o : Option InvocationRow). IsFound (λ r. r.invocations) (has_id c.args.id.now) old.now.trees o) c.in-Ok-Some.field-0-is (c.in-Ok-Some.ensures.found later) in
    c.other_by_row.ensures.prepared clean events (store_kept events old mid c.invocation_by_id.ensures.looks.crash c.invocation_by_id.ensures.looks.kept store)
    (row_of events old keeps c.args.id.now c.in-Ok-Some.row found) other

pub returns-in-Ok-Some-clause-asked : goal.returns-in-Ok-Some-clause-asked
returns-in-Ok-Some-clause-asked g c clean = was_asked c.other_by_row.result (c.in-Ok-Some.ensures.open (omega (arith, c.other_by_row.ensures.looks.crash.clean)))

pub returns-in-Ok-None-clause-prepared : goal.returns-in-Ok-None-clause-prepared
returns-in-Ok-None-clause-prepared g c clean events store other =
    let old : State = state g.S.Store c.args.tables.now in
    let early : HasCleanDisk old = omega (arith, c.invocation_by_id.ensures.looks.crash.clean) in
    let keeps : Keeps events old = store.keeps early (c.in-Ok-None.ensures.open clean) in
    let found : IsFound (λ r. r.invocations) (has_id c.args.id.now) old.now.trees None =
    subst (λ (o : Option InvocationRow). IsFound (λ r. r.invocations) (has_id c.args.id.now) old.now.trees o) c.in-Ok-None.field-0-is (c.in-Ok-None.ensures.found clean) in
    never_missing events old keeps c.args.id.now found c.args.attempt c.args.frame (Err (refusal.Cause Cause.UnknownInvocation))

pub returns-in-Err-clause-prepared : goal.returns-in-Err-clause-prepared
returns-in-Err-clause-prepared g c clean events store other =
    let old : State = state g.S.Store c.args.tables.now in
    let early : HasCleanDisk old = omega (arith, c.invocation_by_id.ensures.looks.crash.clean) in
    subst (λ (why : Refusal). TakesAttemptFrame events c.args.id.now c.args.attempt c.args.frame (Err why)) (sym c.from.ensures)
    (read_failed events c.args.id.now c.in-Err.error
    (λ is. never_foreign events old (store.keeps early (c.in-Err.ensures.open clean is)) c.args.id.now (c.in-Err.ensures.foreign clean is))
    c.args.attempt c.args.frame)

pub returns-in-Ok-Some-clause-cause : goal.returns-in-Ok-Some-clause-cause
returns-in-Ok-Some-clause-cause g c =
    err_later (state g.S.Store c.args.tables.now) (state g.S.Store c.invocation_by_id.new.tables) (state g.S.Store c.other_by_row.new.tables) _ _
    c.invocation_by_id.ensures.looks.crash c.other_by_row.ensures.looks.crash c.other_by_row.result c.other_by_row.ensures.cause

pub returns-in-Err-clause-cause : goal.returns-in-Err-clause-cause
returns-in-Err-clause-cause g c =
    read_cause (state g.S.Store c.args.tables.now) (state g.S.Store c.invocation_by_id.new.tables) c.in-Err.error c.from.result c.from.ensures c.in-Err.ensures.cause
