use Rattle.std.proofs.Common.{◌≡◌, ◌∙◌, sym, subst, Result, IfErr}
use Rattle.sqlite.specs.Held.{state}
use Rattle.journal_model.specs.declared.notification.NotificationId.TheVariants.{CompletionId}
use Rattle.journal_model.specs.Journal.{entries_of, open_request}
use Rattle.journal_model.specs.Attempt.{notification_type}
use Rattle.journal_model.specs.Cause.{those_that_hold}
use Rattle.protocol_types.specs.MessageType.{type_number}
use Rattle.protocol_types.specs.declared.message_type.MessageType.{MessageType}
use Rattle.store_refusals.specs.RefusalConditions.{IsRefused}
use Rattle.store_refusals.specs.declared.refusal.Refusal.{Refusal}
use Rattle.store_refusals.specs.Causes.{IsUnasked}
use Rattle.store_refusals.proofs.Causes.{cause_by, err_unasked}
use Rattle.store_invocations.specs.Rows.{Decides}
use Rattle.store_invocations.proofs.Reading.{decided_err}
use Rattle.store_invocations.proofs.Refusing.{refused_anyway}
use Rattle.store_arrivals.specs.AskedCompletions.{completion_tests, completion_for}
use Rattle.store_arrivals.proofs.Completing.{given, not_open}
use Rattle.store_arrivals.proofs.Unasked.{type_unasked}
use Rattle.store_arrivals.proofs.result.type_of_result.Goals as goal

pub returns-in_err-open-clause-decided : goal.returns-in_err-open-clause-decided
returns-in_err-open-clause-decided g c clean events store =
    let id = c.args.id.now in
    let n = c.args.completion in
    let tests = completion_tests events id n c.args.brought.now in
    decided_err tests (λ ty. ty ≡ notification_type (entries_of events id) (CompletionId n)) c.from_residual.result c.from_residual.ensures.1 (λ why gives.
    subst (IsRefused (those_that_hold tests)) (sym gives) (refused_anyway tests _ (c.in_err-open.ensures.told clean events store)))

pub returns-in-None-clause-decided : goal.returns-in-None-clause-decided
returns-in-None-clause-decided g c clean events store =
    let n = c.args.completion in
    not_open n c.args.brought.now (open_request (entries_of events c.args.id.now) n) (sym c.in-None.is ∙ c.in_ok-open.ensures.told clean events store)

pub returns-in-Some-clause-decided : goal.returns-in-Some-clause-decided
returns-in-Some-clause-decided g c clean events store =
    let n = c.args.completion in
    subst (λ r. Decides (completion_tests events c.args.id.now n c.args.brought.now) (λ ty. ty ≡ notification_type (entries_of events c.args.id.now) (CompletionId n)) r)
    (sym c.type_given.ensures)
    (given (entries_of events c.args.id.now) n c.args.brought.now c.in-Some.asked (sym c.in-Some.is ∙ c.in_ok-open.ensures.told clean events store))

pub returns-in_err-open-clause-cause : goal.returns-in_err-open-clause-cause
returns-in_err-open-clause-cause g c =
    cause_by (state g.S.Store c.args.tables.now) (state g.S.Store c.open_request_of.new.tables) _ c.from_residual.result c.from_residual.ensures.1 c.in_err-open.ensures.cause

pub returns-in-Some-clause-cause : goal.returns-in-Some-clause-cause
returns-in-Some-clause-cause g c =
    err_unasked (state g.S.Store c.args.tables.now) (state g.S.Store c.open_request_of.new.tables) c.type_given.result
    (subst (λ (r : Result MessageType Refusal). IfErr r IsUnasked) (sym c.type_given.ensures) (type_unasked (completion_for c.in-Some.asked) c.args.brought.now))
