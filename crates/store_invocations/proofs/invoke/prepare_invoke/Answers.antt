use Rattle.std.proofs.Common.{◌≡◌, sym, subst, arith, ◌++◌}
use Rattle.sqlite.specs.Held.{state}
use Rattle.sqlite.specs.State.{State, HasCleanDisk}
use Rattle.journal_model.specs.Event.{Event}
use Rattle.journal_model.specs.Cause.{tests_of, those_that_hold}
use Rattle.store_model.specs.Writes.{writes_of}
use Rattle.store_refusals.specs.RefusalConditions.{IsRefused}
use Rattle.store_invocations.specs.NewInvocations.{id_tests, input_tests, object_tests}
use Rattle.store_invocations.proofs.Beginning.{prepared_by}
use Rattle.store_invocations.proofs.Reading.{decided_err}
use Rattle.store_invocations.proofs.Refusing.{refused_later, refused_more}
use Rattle.store_invocations.proofs.Standing.{store_kept}
use Rattle.store_refusals.proofs.Causes.{cause_by, err_later, err_unasked}
use Rattle.store_invocations.proofs.invoke.prepare_invoke.Goals as goal

pub returns-in_err-take_object-clause-prepared : goal.returns-in_err-take_object-clause-prepared
returns-in_err-take_object-clause-prepared g c clean events store =
    let new = c.args.new.now in
    let tests = tests_of events (Event.Invoke new) in
    decided_err tests (λ writes. writes.items ≡ writes_of events (Event.Invoke new)) c.from_residual.result c.from_residual.ensures.1 (λ why gives.
    subst (IsRefused (those_that_hold tests)) (sym gives)
    (refused_more (object_tests events new) (id_tests events new ++ input_tests new) _ (c.in_err-take_object.ensures.decided clean events store)))

pub returns-in_err-version-clause-prepared : goal.returns-in_err-version-clause-prepared
returns-in_err-version-clause-prepared g c clean events store =
    let old : State = state g.S.Store c.args.tables.now in
    let mid : State = state g.S.Store c.take_object.new.tables in
    let early : HasCleanDisk mid = omega (arith, c.take_id.ensures.looks.crash.clean) in
    let new = c.args.new.now in
    let tests = tests_of events (Event.Invoke new) in
    let stands = store_kept events old mid c.take_object.ensures.looks.crash c.take_object.ensures.looks.kept store in
    decided_err tests (λ writes. writes.items ≡ writes_of events (Event.Invoke new)) c.from_residual-in_err-version.result c.from_residual-in_err-version.ensures.1 (λ why gives.
    subst (IsRefused (those_that_hold tests)) (sym gives)
    (refused_later (object_tests events new) (id_tests events new ++ input_tests new) _ (c.in_ok-take_object.ensures.decided early events store).0
    (refused_more (id_tests events new) (input_tests new) _ (c.in_err-version.ensures.decided clean events stands))))

pub returns-clause-prepared : goal.returns-clause-prepared
returns-clause-prepared g c clean events store =
    let old : State = state g.S.Store c.args.tables.now in
    let mid : State = state g.S.Store c.take_object.new.tables in
    let early : HasCleanDisk mid = omega (arith, c.take_id.ensures.looks.crash.clean) in
    let stands = store_kept events old mid c.take_object.ensures.looks.crash c.take_object.ensures.looks.kept store in
    prepared_by events c.args.new.now store.accepted (c.in_ok-take_object.ensures.decided early events store).0
    (c.in_ok-version.ensures.decided clean events stands).0 c.in_ok-version.version (c.in_ok-version.ensures.decided clean events stands).1 (λ writes. writes.items) c.writes_at_first.result c.writes_at_first.ensures.decided

pub returns-in_err-version-clause-cause : goal.returns-in_err-version-clause-cause
returns-in_err-version-clause-cause g c =
    let old : State = state g.S.Store c.args.tables.now in
    let mid : State = state g.S.Store c.take_object.new.tables in
    let new : State = state g.S.Store c.take_id.new.tables in
    err_later old mid new _ _ c.take_object.ensures.looks.crash c.take_id.ensures.looks.crash c.from_residual-in_err-version.result
    (cause_by mid new _ c.from_residual-in_err-version.result c.from_residual-in_err-version.ensures.1 c.in_err-version.ensures.cause)

pub returns-clause-cause : goal.returns-clause-cause
returns-clause-cause g c =
    err_unasked (state g.S.Store c.args.tables.now) (state g.S.Store c.take_id.new.tables) c.writes_at_first.result c.writes_at_first.ensures.unasked
