use Rattle.std.proofs.Common.{◌≡◌, [], sym, subst, arith, inr}
use Rattle.sqlite.specs.Held.{state}
use Rattle.sqlite.specs.State.{State, HasCleanDisk}
use Rattle.due_laws.specs.NextMoment.{IsNextMoment}
use Rattle.store_refusals.specs.RefusalConditions.{IsRefused}
use Rattle.store_invocations.proofs.Reading.{told_err}
use Rattle.store_reads.proofs.Deciding.{next_is, next_known}
use Rattle.store_refusals.proofs.Causes.{read_cause_by}
use Rattle.store_reads.proofs.next.next_moment.Goals as goal

pub returns-clause-told : goal.returns-clause-told
returns-clause-told g c clean events store =
    let old : State = state g.S.Store c.args.tables.now in
    let early : HasCleanDisk old = omega (arith, c.first_sleep.ensures.looks.crash.clean) in
    let k = store.keeps early (c.in_ok-found.ensures.open clean) in
    subst (IsNextMoment events) (sym c.moment_of.ensures) (next_is events old c.in_ok-found.found k (c.in_ok-found.ensures.found clean))

pub returns-in_err-found-clause-told : goal.returns-in_err-found-clause-told
returns-in_err-found-clause-told g c clean events store =
    let old : State = state g.S.Store c.args.tables.now in
    let early : HasCleanDisk old = omega (arith, c.first_sleep.ensures.looks.crash.clean) in
    told_err (IsNextMoment events) c.from_residual.result c.from_residual.ensures.1 (λ why gives.
    subst (IsRefused []) (sym gives) (inr (next_known events old _ (store.keeps early) (c.in_err-found.ensures.open clean) (c.in_err-found.ensures.foreign clean))))

pub returns-in_err-found-clause-cause : goal.returns-in_err-found-clause-cause
returns-in_err-found-clause-cause g c =
    read_cause_by (state g.S.Store c.args.tables.now) (state g.S.Store c.first_sleep.new.tables) _ c.from_residual.result c.from_residual.ensures.1 c.in_err-found.ensures.cause
