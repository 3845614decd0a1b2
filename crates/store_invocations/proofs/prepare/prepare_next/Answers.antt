use Rattle.std.proofs.Common.{◌+◌, ◌<◌, ◌^◌, refl, sym, subst, arith, inr}
use Rattle.journal_model.specs.Event.{Event}
use Rattle.journal_model.specs.Cause.{own_tests, those_that_hold}
use Rattle.store_refusals.specs.RefusalConditions.{IsRefused}
use Rattle.store_invocations.proofs.Reading.{decided_err}
use Rattle.store_invocations.specs.BegunAttempts.{IsBegun}
use Rattle.store_invocations.proofs.Next.{among, next_made, next_none, next_refused}
use Rattle.store_invocations.proofs.prepare.prepare_next.Goals as goal

pub returns-clause-decided : goal.returns-clause-decided
returns-clause-decided g c clean events id store opened =
    let room : c.args.row.progress.attempts + 1 < 2 ^ 32 = omega arith in
    let decided = c.in_ok-start.ensures.decided clean events store in (
      next_none events id c.args.now c.args.row opened.0 room decided.0,
      next_made events id c.args.now c.args.row opened.0 store.accepted opened.1 _ (c.in_ok-begun.ensures.writes (among events id c.args.now c.args.row opened.0)) (omega arith) refl decided.1 refl refl c.in_ok-begun.ensures.row,
    )

pub returns-in_err-start-clause-decided : goal.returns-in_err-start-clause-decided
returns-in_err-start-clause-decided g c clean events id store opened =
    let tests = own_tests events (Event.Begin id c.args.now) in
    let room : c.args.row.progress.attempts + 1 < 2 ^ 32 = omega arith in
    decided_err tests (IsBegun events id c.args.now) c.from_residual.result c.from_residual.ensures.1 (λ why gives.
    subst (IsRefused (those_that_hold tests)) (sym gives) (next_refused events id c.args.now c.args.row opened.0 _ room (c.in_err-start.ensures.decided clean events store)))

pub returns-in_err-begun-clause-decided : goal.returns-in_err-begun-clause-decided
returns-in_err-begun-clause-decided g c clean events id store opened =
    let tests = own_tests events (Event.Begin id c.args.now) in
    decided_err tests (IsBegun events id c.args.now) c.from_residual-in_err-begun.result c.from_residual-in_err-begun.ensures.1 (λ why gives. subst (IsRefused (those_that_hold tests)) (sym gives) (inr refl))
