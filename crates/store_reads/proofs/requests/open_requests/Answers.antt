use Rattle.std.proofs.Common.{◌≡◌, refl, ◌∙◌, sym, ap, subst, inr, List}
use Rattle.journal_model.specs.Cause.{those_that_hold}
use Rattle.store_tables.specs.declared.row.EntryRow.{EntryRow}
use Rattle.store_refusals.specs.RefusalConditions.{IsRefused}
use Rattle.store_invocations.specs.Rows.{known_tests}
use Rattle.store_invocations.proofs.Reading.{decided_err}
use Rattle.store_reads.specs.OpenRequests.{is_answered, open_requests, rows_told}
use Rattle.store_reads.proofs.OpenRequests.{requests_are}
use Rattle.store_reads.proofs.requests.open_requests.Goals as goal

pub returns-clause-told : goal.returns-clause-told
returns-clause-told g c clean events store =
    let found = c.in_ok-found.ensures.told clean events store in (
      found.0,
      c.in_ok-requests.ensures ∙ ap (λ (all : List EntryRow). rows_told (is_answered all) all) c.as_slice.ensures.value
          ∙ requests_are events c.args.id.now c.in-Some.rows.items (rw c.in-Some.is at found.1),
    )

pub returns-in_err-found-clause-told : goal.returns-in_err-found-clause-told
returns-in_err-found-clause-told g c clean events store =
    decided_err (known_tests events c.args.id.now) (λ requests. requests.items ≡ open_requests events c.args.id.now) c.from_residual.result c.from_residual.ensures.1 (λ why gives.
    subst (IsRefused (those_that_hold (known_tests events c.args.id.now))) (sym gives) (c.in_err-found.ensures.told clean events store))

pub returns-in_err-requests-clause-told : goal.returns-in_err-requests-clause-told
returns-in_err-requests-clause-told g c clean events store =
    decided_err (known_tests events c.args.id.now) (λ requests. requests.items ≡ open_requests events c.args.id.now) c.from_residual-in_err-requests.result c.from_residual-in_err-requests.ensures.1 (λ why gives.
    subst (IsRefused (those_that_hold (known_tests events c.args.id.now))) (sym gives) (inr refl))
