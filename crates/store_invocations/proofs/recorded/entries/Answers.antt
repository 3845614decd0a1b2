use Rattle.std.proofs.Common.{◌≡◌, refl, ◌∙◌, sym, ap, subst, inr, map, filter, List}
use Rattle.journal_model.specs.Cause.{those_that_hold}
use Rattle.store_tables.specs.declared.row.EntryRow.{EntryRow}
use Rattle.store_refusals.specs.RefusalConditions.{IsRefused}
use Rattle.store_invocations.specs.Rows.{known_tests}
use Rattle.store_invocations.proofs.Reading.{decided_err}
use Rattle.store_invocations.specs.JournalContent.{entries_told, entry_read, is_entry}
use Rattle.store_invocations.proofs.Rows.{entries_read}
use Rattle.store_invocations.proofs.recorded.entries.Goals as goal

pub returns-clause-told : goal.returns-clause-told
returns-clause-told g c clean events store =
    let rows = c.in_ok-rows.ensures.told clean events store in (
      rows.0,
      c.in_ok-entries.ensures ∙ ap (λ (all : List EntryRow). map entry_read (filter is_entry all)) (c.as_slice.ensures.value ∙ rows.1) ∙ entries_read events c.args.id.now store.accepted,
    )

pub returns-in_err-rows-clause-told : goal.returns-in_err-rows-clause-told
returns-in_err-rows-clause-told g c clean events store =
    decided_err (known_tests events c.args.id.now) (λ entries. entries.items ≡ entries_told events c.args.id.now) c.from_residual.result c.from_residual.ensures.1 (λ why gives.
    subst (IsRefused (those_that_hold (known_tests events c.args.id.now))) (sym gives) (c.in_err-rows.ensures.told clean events store))

pub returns-in_err-entries-clause-told : goal.returns-in_err-entries-clause-told
returns-in_err-entries-clause-told g c clean events store =
    decided_err (known_tests events c.args.id.now) (λ entries. entries.items ≡ entries_told events c.args.id.now) c.from_residual-in_err-entries.result c.from_residual-in_err-entries.ensures.1 (λ why gives.
    subst (IsRefused (those_that_hold (known_tests events c.args.id.now))) (sym gives) (inr refl))
