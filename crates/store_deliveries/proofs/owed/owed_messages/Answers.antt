-- The rows behind that of the greatest number that was given are those of the messages.
use Rattle.std.proofs.Common.{ap, ap₂, ◌∙◌, ℕ, List, drop}
use Rattle.sqlite.specs.Held.{state}
use Rattle.store_tables.specs.declared.row.StateRow.{StateRow}
use Rattle.store_refusals.proofs.Causes.{cause_by, err_unasked}
use Rattle.store_deliveries.specs.ReadRows.{count_given}
use Rattle.store_deliveries.specs.StoredOutbox.{AreRowsOf}
use Rattle.store_deliveries.proofs.Options.{passed_on, rest_of}
use Rattle.store_deliveries.proofs.Rows.{rows_behind}
use Rattle.store_deliveries.proofs.owed.owed_messages.Goals as goal

pub returns-clause-told : goal.returns-clause-told
returns-clause-told g c clean events outbox store has =
    let told = c.in_ok-rows.ensures.told clean events outbox store has in
    c.messages_in-messages.ensures.told outbox.rows (record {
      fit = told.1;
      are = rest_of c.count_given-given.result c.as_slice-2.result.now ∙ ap₂ (λ (n : ℕ) (rows : List StateRow). drop n rows) (c.count_given-given.ensures.counted ∙ ap count_given c.as_slice.ensures.value) c.as_slice-2.ensures.value
          ∙ rows_behind outbox c.in_ok-rows.rows.items told.0;
    })

pub returns-in_err-rows-clause-told : goal.returns-in_err-rows-clause-told
returns-in_err-rows-clause-told g c clean events outbox store has =
    passed_on (λ messages. AreRowsOf outbox messages.items) c.in_err-rows.field-0.0 c.from_residual.result c.from_residual.ensures.1 (c.in_err-rows.ensures.told clean events outbox store has)

pub returns-clause-cause : goal.returns-clause-cause
returns-clause-cause g c = err_unasked (state g.S.Store c.args.tables.now) (state g.S.Store c.all_rows.new.tables) c.messages_in-messages.result c.messages_in-messages.ensures.unasked

pub returns-in_err-rows-clause-cause : goal.returns-in_err-rows-clause-cause
returns-in_err-rows-clause-cause g c =
    cause_by (state g.S.Store c.args.tables.now) (state g.S.Store c.all_rows.new.tables) c.in_err-rows.field-0.0 c.from_residual.result c.from_residual.ensures.1 c.in_err-rows.ensures.cause
