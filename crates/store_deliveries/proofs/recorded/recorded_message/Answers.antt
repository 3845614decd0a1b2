-- The row of the place is that of the message.
use Rattle.std.proofs.Common.{◌≡◌, [], sym, ap, ◌∙◌, Some, None}
use Rattle.sqlite.specs.Held.{state}
use Rattle.journal_model.specs.Journal.{Recorded}
use Rattle.store_tables.specs.declared.row.EntryRow.{EntryRow}
use Rattle.store_model.specs.KeptRecords.{entry_row}
use Rattle.store_refusals.proofs.Causes.{cause_by, err_unasked}
use Rattle.store_deliveries.specs.RecordedMessages.{message_told}
use Rattle.store_deliveries.proofs.MessageRows.{message_recorded}
use Rattle.store_deliveries.proofs.Options.{passed_on}
use Rattle.store_deliveries.proofs.Readable.{recorded_readable}
use Rattle.store_deliveries.proofs.recorded.recorded_message.Goals as goal

pub returns-in-Some-clause-told : goal.returns-in-Some-clause-told
returns-in-Some-clause-told g c clean events message store at =
    let sender = c.args.sender.now in
    let place = c.args.place in
    let it = message_recorded events store.accepted sender place message at in
    let found : Some c.in-Some.entry ≡ Some (entry_row sender [] place (Recorded it.request)) = sym c.in-Some.is ∙ c.in_ok-found.ensures.told clean events store ∙ it.row in
    let same : c.in-Some.entry ≡ entry_row sender [] place (Recorded it.request) = cc in
    c.message_in-message.ensures.told it.request message (recorded_readable events sender place it.request store.accepted store.read it.entry)
    (ap (λ (row : EntryRow). row.kind) same) (ap (λ (row : EntryRow). row.payload) same) it.is

pub returns-in-None-clause-told : goal.returns-in-None-clause-told
returns-in-None-clause-told g c clean events message store at =
    let it = message_recorded events store.accepted c.args.sender.now c.args.place message at in
    let found : None ≡ Some (entry_row c.args.sender.now [] c.args.place (Recorded it.request)) = sym c.in-None.is ∙ c.in_ok-found.ensures.told clean events store ∙ it.row in
    cc

pub returns-in_err-found-clause-told : goal.returns-in_err-found-clause-told
returns-in_err-found-clause-told g c clean events message store at =
    passed_on (λ told. message_told told ≡ message) c.in_err-found.field-0.0 c.from_residual.result c.from_residual.ensures.1 (c.in_err-found.ensures.told clean events store)

pub returns-in-Some-clause-cause : goal.returns-in-Some-clause-cause
returns-in-Some-clause-cause g c = err_unasked (state g.S.Store c.args.tables.now) (state g.S.Store c.row_at.new.tables) c.message_in-message.result c.message_in-message.ensures.unasked

pub returns-in_err-found-clause-cause : goal.returns-in_err-found-clause-cause
returns-in_err-found-clause-cause g c =
    cause_by (state g.S.Store c.args.tables.now) (state g.S.Store c.row_at.new.tables) c.in_err-found.field-0.0 c.from_residual.result c.from_residual.ensures.1 c.in_err-found.ensures.cause
