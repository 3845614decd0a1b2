-- The row of the number is that of a message that is recorded; or there is none.
use Rattle.std.proofs.Common.{◌≡◌, arith, sym, ap, ◌∙◌, Some, option_map}
use Rattle.sqlite.specs.Held.{state}
use Rattle.sqlite.specs.State.{State, HasCleanDisk}
use Rattle.delivery_laws.specs.Message.{message_at}
use Rattle.delivery_laws.specs.Outbox.{has_number, OwedRow}
use Rattle.store_refusals.proofs.Causes.{cause_by, err_later, tells_later}
use Rattle.store_invocations.proofs.Standing.{store_kept, survives_on}
use Rattle.store_deliveries.specs.PreparedDeliveries.{kept_with}
use Rattle.store_deliveries.specs.StoredOutbox.{IsRecorded, row_of_number, row_told}
use Rattle.store_deliveries.proofs.Bringing.{delivered_so, refused_so, settled_so, some_message}
use Rattle.store_deliveries.proofs.Options.{all_of_found}
use Rattle.store_deliveries.proofs.Rows.{its_number}
use Rattle.store_deliveries.proofs.deliver.prepare_delivery.Goals as goal

pub returns-in_ok-message-in-Some-clause-prepared : goal.returns-in_ok-message-in-Some-clause-prepared
returns-in_ok-message-in-Some-clause-prepared g c clean rules events outbox reads store has =
    let old : State = state g.S.Store c.args.tables.now in
    let mid : State = state g.S.Store c.owed_message.new.tables in
    let late : State = state g.S.Store c.recorded_message-message.new.tables in
    let later : HasCleanDisk late = omega (arith, c.deliver_message.ensures.looks.crash.clean, clean) in
    let early : HasCleanDisk mid = omega (arith, c.recorded_message-message.ensures.looks.crash.clean, later) in
    let number = c.args.number in
    let row : OwedRow = row_told c.in-Some.owed in
    let found : Some row ≡ row_of_number outbox number = ap (option_map row_told) (sym c.in-Some.is) ∙ c.in_ok-found.ensures.told early events outbox store has in
    let message = some_message (message_at events row.sender row.place) (all_of_found (IsRecorded events) (has_number number) outbox.rows row has.is.recorded (sym found)) in
    let between = store_kept events old mid c.owed_message.ensures.looks.crash c.owed_message.ensures.looks.kept store in
    let last = store_kept events mid late c.recorded_message-message.ensures.looks.crash c.recorded_message-message.ensures.looks.kept between in
    let told = c.in_ok-message-in-Some.ensures.told later events message.0 between message.1 in
    delivered_so rules (kept_with events outbox) number row c.deliver_message.result found
    (c.deliver_message.ensures.made clean rules events outbox row reads last (its_number number outbox.rows row (sym found)) (message.1 ∙ ap Some (sym told)))

pub returns-in-None-clause-prepared : goal.returns-in-None-clause-prepared
returns-in-None-clause-prepared g c clean rules events outbox reads store has =
    settled_so rules (kept_with events outbox) c.args.number (ap (option_map row_told) (sym c.in-None.is) ∙ c.in_ok-found.ensures.told clean events outbox store has)

pub returns-in_err-found-clause-prepared : goal.returns-in_err-found-clause-prepared
returns-in_err-found-clause-prepared g c clean rules events outbox reads store has =
    refused_so rules (kept_with events outbox) c.args.number c.in_err-found.field-0.0 c.from_residual.result c.from_residual.ensures.1 (c.in_err-found.ensures.told clean events outbox store has)

pub returns-in_err-message-in-Some-clause-prepared : goal.returns-in_err-message-in-Some-clause-prepared
returns-in_err-message-in-Some-clause-prepared g c clean rules events outbox reads store has =
    let old : State = state g.S.Store c.args.tables.now in
    let mid : State = state g.S.Store c.owed_message.new.tables in
    let early : HasCleanDisk mid = omega (arith, c.recorded_message-message.ensures.looks.crash.clean, clean) in
    let number = c.args.number in
    let row : OwedRow = row_told c.in-Some.owed in
    let found : Some row ≡ row_of_number outbox number = ap (option_map row_told) (sym c.in-Some.is) ∙ c.in_ok-found.ensures.told early events outbox store has in
    let message = some_message (message_at events row.sender row.place) (all_of_found (IsRecorded events) (has_number number) outbox.rows row has.is.recorded (sym found)) in
    let between = store_kept events old mid c.owed_message.ensures.looks.crash c.owed_message.ensures.looks.kept store in
    refused_so rules (kept_with events outbox) number c.in_err-message-in-Some.field-0.0 c.from_residual-in_err-message-in-Some.result c.from_residual-in_err-message-in-Some.ensures.1
    (c.in_err-message-in-Some.ensures.told clean events message.0 between message.1)

pub returns-in_ok-message-in-Some-clause-cause : goal.returns-in_ok-message-in-Some-clause-cause
returns-in_ok-message-in-Some-clause-cause g c =
    let old : State = state g.S.Store c.args.tables.now in
    let mid : State = state g.S.Store c.owed_message.new.tables in
    let late : State = state g.S.Store c.recorded_message-message.new.tables in
    err_later old late (state g.S.Store c.deliver_message.new.tables) _ _
    (survives_on old mid late c.owed_message.ensures.looks.crash c.recorded_message-message.ensures.looks.crash) c.deliver_message.ensures.looks.crash
    c.deliver_message.result c.deliver_message.ensures.cause

pub returns-in_err-message-in-Some-clause-cause : goal.returns-in_err-message-in-Some-clause-cause
returns-in_err-message-in-Some-clause-cause g c =
    let old : State = state g.S.Store c.args.tables.now in
    let mid : State = state g.S.Store c.owed_message.new.tables in
    let late : State = state g.S.Store c.recorded_message-message.new.tables in
    cause_by old late c.in_err-message-in-Some.field-0.0 c.from_residual-in_err-message-in-Some.result c.from_residual-in_err-message-in-Some.ensures.1
    (tells_later old mid late _ _ c.owed_message.ensures.looks.crash c.recorded_message-message.ensures.looks.crash c.in_err-message-in-Some.field-0.0 c.in_err-message-in-Some.ensures.cause)
