-- The row under the key of a number is that of its message.
use Rattle.std.proofs.Common.{arith, ◌≡◌, sym, ap, ◌∙◌, option_map}
use Rattle.sqlite.specs.Held.{state}
use Rattle.delivery_laws.specs.Outbox.{has_number}
use Rattle.store_refusals.proofs.Causes.{cause_by, memory_tells, unasked_tells}
use Rattle.store_deliveries.specs.StoredOutbox.{FitsRow, row_of_key, row_of_number, row_told}
use Rattle.store_deliveries.proofs.Options.{all_of_found, memory_told, passed_on}
use Rattle.store_deliveries.proofs.Rows.{no_row, row_is, told_so}
use Rattle.store_deliveries.proofs.owed.owed_message.Goals as goal

pub returns-in-Ok-clause-told : goal.returns-in-Ok-clause-told
returns-in-Ok-clause-told g c clean events outbox store has =
    let number = c.args.number in
    let told = c.in_ok-found.ensures.told clean events outbox store has in
    let it = row_is outbox number has.is.ascend has.is.small (omega (arith, c.ranges.number)) c.in-Some.row (sym c.in-Some.is ∙ told.0 ∙ ap (row_of_key outbox) c.in_ok-key.ensures) in
    told_so outbox number it.0 c.in-Ok.message it.1 (c.in-Ok.ensures.told it.0 (all_of_found FitsRow (has_number number) outbox.rows it.0 told.1 it.1) it.2)

pub returns-in-Some-clause-told : goal.returns-in-Some-clause-told
returns-in-Some-clause-told g c clean events outbox store has =
    let number = c.args.number in
    let told = c.in_ok-found.ensures.told clean events outbox store has in
    let it = row_is outbox number has.is.ascend has.is.small (omega (arith, c.ranges.number)) c.in-Some.row (sym c.in-Some.is ∙ told.0 ∙ ap (row_of_key outbox) c.in_ok-key.ensures) in
    c.in-Err.ensures.told it.0 (all_of_found FitsRow (has_number number) outbox.rows it.0 told.1 it.1) it.2

pub returns-clause-told : goal.returns-clause-told
returns-clause-told g c clean events outbox store has =
    let told = c.in_ok-found.ensures.told clean events outbox store has in
    no_row outbox c.args.number has.is.ascend has.is.small (omega (arith, c.ranges.number)) (sym c.in-None.is ∙ told.0 ∙ ap (row_of_key outbox) c.in_ok-key.ensures)

pub returns-in_err-key-clause-told : goal.returns-in_err-key-clause-told
returns-in_err-key-clause-told g c clean events outbox store has =
    memory_told (λ message. option_map row_told message ≡ row_of_number outbox c.args.number) c.from_residual.result c.from_residual.ensures.1

pub returns-in_err-found-clause-told : goal.returns-in_err-found-clause-told
returns-in_err-found-clause-told g c clean events outbox store has =
    passed_on (λ message. option_map row_told message ≡ row_of_number outbox c.args.number) c.in_err-found.field-0.0 c.from_residual-in_err-found.result c.from_residual-in_err-found.ensures.1
    (c.in_err-found.ensures.told clean events outbox store has)

pub returns-in-Some-clause-cause : goal.returns-in-Some-clause-cause
returns-in-Some-clause-cause g c = unasked_tells (state g.S.Store c.args.tables.now) (state g.S.Store c.row_at.new.tables) c.in-Err.why c.in-Err.ensures.unasked

pub returns-in_err-key-clause-cause : goal.returns-in_err-key-clause-cause
returns-in_err-key-clause-cause g c = memory_tells (state g.S.Store c.args.tables.now) (state g.S.Store c.args.tables.now) c.from_residual.result c.from_residual.ensures.1

pub returns-in_err-found-clause-cause : goal.returns-in_err-found-clause-cause
returns-in_err-found-clause-cause g c =
    cause_by (state g.S.Store c.args.tables.now) (state g.S.Store c.row_at.new.tables) c.in_err-found.field-0.0 c.from_residual-in_err-found.result c.from_residual-in_err-found.ensures.1 c.in_err-found.ensures.cause
