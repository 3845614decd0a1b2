use Rattle.std.proofs.Common.{◌≡◌, sym, ap, ◌∙◌}
use Rattle.sqlite.specs.Held.{state}
use Rattle.store_refusals.proofs.Causes.{cause_by, err_unasked}
use Rattle.store_deliveries.specs.StoredOutbox.{row_of_key}
use Rattle.store_deliveries.proofs.Options.{passed_on}
use Rattle.store_deliveries.proofs.Rows.{given_none, given_spelled}
use Rattle.store_deliveries.proofs.owed.given_number.Goals as goal

pub returns-in-Some-clause-told : goal.returns-in-Some-clause-told
returns-in-Some-clause-told g c clean events outbox store has =
    let told = c.in_ok-found.ensures.told clean events outbox store has in
    c.number_of.ensures.told outbox.given has.is.small (given_spelled outbox c.in-Some.row (sym c.in-Some.is ∙ told.0 ∙ ap (row_of_key outbox) c.new-key.ensures))

pub returns-clause-told : goal.returns-clause-told
returns-clause-told g c clean events outbox store has =
    let told = c.in_ok-found.ensures.told clean events outbox store has in
    given_none outbox (sym c.in-None.is ∙ told.0 ∙ ap (row_of_key outbox) c.new-key.ensures)

pub returns-in_err-found-clause-told : goal.returns-in_err-found-clause-told
returns-in_err-found-clause-told g c clean events outbox store has =
    passed_on (λ n. n ≡ outbox.given) c.in_err-found.field-0.0 c.from_residual.result c.from_residual.ensures.1 (c.in_err-found.ensures.told clean events outbox store has)

pub returns-in-Some-clause-cause : goal.returns-in-Some-clause-cause
returns-in-Some-clause-cause g c = err_unasked (state g.S.Store c.args.tables.now) (state g.S.Store c.row_at.new.tables) c.number_of.result c.number_of.ensures.unasked

pub returns-in_err-found-clause-cause : goal.returns-in_err-found-clause-cause
returns-in_err-found-clause-cause g c =
    cause_by (state g.S.Store c.args.tables.now) (state g.S.Store c.row_at.new.tables) c.in_err-found.field-0.0 c.from_residual.result c.from_residual.ensures.1 c.in_err-found.ensures.cause
