-- The row of the place is that of the message of the place.
use Rattle.std.proofs.Common.{arith, ◌<◌, sym, ap, subst, ◌∙◌, [], length, get_or, map}
use Rattle.delivery_laws.specs.Outbox.{OwedRow}
use Rattle.store_tables.specs.declared.row.StateRow.{StateRow}
use Rattle.store_deliveries.specs.StoredOutbox.{IsKeptAs, row_told}
use Rattle.store_deliveries.proofs.Rows.{kept_at, same_length, step_messages}
use Rattle.store_deliveries.proofs.owed.messages_in.Goals as goal

abbrev nobody : OwedRow
nobody = record { number = 0; sender = []; place = 0 }

pub returns-in-Err-clause-told : goal.returns-in-Err-clause-told
returns-in-Err-clause-told c owed are =
    let i = c.loop-row.row-index in
    let at = kept_at owed c.args.rows.now i nobody c.row-item.result are c.loop-row-test.true in
    c.in-Err.ensures.told (get_or owed i nobody) at.0 (subst (λ (row : StateRow). IsKeptAs (get_or owed i nobody) row) (sym c.row-item.is) at.1)

pub loop-row-preserved : goal.loop-row-preserved
loop-row-preserved c owed are =
    let i = c.loop-row.row-index in
    let m = c.in-Ok.message in
    let at = kept_at owed c.args.rows.now i (row_told m) c.row-item.result are c.loop-row-test.true in
    let same = c.in-Ok.ensures.told (get_or owed i (row_told m)) at.0 (subst (λ (row : StateRow). IsKeptAs (get_or owed i (row_told m)) row) (sym c.row-item.is) at.1) in
    let within : i < length owed = omega (arith, same_length owed c.args.rows.now are, c.loop-row-test.true) in
    ap (map row_told) c.in_ok-push-in-Ok.ensures.items ∙ step_messages c.loop-row.messages.items owed i m (c.loop-row.invariant owed are) within same
