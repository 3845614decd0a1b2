use Rattle.std.proofs.Common.{◌≡◌, ◌∙◌, ap, subst, List, [], ◌∷◌}
use Rattle.sqlite.specs.Held.{state}
use Rattle.journal_model.specs.Notification.{Arrival}
use Rattle.store_tables.specs.declared.row.InvocationRow.{InvocationRow}
use Rattle.store_refusals.proofs.Causes.{err_unasked}
use Rattle.store_invocations.specs.Rows.{Decides}
use Rattle.store_invocations.proofs.Refusing.{refused_anyway}
use Rattle.store_arrivals.specs.Arrivals.{IsArrival, arrival_tests}
use Rattle.store_arrivals.specs.ArrivalRows.{row_then}
use Rattle.store_arrivals.proofs.woken.prepare_woken.Goals as goal

pub returns-in-Ok-clause-decided : goal.returns-in-Ok-clause-decided
returns-in-Ok-clause-decided g c clean events id store of =
    let arrival = c.args.arrival in
    let same : c.in-Ok.row ≡ row_then events id (arrival ∷ []) c.args.row =
    c.in-Ok.ensures.told clean events id store of ∙ ap (λ (new : List Arrival). row_then events id new c.args.row) c.from_ref.ensures.value in
    subst (λ (row : InvocationRow). Decides (arrival_tests row arrival) (IsArrival row c.args.ty arrival) c.prepare_arrival.result) same c.prepare_arrival.ensures.decided

pub returns-in-Err-clause-decided : goal.returns-in-Err-clause-decided
returns-in-Err-clause-decided g c clean events id store of =
    refused_anyway (arrival_tests c.args.row c.args.arrival) c.in-Err.why (c.in-Err.ensures.told clean events id store of)

pub returns-in-Ok-clause-cause : goal.returns-in-Ok-clause-cause
returns-in-Ok-clause-cause g c =
    err_unasked (state g.S.Store c.args.tables.now) (state g.S.Store c.woken_row.new.tables) c.prepare_arrival.result c.prepare_arrival.ensures.unasked
