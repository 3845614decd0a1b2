use Rattle.std.proofs.Common.{◌≡◌, ◌∙◌, ap, subst, length, List}
use Rattle.sqlite.specs.Held.{state}
use Rattle.journal_model.specs.Notification.{Arrival}
use Rattle.store_tables.specs.declared.row.InvocationRow.{InvocationRow}
use Rattle.store_refusals.proofs.Causes.{err_unasked}
use Rattle.store_invocations.specs.Rows.{Decides}
use Rattle.store_invocations.proofs.Refusing.{refused_anyway}
use Rattle.store_arrivals.specs.PreparedTicks.{AreEndsOf, room_tests}
use Rattle.store_arrivals.specs.ArrivalRows.{ends_of, row_then}
use Rattle.store_arrivals.proofs.tick.end_open.Goals as goal

pub returns-in-Ok-woken-clause-decided : goal.returns-in-Ok-woken-clause-decided
returns-in-Ok-woken-clause-decided g c clean events id store of =
    let ns = c.args.completions.now in
    let same : c.in-Ok-woken.row ≡ row_then events id (ends_of ns) c.args.row =
    c.in-Ok-woken.ensures.told clean events id store of ∙ ap (λ (new : List Arrival). row_then events id new c.args.row) (c.as_slice.ensures.value ∙ c.in-Ok.ensures) in
    subst (λ (row : InvocationRow). Decides (room_tests row.progress.entries (length ns)) (λ done. AreEndsOf row ns c.args.writes.now.items c.end_sleeps.new.writes.items) c.end_sleeps.result) same
    c.end_sleeps.ensures.decided

pub returns-in-Err-clause-decided : goal.returns-in-Err-clause-decided
returns-in-Err-clause-decided g c clean events id store of =
    refused_anyway (room_tests c.args.row.progress.entries (length c.args.completions.now)) c.in-Err.why (c.in-Err.ensures.told clean events id store of)

pub returns-in-Ok-woken-clause-cause : goal.returns-in-Ok-woken-clause-cause
returns-in-Ok-woken-clause-cause g c =
    err_unasked (state g.S.Store c.args.tables.now) (state g.S.Store c.woken_row-woken.new.tables) c.end_sleeps.result c.end_sleeps.ensures.unasked
