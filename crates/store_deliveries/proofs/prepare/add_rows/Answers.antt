-- The first write tells the row.
use Rattle.std.proofs.Common.{◌≡◌, refl, sym, ap, subst, ◌∙◌, Some, None}
use Rattle.sqlite.specs.Held.{state}
use Rattle.journal_model.specs.Event.{Event}
use Rattle.store_refusals.specs.RefusalConditions.{IsRefused}
use Rattle.store_refusals.proofs.Causes.{cause_by}
use Rattle.store_deliveries.specs.PreparedRows.{place_asked}
use Rattle.store_deliveries.proofs.Adding.{causes_none, causes_some, refused_rows, with_none, with_some}
use Rattle.store_deliveries.proofs.prepare.add_rows.Goals as goal

pub returns-in_ok-writes-in-Some-clause-added : goal.returns-in_ok-writes-in-Some-clause-added
returns-in_ok-writes-in-Some-clause-added g c clean events outbox number frame store has taken =
    let made = c.args.made in
    let id = c.args.id.now in
    let place = c.in-Some.place in
    let asked : place_asked made.writes.items ≡ Some place = ap place_asked (sym c.as_slice.ensures.value) ∙ sym c.place_asked.ensures ∙ c.in-Some.is in
    let decided = c.in_ok-writes-in-Some.ensures.decided clean events outbox store has in (
      causes_some events outbox id number frame made taken place asked ∙ decided.0,
      record { writes = with_some events outbox id number frame made taken place asked c.in_ok-writes-in-Some.writes.items decided.1; reply = refl; acknowledged = refl },
    )

pub returns-in-None-clause-added : goal.returns-in-None-clause-added
returns-in-None-clause-added g c clean events outbox number frame store has taken =
    let made = c.args.made in
    let id = c.args.id.now in
    let asked : place_asked made.writes.items ≡ None = ap place_asked (sym c.as_slice.ensures.value) ∙ sym c.place_asked.ensures ∙ c.in-None.is in (
      causes_none events outbox id number frame made taken asked,
      record { writes = with_none events outbox id number frame made taken asked; reply = refl; acknowledged = refl },
    )

pub returns-in_err-writes-in-Some-clause-added : goal.returns-in_err-writes-in-Some-clause-added
returns-in_err-writes-in-Some-clause-added g c clean events outbox number frame store has taken =
    let made = c.args.made in
    let id = c.args.id.now in
    let place = c.in-Some.place in
    let asked : place_asked made.writes.items ≡ Some place = ap place_asked (sym c.as_slice.ensures.value) ∙ sym c.place_asked.ensures ∙ c.in-Some.is in
    refused_rows events outbox (Event.Move id number frame) made c.in_err-writes-in-Some.field-0.0 c.from_residual.result c.from_residual.ensures.1
    (subst (λ causes. IsRefused causes c.in_err-writes-in-Some.field-0.0) (sym (causes_some events outbox id number frame made taken place asked)) (c.in_err-writes-in-Some.ensures.decided clean events outbox store has))

pub returns-in_err-writes-in-Some-clause-cause : goal.returns-in_err-writes-in-Some-clause-cause
returns-in_err-writes-in-Some-clause-cause g c =
    cause_by (state g.S.Store c.args.tables.now) (state g.S.Store c.add_row_at.new.tables) c.in_err-writes-in-Some.field-0.0 c.from_residual.result c.from_residual.ensures.1 c.in_err-writes-in-Some.ensures.cause
