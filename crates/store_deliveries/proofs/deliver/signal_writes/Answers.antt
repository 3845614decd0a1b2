use Rattle.std.proofs.Common.{sym, ◌∙◌}
use Rattle.journal_model.specs.Event.{Event}
use Rattle.journal_model.specs.Cause.{causes_of}
use Rattle.store_deliveries.proofs.Bringing.{not_taken, other_refused, taken}
use Rattle.store_deliveries.proofs.deliver.signal_writes.Goals as goal

pub returns-in-Ok-clause-told : goal.returns-in-Ok-clause-told
returns-in-Ok-clause-told g c clean events store =
    let made = c.in-Ok.ensures.prepared clean events store in
    taken events (Event.Signal c.args.target.now c.args.key c.args.brought) c.arrival_writes.result.items made.0 (c.arrival_writes.ensures ∙ made.1.writes)

pub returns-then-is_cause-clause-told : goal.returns-then-is_cause-clause-told
returns-then-is_cause-clause-told g c clean events store =
    c.new.ensures.items
    ∙ not_taken events (Event.Signal c.args.target.now c.args.key c.args.brought) c.in-Err.why (c.in-Err.ensures.prepared clean events store) (sym c.is_cause.ensures ∙ c.if-is_cause.true)

pub returns-else-is_cause-clause-told : goal.returns-else-is_cause-clause-told
returns-else-is_cause-clause-told g c clean events store =
    other_refused (causes_of events (Event.Signal c.args.target.now c.args.key c.args.brought)) c.in-Err.why (c.in-Err.ensures.prepared clean events store)
    (sym c.is_cause.ensures ∙ c.if-is_cause.false)
