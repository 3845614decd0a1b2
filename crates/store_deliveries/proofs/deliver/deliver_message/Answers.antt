-- What the message writes, and behind it that its row goes.
use Rattle.std.proofs.Common.{◌∙◌, sym, ap₂, ℕ, List, [], ◌∷◌, ◌++◌}
use Rattle.sqlite.specs.Held.{state}
use Rattle.store_tables.specs.declared.row.Write.{Write}
use Rattle.store_refusals.proofs.Causes.{cause_by, memory_tells}
use Rattle.store_deliveries.specs.PreparedDeliveries.{IsReady, kept_with}
use Rattle.store_deliveries.specs.PreparedRows.{drop_write}
use Rattle.store_deliveries.proofs.Bringing.{brought_so}
use Rattle.store_deliveries.proofs.Options.{memory_told, passed_on}
use Rattle.store_deliveries.proofs.deliver.deliver_message.Goals as goal

pub returns-clause-made : goal.returns-clause-made
returns-clause-made g c clean rules events outbox row reads store same at =
    brought_so rules events outbox row c.args.message at c.in_ok-all.all.items
    (c.in_ok-all.ensures ∙ ap₂ (λ (writes : List Write) (n : ℕ). writes ++ drop_write n ∷ []) (c.in_ok-writes.ensures.told clean rules events reads store) (sym same))

pub returns-in_err-writes-clause-made : goal.returns-in_err-writes-clause-made
returns-in_err-writes-clause-made g c clean rules events outbox row reads store same at =
    passed_on (IsReady rules (kept_with events outbox) row) c.in_err-writes.field-0.0 c.from_residual.result c.from_residual.ensures.1 (c.in_err-writes.ensures.told clean rules events reads store)

pub returns-in_err-all-clause-made : goal.returns-in_err-all-clause-made
returns-in_err-all-clause-made g c clean rules events outbox row reads store same at =
    memory_told (IsReady rules (kept_with events outbox) row) c.from_residual-in_err-all.result c.from_residual-in_err-all.ensures.1

pub returns-in_err-writes-clause-cause : goal.returns-in_err-writes-clause-cause
returns-in_err-writes-clause-cause g c =
    cause_by (state g.S.Store c.args.tables.now) (state g.S.Store c.message_writes.new.tables) c.in_err-writes.field-0.0 c.from_residual.result c.from_residual.ensures.1 c.in_err-writes.ensures.cause

pub returns-in_err-all-clause-cause : goal.returns-in_err-all-clause-cause
returns-in_err-all-clause-cause g c =
    memory_tells (state g.S.Store c.args.tables.now) (state g.S.Store c.message_writes.new.tables) c.from_residual-in_err-all.result c.from_residual-in_err-all.ensures.1
