use Rattle.std.proofs.Common.{◌≡◌, sym, subst, ℕ, Option}
use Rattle.journal_model.specs.Notification.{Text}
use Rattle.delivery_laws.specs.Delivery.{value_brought}
use Rattle.store_refusals.specs.Preparations.{TellsOrRefuses}
use Rattle.store_deliveries.specs.PreparedDeliveries.{brought_by, writes_of_all}
use Rattle.store_deliveries.specs.declared.recorded.RecordedMessage.{RecordedMessage}
use Rattle.store_deliveries.proofs.deliver.message_writes.Goals as goal

pub returns-in-Tells-clause-told : goal.returns-in-Tells-clause-told
returns-in-Tells-clause-told g c clean rules events reads store =
    subst (λ (message : RecordedMessage). TellsOrRefuses (λ writes. writes.items ≡ writes_of_all events (brought_by rules events message)) c.signal_writes-writes.result)
    (sym c.in-Tells.is) (c.signal_writes-writes.ensures.told clean events store)

pub returns-in-Completes-clause-told : goal.returns-in-Completes-clause-told
returns-in-Completes-clause-told g c clean rules events reads store =
    subst (λ (message : RecordedMessage). TellsOrRefuses (λ writes. writes.items ≡ writes_of_all events (brought_by rules events message)) c.completion_writes.result)
    (sym c.in-Completes.is)
    (subst (λ (named : Option (Text × ℕ)). TellsOrRefuses (λ writes. writes.items ≡ writes_of_all events (value_brought events named c.in-Completes.brought)) c.completion_writes.result)
    (sym (reads c.in-Completes.awakeable)) (c.completion_writes.ensures.told clean events store))
