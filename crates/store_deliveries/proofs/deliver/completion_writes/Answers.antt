use Rattle.std.proofs.Common.{◌≡◌, subst, ℕ, Option}
use Rattle.journal_model.specs.Notification.{Text}
use Rattle.delivery_laws.specs.Delivery.{value_brought}
use Rattle.store_refusals.specs.Preparations.{TellsOrRefuses}
use Rattle.store_deliveries.specs.PreparedDeliveries.{writes_of_all}
use Rattle.store_deliveries.proofs.deliver.completion_writes.Goals as goal

pub returns-in-Ok-clause-told : goal.returns-in-Ok-clause-told
returns-in-Ok-clause-told g c clean events store =
    subst (λ (named : Option (Text × ℕ)). TellsOrRefuses (λ writes. writes.items ≡ writes_of_all events (value_brought events named c.args.brought)) c.value_writes.result)
    c.in-Ok.ensures (c.value_writes.ensures.told clean events store)
