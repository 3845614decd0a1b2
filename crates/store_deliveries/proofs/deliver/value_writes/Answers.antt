use Rattle.std.proofs.Common.{◌≡◌, sym, ap, subst, ◌∙◌, Option, option_map}
use Rattle.delivery_laws.specs.Delivery.{value_brought}
use Rattle.store_refusals.specs.Preparations.{TellsOrRefuses}
use Rattle.store_deliveries.specs.Awakeables.{named_told}
use Rattle.store_deliveries.specs.PreparedDeliveries.{writes_of_all}
use Rattle.store_deliveries.specs.declared.awakeable.NamedAwakeable.{NamedAwakeable}
use Rattle.store_deliveries.proofs.deliver.value_writes.Goals as goal

pub returns-in-Some-clause-told : goal.returns-in-Some-clause-told
returns-in-Some-clause-told g c clean events store =
    subst (λ (o : Option NamedAwakeable). TellsOrRefuses (λ writes. writes.items ≡ writes_of_all events (value_brought events (option_map named_told o) c.args.brought)) c.signal_writes-writes.result)
    (sym c.in-Some.is) (c.signal_writes-writes.ensures.told clean events store)

pub returns-in-None-clause-told : goal.returns-in-None-clause-told
returns-in-None-clause-told g c clean events store =
    c.new.ensures.items ∙ ap (λ (o : Option NamedAwakeable). writes_of_all events (value_brought events (option_map named_told o) c.args.brought)) (sym c.in-None.is)
