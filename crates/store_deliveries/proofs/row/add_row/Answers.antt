-- One write behind the other.
use Rattle.std.proofs.Common.{ap, ap₂, ◌∙◌, append_assoc, List, [], ◌∷◌, ◌++◌}
use Rattle.journal_model.specs.Notification.{Bytes}
use Rattle.delivery_laws.specs.Outbox.{outbox_object}
use Rattle.store_tables.specs.declared.row.Write.{Write}
use Rattle.store_tables.specs.declared.row.Write.TheVariants.{PutState}
use Rattle.store_deliveries.proofs.row.add_row.Goals as goal

abbrev put_of : Bytes → Bytes → Write
put_of key value = PutState (record { object = outbox_object; key = key; value = value })

pub returns : goal.returns
returns c =
    let old = c.args.writes.now.items in
    c.in_ok-push-2.ensures.items
    ∙ ap (λ (writes : List Write). writes ++ c.put-2.result ∷ []) c.in_ok-push.ensures.items
    ∙ append_assoc old (c.put.result ∷ []) (c.put-2.result ∷ [])
    ∙ ap₂ (λ (first second : Write). old ++ first ∷ second ∷ [])
    (c.put.ensures ∙ ap₂ put_of c.new.ensures c.in_ok-given.ensures) (c.put-2.ensures ∙ ap₂ put_of c.in_ok-key.ensures c.in_ok-value.ensures)
