-- Both by what requests write.
use Rattle.std.proofs.Common.{◌≡◌, refl, ap, List, [], ◌∷◌, Some}
use Rattle.delivery_laws.specs.Outbox.{given_key, outbox_object, OwedRow, puts_of, row_key, row_value}
use Rattle.store_tables.specs.declared.row.Write.{Write}
use Rattle.store_tables.specs.declared.row.Write.TheVariants.{PutState}
use Rattle.store_model.specs.Writes.{state_writes}
use Rattle.store_deliveries.specs.PreparedRows.{put_writes_of_all}
use Rattle.store_deliveries.proofs.rows_are_written.Goals as goal

all_put : (rows : List OwedRow) → put_writes_of_all rows ≡ state_writes (Some outbox_object) (puts_of rows)
all_put [] = refl
all_put (row ∷ rows) =
    ap (λ (writes : List Write).
    PutState (record { object = outbox_object; key = given_key; value = row_key row.number })
    ∷ PutState (record { object = outbox_object; key = row_key row.number; value = row_value row }) ∷ writes)
    (all_put rows)

pub returns : goal.returns
returns c = record { put = all_put; dropped = λ number. refl }
