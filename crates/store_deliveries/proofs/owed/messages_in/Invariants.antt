-- The messages so far are those of the rows so far.
use Rattle.std.proofs.Common.{◌≡◌, List, map, take}
use Rattle.delivery_laws.specs.Outbox.{OwedRow}
use Rattle.store_deliveries.specs.ReadRows.{AreKeptAs}
use Rattle.store_deliveries.specs.StoredOutbox.{row_told}
use Rattle.store_deliveries.proofs.owed.messages_in.Given as goal

abbrev pub invariant-loop-row : goal.invariant-loop-row
invariant-loop-row l = (owed : List OwedRow) → AreKeptAs owed l.rows → map row_told l.messages.items ≡ take l.row-index owed
