-- What is written of the text is what is left of it behind the text of the rest.
use Rattle.std.proofs.Common.{◌≡◌, ◌≤◌, ◌++◌, drop, length}
use Rattle.delivery_laws.specs.Outbox.{hex_text}
use Rattle.store_deliveries.proofs.row.hex_text.Given as goal

abbrev pub invariant-loop-at : goal.invariant-loop-at
invariant-loop-at l =
    (hex_text l.at l.rest ++ drop l.at l.text.items ≡ hex_text l.digits l.number) × ((length l.text.items ≡ l.digits) × (l.at ≤ l.digits))

abbrev pub decreases-loop-at : goal.decreases-loop-at
decreases-loop-at l = l.at
