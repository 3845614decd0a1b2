-- The number so far is that of the digits so far.
use Rattle.std.proofs.Common.{◌≡◌, ◌<◌, ◌^◌, take}
use Rattle.delivery_laws.specs.Outbox.{hex_text}
use Rattle.store_deliveries.proofs.read.number_in.Given as goal

abbrev pub invariant-loop-byte : goal.invariant-loop-byte
invariant-loop-byte l = record { same : take l.byte-index l.text ≡ hex_text l.byte-index l.number; small : l.number < 16 ^ l.byte-index }
