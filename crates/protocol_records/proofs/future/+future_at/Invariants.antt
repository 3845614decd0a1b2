use Rattle.std.proofs.Common.{◌≡◌, ◌++◌, ◌-◌, map}
use Rattle.protocol_wire.specs.Fields.{fields}
use Rattle.protocol_wire.specs.ComingFields.{coming}
use Rattle.protocol_wire.specs.Check.{payload_fault}
use Rattle.protocol_wire.specs.Sound.{AreSound}
use Rattle.protocol_wire.specs.Selection.{values, each_bytes, records}
use Rattle.protocol_table.specs.declared.table.RecordType.TheVariants.{Future as future_type}
use Rattle.protocol_table.specs.declared.table.future.TheConstants.{NESTED_FUTURES}
use Rattle.protocol_records.specs.Future.{future_of}
use Rattle.protocol_records.proofs.future.+future_at.Given as goal

abbrev pub decreases-future_at : goal.decreases-future_at
decreases-future_at l = l.levels

abbrev pub invariant-loop-found : goal.invariant-loop-found
invariant-loop-found l = record {
  nested : l.nested_futures ++ map (λ p. future_of (l.levels - 1) (fields p)) (each_bytes (values NESTED_FUTURES.number (coming l.found-iterator))) ≡ records (future_of (l.levels - 1)) NESTED_FUTURES.number (fields l.payload);
  sound : AreSound (payload_fault (l.levels - 1) future_type) (values NESTED_FUTURES.number (coming l.found-iterator));
}
