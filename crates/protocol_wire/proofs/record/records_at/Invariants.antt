use Rattle.std.proofs.Common.{◌≡◌, ◌++◌, map}
use Rattle.protocol_wire.specs.Fields.{fields}
use Rattle.protocol_wire.specs.ComingFields.{coming}
use Rattle.protocol_wire.specs.Check.{payload_fault}
use Rattle.protocol_wire.specs.Sound.{AreSound}
use Rattle.protocol_wire.specs.Selection.{values, each_bytes}
use Rattle.protocol_wire.proofs.record.records_at.Given as goal

abbrev pub invariant-loop-found : goal.invariant-loop-found
invariant-loop-found g l = record {
  records : l.all ++ map (λ payload. g.R.Record.of l.below (fields payload)) (each_bytes (values l.field.number (coming l.found-iterator))) ≡ map (λ payload. g.R.Record.of l.below (fields payload)) (each_bytes (values l.field.number (fields l.payload)));
  sound : AreSound (payload_fault l.below g.R.Record.record_type) (values l.field.number (coming l.found-iterator));
}
