use Rattle.std.proofs.Common.{◌≡◌, [], false}
use Rattle.protocol_wire.specs.ComingFields.{coming}
use Rattle.protocol_wire.specs.Selection.{values, each_bytes, joined_bytes}
use Rattle.protocol_wire.proofs.Joined.{joined_from}
use Rattle.protocol_wire.proofs.record.joined_bytes.Given as goal

abbrev pub invariant-loop-found : goal.invariant-loop-found
invariant-loop-found l = record {
  joined : joined_from l.is_present l.all.items (each_bytes (values l.field.number (coming l.found-iterator))) ≡ joined_bytes (each_bytes (values l.field.number (coming l.fn.from)));
  empty : l.is_present ≡ false → l.all.items ≡ [];
}
