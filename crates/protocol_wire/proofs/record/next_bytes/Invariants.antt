use Rattle.std.proofs.Common.{◌≡◌, length}
use Rattle.protocol_wire.specs.ComingFields.{coming}
use Rattle.protocol_wire.specs.Selection.{values, each_bytes}
use Rattle.protocol_wire.proofs.record.next_bytes.Given as goal

abbrev pub invariant-loop-found : goal.invariant-loop-found
invariant-loop-found l = each_bytes (values l.field.number (coming l.rest)) ≡ each_bytes (values l.field.number (coming l.all))

abbrev pub decreases-loop-found : goal.decreases-loop-found
decreases-loop-found l = length (coming l.rest)
