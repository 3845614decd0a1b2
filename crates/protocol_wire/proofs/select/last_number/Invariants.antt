use Rattle.std.proofs.Common.{◌≡◌, None}
use Rattle.protocol_wire.specs.ComingFields.{coming}
use Rattle.protocol_wire.specs.Selection.{values, last_number_or}
use Rattle.protocol_wire.proofs.select.last_number.Given as goal

abbrev pub invariant-loop-found : goal.invariant-loop-found
invariant-loop-found l = last_number_or l.last (values l.field.number (coming l.found-iterator)) ≡ last_number_or None (values l.field.number (coming l.all))
