use Rattle.std.proofs.Common.{◌≡◌, ◌++◌, map}
use Rattle.protocol_wire.specs.Fields.{fields}
use Rattle.protocol_wire.specs.ComingFields.{coming}
use Rattle.protocol_wire.specs.Selection.{values, each_number, low}
use Rattle.protocol_wire.proofs.select.numbers_at.Given as goal

abbrev pub invariant-loop-found : goal.invariant-loop-found
invariant-loop-found l = l.numbers ++ map low (each_number (values l.field.number (coming l.found-iterator))) ≡ map low (each_number (values l.field.number (fields l.payload)))
