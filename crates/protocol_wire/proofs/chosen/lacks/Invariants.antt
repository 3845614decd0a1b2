-- What is left has the same fields of the number as all.
use Rattle.std.proofs.Common.{◌≡◌}
use Rattle.protocol_wire.specs.ComingFields.{coming}
use Rattle.protocol_wire.specs.Selection.{values}
use Rattle.protocol_wire.proofs.chosen.lacks.Given as goal

abbrev pub invariant-loop-found : goal.invariant-loop-found
invariant-loop-found l = values l.field.number (coming l.found-iterator) ≡ values l.field.number (coming l.all)
