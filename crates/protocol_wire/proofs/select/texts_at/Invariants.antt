use Rattle.std.proofs.Common.{◌≡◌, ◌++◌}
use Rattle.protocol_wire.specs.Fields.{fields}
use Rattle.protocol_wire.specs.ComingFields.{coming}
use Rattle.protocol_wire.specs.Sound.{AreTexts}
use Rattle.protocol_wire.specs.Selection.{values, each_bytes}
use Rattle.protocol_wire.proofs.select.texts_at.Given as goal

abbrev pub invariant-loop-found : goal.invariant-loop-found
invariant-loop-found l = record {
  texts : l.texts ++ each_bytes (values l.field.number (coming l.found-iterator)) ≡ each_bytes (values l.field.number (fields l.payload));
  sound : AreTexts (values l.field.number (coming l.found-iterator));
}
