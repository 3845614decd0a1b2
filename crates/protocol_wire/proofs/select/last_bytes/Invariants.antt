use Rattle.std.proofs.Common.{◌≡◌, None, option_map}
use Rattle.std.specs.Prelude.{IfSome, IsUtf8}
use Rattle.protocol_wire.specs.ComingFields.{coming}
use Rattle.protocol_wire.specs.Sound.{AreTexts}
use Rattle.protocol_wire.specs.Selection.{values, last_bytes_or}
use Rattle.protocol_wire.proofs.select.last_bytes.Given as goal

abbrev pub invariant-loop-found : goal.invariant-loop-found
invariant-loop-found l = record {
  bytes : last_bytes_or (option_map (λ b. b.now) l.last) (values l.field.number (coming l.found-iterator)) ≡ last_bytes_or None (values l.field.number (coming l.all));
  text : AreTexts (values l.field.number (coming l.all)) → AreTexts (values l.field.number (coming l.found-iterator)) × IfSome l.last (λ b. IsUtf8 b.now);
}
