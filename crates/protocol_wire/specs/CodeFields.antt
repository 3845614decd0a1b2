-- What the code's fields stand for.
use Rattle.protocol_wire.specs.Wire.{Wire, varint, bytes, fixed, Field}
use Rattle.protocol_wire.specs.declared.field.Scanned.{Scanned}
use Rattle.protocol_wire.specs.declared.field.Scanned.TheVariants.{Varint, Bytes, Fixed}
use Rattle.protocol_wire.specs.declared.field.ScannedField.{ScannedField}

abbrev pub wire : Scanned → Wire
wire (Varint n) = varint n
wire (Bytes b) = bytes b.now
wire Fixed = fixed

abbrev pub field : ScannedField → Field
field f = record { number = f.number; value = wire f.value }
