-- The fields that are still to come: those that are listed, and those of the bytes behind them.
use Rattle.std.specs.Prelude.{List, ◌++◌, map, Bool}
use Rattle.protocol_wire.specs.Wire.{Field}
use Rattle.protocol_wire.specs.Fields.{fields, are_fields}
use Rattle.protocol_wire.specs.CodeFields.{field}
use Rattle.protocol_wire.specs.declared.listed.Fields.{Fields}

unfoldable pub coming : Fields → List Field
coming f = map field f.listed.now ++ fields f.rest.now

-- Whether the bytes behind those that are listed are fields and nothing else.
unfoldable pub are_all : Fields → Bool
are_all f = are_fields f.rest.now
