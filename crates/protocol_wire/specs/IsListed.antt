-- What is kept of a payload whose first fields may be listed.
use Rattle.std.specs.Prelude.{◌≡◌, ◌++◌, map}
use Rattle.protocol_wire.specs.Fields.{fields, are_fields}
use Rattle.protocol_wire.specs.CodeFields.{field}
use Rattle.protocol_wire.specs.declared.listed.Payload.TheInside.{Inside}

-- The fields that are listed, and those of the bytes behind them, are the fields of the payload, and what stands behind all of them
-- is the same.
pub record IsListed (p : Inside) : Type 0 where
  pub all : map field p.listed.now ++ fields p.rest.now ≡ fields p.bytes.now
  pub whole : are_fields p.rest.now ≡ are_fields p.bytes.now
