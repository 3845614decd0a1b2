-- The fields of a failure metadata.
use Rattle.std.specs.Prelude.{IsUtf8, List, [], ℕ, ◌<◌, ◌∷◌}
use Rattle.protocol_wire.specs.Wire.{Field}
use Rattle.protocol_wire.specs.Selection.{text}
use Rattle.protocol_wire.specs.Parts.{Part, plain_bytes}
use Rattle.protocol_table.specs.declared.table.failure_metadata.TheConstants.{KEY, VALUE}
use Rattle.protocol_records.specs.declared.failure.FailureMetadata.{FailureMetadata}

abbrev pub failure_metadata_of : ℕ → List Field → FailureMetadata
failure_metadata_of levels fs = record {
  key = text KEY.number fs;
  value = text VALUE.number fs;
}

abbrev pub failure_metadata_parts : FailureMetadata → List Part
failure_metadata_parts v =
    plain_bytes KEY.number v.key ∷
    plain_bytes VALUE.number v.value ∷ []

pub record FailureMetadataFits (levels : ℕ) (v : FailureMetadata) : Type 0 where
  pub level : 0 < levels
  pub key : IsUtf8 v.key
  pub value : IsUtf8 v.value
