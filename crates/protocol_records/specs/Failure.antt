-- The fields of a failure.
use Rattle.std.specs.Prelude.{IsUtf8, List, [], map, ℕ, ◌-◌, ◌<◌, ◌^◌, ◌∷◌}
use Rattle.std.specs.List.{AllByRecursion}
use Rattle.protocol_wire.specs.Wire.{Field}
use Rattle.protocol_wire.specs.Selection.{records, text, u32}
use Rattle.protocol_wire.specs.Parts.{Part, payload_of, plain_bytes, plain_number, repeated_bytes}
use Rattle.protocol_table.specs.declared.table.failure.TheConstants.{CODE, MESSAGE, METADATA}
use Rattle.protocol_records.specs.FailureMetadata.{failure_metadata_of, failure_metadata_parts, FailureMetadataFits}
use Rattle.protocol_records.specs.declared.failure.Failure.{Failure}

abbrev pub failure_of : ℕ → List Field → Failure
failure_of levels fs = record {
  code = u32 CODE.number fs;
  message = text MESSAGE.number fs;
  metadata = records (failure_metadata_of (levels - 1)) METADATA.number fs;
}

abbrev pub failure_parts : Failure → List Part
failure_parts v =
    plain_number CODE.number v.code ∷
    plain_bytes MESSAGE.number v.message ∷
    repeated_bytes METADATA.number (map (λ r. payload_of (failure_metadata_parts r)) v.metadata) ∷ []

pub record FailureFits (levels : ℕ) (v : Failure) : Type 0 where
  pub level : 0 < levels
  pub code : v.code < 2 ^ 32
  pub message : IsUtf8 v.message
  pub metadata : AllByRecursion (FailureMetadataFits (levels - 1)) v.metadata
