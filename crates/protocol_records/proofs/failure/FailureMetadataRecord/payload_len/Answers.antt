use Rattle.std.proofs.Common.{refl}
use Rattle.protocol_wire.proofs.Lengths.{measured}
use Rattle.protocol_records.specs.FailureMetadata.{failure_metadata_parts}
use Rattle.protocol_records.proofs.failure.FailureMetadataRecord.payload_len.Goals as goal

pub returns : goal.returns
returns c = measured (failure_metadata_parts c.args.self.now) _ (_, c.len_text-len.ensures, (_, c.len_text.ensures, refl))
