use Rattle.std.proofs.Common.{map, take}
use Rattle.std.specs.List.{AllByRecursion}
use Rattle.protocol_records.specs.FailureMetadata.{FailureMetadataFits}
use Rattle.protocol_stream.specs.Records.{pair_record}
use Rattle.schedule_model.proofs.fitting.pairs_fit.Given as goal

abbrev pub invariant-loop-pair : goal.invariant-loop-pair
invariant-loop-pair l = AllByRecursion (FailureMetadataFits 99) (map pair_record (take l.pair-index l.pairs))
