use Rattle.std.proofs.Common.{map, take}
use Rattle.std.specs.List.{AllByRecursion}
use Rattle.protocol_records.specs.Header.{HeaderFits}
use Rattle.protocol_stream.specs.Records.{header_record}
use Rattle.schedule_model.proofs.fitting.headers_fit.Given as goal

abbrev pub invariant-loop-header : goal.invariant-loop-header
invariant-loop-header l = AllByRecursion (HeaderFits 100) (map header_record (take l.header-index l.headers))
