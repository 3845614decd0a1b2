use Rattle.std.proofs.Common.{◌≡◌, map, take}
use Rattle.protocol_stream.specs.Records.{header_record}
use Rattle.store_invocations.proofs.input.header_records.Given as goal

abbrev pub invariant-loop-header : goal.invariant-loop-header
invariant-loop-header l = l.records ≡ map header_record (take l.header-index l.header-items)
