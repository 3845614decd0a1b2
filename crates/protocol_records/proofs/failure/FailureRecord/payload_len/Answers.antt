use Rattle.std.proofs.Common.{refl}
use Rattle.protocol_wire.proofs.Lengths.{measured}
use Rattle.protocol_records.specs.Failure.{failure_parts}
use Rattle.protocol_records.proofs.failure.FailureRecord.payload_len.Goals as goal

pub returns : goal.returns
returns c = measured (failure_parts c.args.self.now) _ (_, c.len_u32-len.ensures, (_, c.len_text-len.ensures, (_, c.len_records.ensures, refl)))
