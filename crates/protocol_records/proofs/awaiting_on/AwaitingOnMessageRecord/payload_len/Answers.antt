use Rattle.std.proofs.Common.{refl}
use Rattle.protocol_wire.proofs.Lengths.{measured}
use Rattle.protocol_records.specs.AwaitingOn.{awaiting_on_parts}
use Rattle.protocol_records.proofs.awaiting_on.AwaitingOnMessageRecord.payload_len.Goals as goal

pub returns : goal.returns
returns c = measured (awaiting_on_parts c.args.self.now) _ (_, c.len_optional_record-len.ensures, (_, c.len_bool.ensures, refl))
