use Rattle.std.proofs.Common.{refl}
use Rattle.protocol_wire.proofs.Lengths.{measured}
use Rattle.protocol_records.specs.SleepCommand.{sleep_command_parts}
use Rattle.protocol_records.proofs.sleep_command.SleepCommandMessageRecord.payload_len.Goals as goal

pub returns : goal.returns
returns c = measured (sleep_command_parts c.args.self.now) _ (_, c.len_u64-len.ensures, (_, c.len_u32-len.ensures, (_, c.len_text.ensures, refl)))
