use Rattle.std.proofs.Common.{refl}
use Rattle.protocol_wire.proofs.Lengths.{measured}
use Rattle.protocol_calls.specs.Fields.{one_way_call_command_parts}
use Rattle.protocol_calls.proofs.one_way_call_command.OneWayCallCommandMessageRecord.payload_len.Goals as goal

pub returns : goal.returns
returns c = measured (one_way_call_command_parts c.args.self.now) _ (_, c.len_text-len.ensures, (_, c.len_text-len-2.ensures, (_, c.len_bytes-len.ensures, (_, c.len_records-len.ensures, (_, c.len_text-len-3.ensures, (_, c.len_optional_text-len.ensures, (_, c.len_optional_text-len-2.ensures, (_, c.len_optional_text-len-3.ensures, (_, c.len_u64-len.ensures, (_, c.len_u32-len.ensures, (_, c.len_text.ensures, refl)))))))))))
