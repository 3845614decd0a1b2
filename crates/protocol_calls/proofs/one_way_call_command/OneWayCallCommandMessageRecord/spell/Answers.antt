use Rattle.std.proofs.Common.{refl}
use Rattle.protocol_wire.proofs.Puts.{chained}
use Rattle.protocol_calls.specs.Fields.{one_way_call_command_parts}
use Rattle.protocol_calls.proofs.one_way_call_command.OneWayCallCommandMessageRecord.spell.Goals as goal

pub returns : goal.returns
returns c = chained (one_way_call_command_parts c.args.self.now) c.args.out.now.items _ (_, c.in_ok-put_text.ensures, (_, c.in_ok-put_text-2.ensures, (_, c.in_ok-put_bytes.ensures, (_, c.in_ok-put_records.ensures, (_, c.in_ok-put_text-3.ensures, (_, c.in_ok-put_optional_text.ensures, (_, c.in_ok-put_optional_text-2.ensures, (_, c.in_ok-put_optional_text-3.ensures, (_, c.in_ok-put_u64.ensures, (_, c.in_ok-put_u32.ensures, (_, c.in_ok-put_text-4.ensures, refl)))))))))))
