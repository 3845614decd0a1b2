use Rattle.std.proofs.Common.{refl}
use Rattle.protocol_wire.proofs.Lengths.{measured}
use Rattle.protocol_commands.specs.Fields.{peek_promise_command_parts}
use Rattle.protocol_commands.proofs.peek_promise_command.PeekPromiseCommandMessageRecord.payload_len.Goals as goal

pub returns : goal.returns
returns c = measured (peek_promise_command_parts c.args.self.now) _ (_, c.len_text-len.ensures, (_, c.len_u32-len.ensures, (_, c.len_text.ensures, refl)))
