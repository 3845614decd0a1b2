use Rattle.protocol_equality.proofs.Told.{told}
use Rattle.protocol_equality.specs.Commands.{attach_invocation_command_tells}
use Rattle.protocol_equality.proofs.commands.AttachInvocationCommandMessageCommandMessageHeaderEq.header_eq.Goals as goal

pub returns : goal.returns
returns c = told (attach_invocation_command_tells c.args.ignore_payload_equality) c.args.self.now c.args.other.now _ c.is_same_attach_invocation.ensures
