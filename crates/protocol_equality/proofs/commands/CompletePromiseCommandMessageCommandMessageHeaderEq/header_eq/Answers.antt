use Rattle.protocol_equality.proofs.Told.{told}
use Rattle.protocol_equality.specs.Commands.{complete_promise_command_tells}
use Rattle.protocol_equality.proofs.commands.CompletePromiseCommandMessageCommandMessageHeaderEq.header_eq.Goals as goal

pub returns : goal.returns
returns c = told (complete_promise_command_tells c.args.ignore_payload_equality) c.args.self.now c.args.other.now _ c.is_same_complete_promise.ensures
