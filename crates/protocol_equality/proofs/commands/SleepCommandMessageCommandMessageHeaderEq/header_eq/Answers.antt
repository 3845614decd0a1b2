use Rattle.protocol_equality.proofs.Told.{told}
use Rattle.protocol_equality.specs.Commands.{sleep_command_tells}
use Rattle.protocol_equality.proofs.commands.SleepCommandMessageCommandMessageHeaderEq.header_eq.Goals as goal

pub returns : goal.returns
returns c = told (sleep_command_tells c.args.ignore_payload_equality) c.args.self.now c.args.other.now _ c.is_same_sleep.ensures
