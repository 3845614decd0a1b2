-- Proved in `Commands`.
use Rattle.protocol_stream.proofs.Commands.{command_types_read_back, cancellations_are_signals}
use Rattle.protocol_stream.proofs.laws.command_types_read_back.Goals as goal

pub returns-clause-commands : goal.returns-clause-commands
returns-clause-commands c = command_types_read_back

pub returns-clause-cancellation : goal.returns-clause-cancellation
returns-clause-cancellation c = cancellations_are_signals
