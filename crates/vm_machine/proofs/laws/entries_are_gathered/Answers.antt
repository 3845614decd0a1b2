use Rattle.vm_machine.proofs.StateBeforeInput.{gathers_commands, gathers_notifications}
use Rattle.vm_machine.proofs.laws.entries_are_gathered.Goals as goal

pub returns-clause-commands : goal.returns-clause-commands
returns-clause-commands c = gathers_commands

pub returns-clause-notifications : goal.returns-clause-notifications
returns-clause-notifications c = gathers_notifications
