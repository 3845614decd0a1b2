use Rattle.std.proofs.Common.{ap, ◌+◌}
use Rattle.vm_types.proofs.Ready.{reads_of}
use Rattle.vm_types.proofs.commands.EphemeralCommands.take_notification.Goals as goal

pub returns-clause-rest : goal.returns-clause-rest
returns-clause-rest c = rw (← c.self.view_is) (ap (reads_of (c.self.inside.last_completion_id + 1) c.self.inside.in_flight.keys) c.remove.ensures.entries)
