use Rattle.std.proofs.Common.{length}
use Rattle.vm_types.proofs.Ready.{some_left}
use Rattle.vm_types.proofs.commands.EphemeralCommands.has_in_flight.Goals as goal

pub returns : goal.returns
returns c = rw (← c.self.view_is) (some_left c.is_empty.result (length c.self.inside.in_flight.keys) c.is_empty.ensures)
