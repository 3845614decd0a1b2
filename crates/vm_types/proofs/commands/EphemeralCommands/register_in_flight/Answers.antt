use Rattle.vm_types.proofs.Ready.{asked_one}
use Rattle.vm_types.proofs.commands.EphemeralCommands.register_in_flight.Goals as goal

pub returns-clause-ok : goal.returns-clause-ok
returns-clause-ok c = rw (← c.self.view_is)
    (asked_one c.self.inside.last_completion_id c.in-Some.number c.self.inside.in_flight.keys c.ask.new.in_flight.keys c.self.inside.ready.entries c.in-Some.ensures.1 c.in_ok-ask.ensures.ok)
