use Rattle.vm_types.proofs.Ready.{known_one}
use Rattle.vm_types.proofs.commands.EphemeralCommands.register_ready.Goals as goal

pub returns-clause-ok : goal.returns-clause-ok
returns-clause-ok c = rw (← c.self.view_is)
    (known_one c.self.inside.last_completion_id c.in-Some.number c.self.inside.in_flight.keys c.self.inside.ready.entries c.answer.new.ready.entries c.args.value c.in-Some.ensures.1 c.in_ok-answer.ensures.ok)
