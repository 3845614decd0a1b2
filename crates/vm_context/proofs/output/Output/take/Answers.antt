use Rattle.vm_context.specs.Output.{waiting_bytes}
use Rattle.vm_context.proofs.Sending.{rest_taken, bytes_kept}
use Rattle.vm_context.proofs.output.Output.take.Goals as goal

pub returns-clause-rest : goal.returns-clause-rest
returns-clause-rest c =
    rw (← c.self.view_is)
    (rest_taken c.take_all.result c.self.inside.version (waiting_bytes c.self.inside.waiting) (waiting_bytes c.take_all.new.waiting) c.self.inside.is_closed c.self.inside.has_commands c.take_all.ensures.rest)

pub returns-clause-err : goal.returns-clause-err
returns-clause-err c =
    rw (← c.self.view_is)
    (bytes_kept c.take_all.result c.self.inside.version (waiting_bytes c.self.inside.waiting) (waiting_bytes c.take_all.new.waiting) c.self.inside.is_closed c.self.inside.has_commands c.take_all.ensures.err)
