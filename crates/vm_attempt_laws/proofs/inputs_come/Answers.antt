-- Proved in `Bodies`.
use Rattle.vm_attempt_laws.proofs.Bodies.{inputs_come}
use Rattle.vm_attempt_laws.proofs.inputs_come.Goals as goal

pub returns : goal.returns
returns g c = λ function next version options. inputs_come function next version options c.attempts_replay.ensures.stays
