-- Proved in `Turns`.
use Rattle.vm_attempt_laws.proofs.Turns.{turn_keeps}
use Rattle.vm_attempt_laws.proofs.turns_keep.Goals as goal

pub returns : goal.returns
returns g c = λ function next version options. turn_keeps function next version options c.attempts_replay.ensures.stands c.attempts_replay.ensures.turns c.inputs_are_answered.ensures
