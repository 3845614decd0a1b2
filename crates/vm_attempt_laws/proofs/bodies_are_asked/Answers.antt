-- Proved in `AskedBodies`.
use Rattle.vm_attempt_laws.proofs.AskedBodies.{asks_for_open, open_is_recorded}
use Rattle.vm_attempt_laws.proofs.bodies_are_asked.Goals as goal

pub returns-clause-asks : goal.returns-clause-asks
returns-clause-asks g c = λ function next version options. asks_for_open function next version options c.attempts_replay.ensures.stands c.attempts_replay.ensures.turns

pub returns-clause-recorded : goal.returns-clause-recorded
returns-clause-recorded g c = open_is_recorded
