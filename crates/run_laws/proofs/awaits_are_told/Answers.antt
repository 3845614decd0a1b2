-- All are proved in `Awaits`.
use Rattle.run_laws.proofs.Awaits.{awaits_tell, children_tell, waits_asleep}
use Rattle.run_laws.proofs.awaits_are_told.Goals as goal

pub returns : goal.returns
returns c = record { awaits = awaits_tell; children = children_tell; asleep = waits_asleep }
