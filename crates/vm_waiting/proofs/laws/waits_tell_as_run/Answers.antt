use Rattle.vm_waiting.proofs.TellsAsRun.{tells_as_run}
use Rattle.vm_waiting.proofs.laws.waits_tell_as_run.Goals as goal

pub returns : goal.returns
returns c = tells_as_run
