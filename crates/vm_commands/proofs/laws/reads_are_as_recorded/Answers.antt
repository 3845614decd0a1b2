use Rattle.vm_commands.proofs.Recording.{reads_as_recorded}
use Rattle.vm_commands.proofs.laws.reads_are_as_recorded.Goals as goal

pub returns : goal.returns
returns c = reads_as_recorded
