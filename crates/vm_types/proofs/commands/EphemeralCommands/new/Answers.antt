use Rattle.std.proofs.Common.{ap₂}
use Rattle.vm_types.proofs.Ready.{reads_of}
use Rattle.vm_types.proofs.commands.EphemeralCommands.new.Goals as goal

pub returns : goal.returns
returns c = ap₂ (reads_of 1) c.new.ensures.empty c.new-2.ensures.empty
