use Rattle.vm_commands.proofs.Recording.{keeps_types}
use Rattle.vm_commands.proofs.laws.recorded_requests_have_their_types.Goals as goal

pub returns : goal.returns
returns c = keeps_types
