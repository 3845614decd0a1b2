-- Proved in `Streams`.
use Rattle.vm_output_laws.proofs.Streams.{streams_join}
use Rattle.vm_output_laws.proofs.streams_join.Goals as goal

pub returns : goal.returns
returns c = streams_join
