-- Proved in `Streams`.
use Rattle.vm_output_laws.proofs.Streams.{streams_are_read}
use Rattle.vm_output_laws.proofs.streams_are_read.Goals as goal

pub returns : goal.returns
returns c = streams_are_read
