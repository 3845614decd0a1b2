-- Proved in `Reading`.
use Rattle.vm_input_laws.proofs.JournalReads.{journals_are_read}
use Rattle.vm_input_laws.proofs.journals_are_read.Goals as goal

pub returns : goal.returns
returns c = journals_are_read c.messages_are_kept.ensures
