-- Proved in `Reading`.
use Rattle.vm_input_laws.proofs.JournalReads.{arrivals_are_read}
use Rattle.vm_input_laws.proofs.arrivals_are_read.Goals as goal

pub returns : goal.returns
returns c = arrivals_are_read c.messages_are_kept.ensures
