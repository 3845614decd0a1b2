-- Proved in `Messages`.
use Rattle.vm_input_laws.proofs.MessagesKept.{messages_are_kept}
use Rattle.vm_input_laws.proofs.messages_are_kept.Goals as goal

pub returns : goal.returns
returns c = messages_are_kept c.entries_are_gathered.ensures.commands c.entries_are_gathered.ensures.notifications
