use Rattle.durable_script.proofs.EntriesShown.{entries_shown}
use Rattle.durable_script.proofs.laws.entries_are_shown.Goals as goal

pub returns : goal.returns
returns c = entries_shown
