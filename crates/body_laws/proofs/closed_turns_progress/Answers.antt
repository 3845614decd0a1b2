-- The law is proved in `Progress`.
use Rattle.body_laws.proofs.Progress.{closed_turns_progress}
use Rattle.body_laws.proofs.closed_turns_progress.Goals as goal

pub returns : goal.returns
returns c = closed_turns_progress
