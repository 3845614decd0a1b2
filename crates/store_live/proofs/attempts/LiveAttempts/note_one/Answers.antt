use Rattle.store_live.proofs.Noting.{no_progress, other_noted, set_noted}
use Rattle.store_live.proofs.attempts.LiveAttempts.note_one.Goals as goal

pub returns-in-SetProgress : goal.returns-in-SetProgress
returns-in-SetProgress c = rw c.in-SetProgress.is (set_noted c.in-SetProgress.id c.in-SetProgress.progress c.args.self.now.attempts c.set_progress.new.self.attempts c.set_progress.ensures)

pub returns-in_default : goal.returns-in_default
returns-in_default c = other_noted c.args.write c.args.self.now.attempts (no_progress c.args.write c.in_default.not-SetProgress)
