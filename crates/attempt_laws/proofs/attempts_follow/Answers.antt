-- The laws are proved in `Following`.
use Rattle.attempt_laws.proofs.Following.{reads_journal, attempts_follow}
use Rattle.attempt_laws.proofs.attempts_follow.Goals as goal

pub returns-clause-journal : goal.returns-clause-journal
returns-clause-journal c = reads_journal

pub returns-clause-follows : goal.returns-clause-follows
returns-clause-follows c = attempts_follow
