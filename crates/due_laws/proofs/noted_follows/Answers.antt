-- All are proved in `Noting`.
use Rattle.due_laws.proofs.Noting.{noted_invoked, noted_follows, noted_ticks, noted_unticked, noted_elsewhere, noted_still, noted_refused, noted_opened, live_is_awake}
use Rattle.due_laws.proofs.noted_follows.Goals as goal

pub returns-clause-invoked : goal.returns-clause-invoked
returns-clause-invoked c = noted_invoked

pub returns-clause-follows : goal.returns-clause-follows
returns-clause-follows c = noted_follows

pub returns-clause-ticks : goal.returns-clause-ticks
returns-clause-ticks c = noted_ticks

pub returns-clause-unticked : goal.returns-clause-unticked
returns-clause-unticked c = noted_unticked

pub returns-clause-elsewhere : goal.returns-clause-elsewhere
returns-clause-elsewhere c = noted_elsewhere

pub returns-clause-still : goal.returns-clause-still
returns-clause-still c = noted_still

pub returns-clause-refused : goal.returns-clause-refused
returns-clause-refused c = noted_refused

pub returns-clause-live : goal.returns-clause-live
returns-clause-live c = live_is_awake

pub returns-clause-opened : goal.returns-clause-opened
returns-clause-opened c = noted_opened
