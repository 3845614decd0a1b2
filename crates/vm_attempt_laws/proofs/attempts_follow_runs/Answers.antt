-- Proved in `HostedAttempt`.
use Rattle.vm_attempt_laws.proofs.HostedAttempt.{attempts_follow}
use Rattle.vm_attempt_laws.proofs.attempts_follow_runs.Goals as goal

pub returns : goal.returns
returns g c = λ function next version options. attempts_follow function next version options c.attempts_replay.ensures.begins c.attempts_replay.ensures.stays (c.attempts_begin.ensures function next version options)
    (c.inputs_come.ensures function next version options) (c.events_keep.ensures function next version options) (c.feeds_keep.ensures function next version options) (c.closes_keep.ensures function next version options)
    (c.takes_keep.ensures function next version options) (c.turns_keep.ensures function next version options) (c.turns_tell.ensures function next version options) (c.overs_stay.ensures function)
