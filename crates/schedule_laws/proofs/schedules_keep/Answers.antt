-- The laws are proved in `Beginning`, `Replying` and `Leaving`, from those of attempts that serve.
use Rattle.schedule_laws.proofs.Beginning.{holds_told, holds_follows, follows_holds}
use Rattle.schedule_laws.proofs.Serving.{serving_laws}
use Rattle.schedule_laws.proofs.Replying.{feeds_by, told_by}
use Rattle.schedule_laws.proofs.Leaving.{frames_taken}
use Rattle.schedule_laws.proofs.Waiting.{waits_by}
use Rattle.schedule_laws.proofs.schedules_keep.Goals as goal

pub returns-clause-begins : goal.returns-clause-begins
returns-clause-begins g c = λ next options id s holds. holds_follows g.H.Handler.next_call next options id s holds

pub returns-clause-begins_told : goal.returns-clause-begins_told
returns-clause-begins_told g c = λ next options id s holds. holds_told g.H.Handler.next_call next options id s holds

pub returns-clause-told : goal.returns-clause-told
returns-clause-told g c = λ next options id one answer bytes moved old new held more told covered fits brings does moves follows.
    let laws = serving_laws g.H.Handler.next_call next options (c.attempts_begin.ensures g.H.Handler.next_call) (c.events_keep.ensures g.H.Handler.next_call) (c.feeds_keep.ensures g.H.Handler.next_call) (c.closes_keep.ensures g.H.Handler.next_call) (c.takes_keep.ensures g.H.Handler.next_call) (c.turns_keep.ensures g.H.Handler.next_call) (c.turns_tell.ensures g.H.Handler.next_call) (c.overs_stay.ensures g.H.Handler.next_call) c.executors_live.ensures.begins c.executors_live.ensures.stays
    c.live_attempts_replay.ensures.replays c.live_attempts_replay.ensures.stays in (
      told_by g.H.Handler.next_call next options id laws told one answer bytes old new held more covered fits brings does follows,
      waits_by g.H.Handler.next_call next options id laws told one answer bytes moved old new held more covered fits brings does moves follows,
    )

pub returns-clause-each : goal.returns-clause-each
returns-clause-each g c = λ next options id one answer old new held more covered fits brings does follows.
    let known = feeds_by g.H.Handler.next_call options one answer old new held more does in
    let it = told_by g.H.Handler.next_call next options id
    (serving_laws g.H.Handler.next_call next options (c.attempts_begin.ensures g.H.Handler.next_call) (c.events_keep.ensures g.H.Handler.next_call) (c.feeds_keep.ensures g.H.Handler.next_call) (c.closes_keep.ensures g.H.Handler.next_call) (c.takes_keep.ensures g.H.Handler.next_call) (c.turns_keep.ensures g.H.Handler.next_call) (c.turns_tell.ensures g.H.Handler.next_call) (c.overs_stay.ensures g.H.Handler.next_call) c.executors_live.ensures.begins c.executors_live.ensures.stays
    c.live_attempts_replay.ensures.replays c.live_attempts_replay.ensures.stays)
    follows.0 one answer known.0 old new held more covered fits brings known.1 follows.1 in
    (it.now, it.follows)

pub returns-clause-holds : goal.returns-clause-holds
returns-clause-holds g c = λ next options id s held follows. follows_holds g.H.Handler.next_call next options id s held follows

pub returns-clause-frames : goal.returns-clause-frames
returns-clause-frames g c = λ next options old new held count bytes frames why one changed covered there moves follows.
    frames_taken g.H.Handler.next_call next options
    (serving_laws g.H.Handler.next_call next options (c.attempts_begin.ensures g.H.Handler.next_call) (c.events_keep.ensures g.H.Handler.next_call) (c.feeds_keep.ensures g.H.Handler.next_call) (c.closes_keep.ensures g.H.Handler.next_call) (c.takes_keep.ensures g.H.Handler.next_call) (c.turns_keep.ensures g.H.Handler.next_call) (c.turns_tell.ensures g.H.Handler.next_call) (c.overs_stay.ensures g.H.Handler.next_call) c.executors_live.ensures.begins c.executors_live.ensures.stays
    c.live_attempts_replay.ensures.replays c.live_attempts_replay.ensures.stays)
    old new held count bytes frames why one changed there moves follows
