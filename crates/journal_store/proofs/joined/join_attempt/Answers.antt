use Rattle.std.proofs.Common.{rules}
use Rattle.journal_store.proofs.JoinedCommit.{some_ready}
use Rattle.journal_store.proofs.JoinedFrames.{asks_nothing}
use Rattle.journal_store.proofs.joined.join_attempt.Goals as goal

pub returns-in-Ok-clause-ready : goal.returns-in-Ok-clause-ready
returns-in-Ok-clause-ready g c =
    some_ready g.S.Store c.args.id.now c.args.attempt c.args.one.now c.args.tables.now c.join_frames.new.tables c.in-Ok.frames (search rules) c.in-Ok.ensures.within c.in-Ok.ensures.ready c.some_joined.result
    c.some_joined.ensures.same c.some_joined.ensures.some
