-- What was seen behind the others is made ready, or nothing is done.
use Rattle.std.proofs.Common.{rules, ◌≡◌, false}
use Rattle.journal_store.proofs.JoinedFrames.{next_further, next_joins, next_within}
use Rattle.journal_store.proofs.joined.join_next.Goals as goal

pub returns-in-Some-clause-joins : goal.returns-in-Some-clause-joins
returns-in-Some-clause-joins g c =
    next_joins g.S.Store c.args.id.now c.args.attempt.now c.in-Some.seen c.args.frames.now c.join_seen.new.frames c.args.tables.now c.join_seen.new.tables (search rules) c.in-Some.ensures.seen c.join_seen.result c.join_seen.ensures.joins

pub returns-in-Some-clause-within : goal.returns-in-Some-clause-within
returns-in-Some-clause-within g c =
    next_within g.S.Store c.args.id.now c.args.attempt.now c.in-Some.seen c.args.frames.now c.join_seen.new.frames c.args.tables.now c.join_seen.new.tables (search rules) c.in-Some.ensures.seen c.join_seen.result c.join_seen.ensures.joins
    c.requires

pub returns-in-Some-clause-further : goal.returns-in-Some-clause-further
returns-in-Some-clause-further g c =
    next_further g.S.Store c.args.id.now c.args.attempt.now c.in-Some.seen c.args.frames.now c.join_seen.new.frames c.args.tables.now c.join_seen.new.tables (search rules) c.in-Some.ensures.seen c.join_seen.result c.join_seen.ensures.joins
    c.in-Some.ensures.some
