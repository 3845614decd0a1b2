use Rattle.scheduler.proofs.feeding.feed_part.Goals as goal
use Rattle.std.proofs.Common.{refl}

pub returns-in-Ok-clause-does : goal.returns-in-Ok-clause-does
returns-in-Ok-clause-does g c clean s is =
    let it = c.in-Ok.ensures.does clean s is in
    (it.0, it.1, (c.in-Ok.bytes, c.len-len.ensures.value, it.2, c.feed.ensures))

pub returns-in-Err-clause-does : goal.returns-in-Err-clause-does
returns-in-Err-clause-does g c clean s is =
    let it = c.in-Err.ensures.does clean s is in
    (it.0, it.1, (it.2, refl {a = c.args.attempt.now}))
