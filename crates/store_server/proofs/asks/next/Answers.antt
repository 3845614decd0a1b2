use Rattle.std.specs.Prelude.{string_bytes}
use Rattle.due_laws.specs.NextMoment.{IsNextMoment}
use Rattle.store_server.specs.RequestAnswers.{moment_line}
use Rattle.store_server.proofs.Reaching.{tells_none, tells_so}
use Rattle.store_server.proofs.asks.next.Goals as goal

pub returns-in-Ok : goal.returns-in-Ok
returns-in-Ok g c =
    let asked = c.next_moment in
    tells_so g.S.Store string_bytes c.format.result moment_line c.args.store.now asked.new.self asked.ensures.crash asked.ensures.live (IsNextMoment) c.in-Ok.moment
    (c.format.ensures.ok)
    c.in-Ok.ensures.told

pub returns-in-Err : goal.returns-in-Err
returns-in-Err g c =
    let asked = c.next_moment in
    tells_none g.S.Store string_bytes c.refused.result moment_line c.args.store.now asked.new.self asked.ensures.crash asked.ensures.live (IsNextMoment) c.in-Err.refusal c.refused.ensures c.in-Err.ensures.told
