use Rattle.store_server.specs.RequestAnswers.{IsUnknown}
use Rattle.store_server.proofs.AnswerKinds.{of_answer}
use Rattle.store_server.proofs.Reaching.{reaches_told}
use Rattle.store_server.proofs.Showing.{KnownAnswer}
use Rattle.store_server.proofs.rows.ended_kind.Goals as goal

pub returns-in-Ok-clause-told : goal.returns-in-Ok-clause-told
returns-in-Ok-clause-told g c =
    let asked = c.answer in
    let answer = c.in-Ok.answer in
    of_answer g.S.Store c.args.id.now c.args.store.now asked.new.self answer c.kind_of-kind.result c.kind_of-kind.ensures
    (reaches_told g.S.Store c.args.store.now asked.new.self asked.ensures.crash asked.ensures.live (KnownAnswer c.args.id.now answer) c.in-Ok.ensures.told)

pub returns-in-Err-clause-told : goal.returns-in-Err-clause-told
returns-in-Err-clause-told g c =
    let asked = c.answer in
    let why = c.in-Err.refusal in
    reaches_told g.S.Store c.args.store.now asked.new.self asked.ensures.crash asked.ensures.live (IsUnknown c.args.id.now why) c.in-Err.ensures.told
