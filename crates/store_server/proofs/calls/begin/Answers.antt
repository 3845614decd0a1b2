use Rattle.std.specs.Prelude.{string_bytes}
use Rattle.store_calls.specs.Calls.{BeginsAttempt}
use Rattle.journal_store.specs.Attempts.{BeginsSome}
use Rattle.store_server.specs.RequestAnswers.{attempt_line}
use Rattle.store_server.proofs.Lasting.{answers_written}
use Rattle.store_server.proofs.calls.begin.Goals as goal

pub returns : goal.returns
returns g c =
    let asked = c.begin-told in
    answers_written g.S.Store c.args.store.now asked.new.self string_bytes c.begun.result attempt_line asked.result c.begun.ensures (BeginsAttempt c.args.id.now c.args.now) (BeginsSome c.args.id.now c.args.now) asked.ensures.crash asked.ensures.does asked.ensures.settled
