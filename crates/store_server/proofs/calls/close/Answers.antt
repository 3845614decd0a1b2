use Rattle.std.specs.Prelude.{string_bytes}
use Rattle.store_calls.specs.Calls.{ClosesStoredInput}
use Rattle.store_server.specs.RequestAnswers.{done_line}
use Rattle.store_server.proofs.Lasting.{answers_unwritten}
use Rattle.store_server.proofs.calls.close.Goals as goal

pub returns : goal.returns
returns g c =
    let asked = c.close_input-told in
    answers_unwritten g.S.Store c.args.store.now asked.new.self string_bytes c.done.result done_line asked.result c.done.ensures (ClosesStoredInput c.args.id.now c.args.attempt) asked.ensures.crash asked.ensures.does
