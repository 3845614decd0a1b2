use Rattle.std.specs.Prelude.{string_bytes}
use Rattle.store_calls.specs.Calls.{Stops}
use Rattle.store_server.specs.RequestAnswers.{done_line}
use Rattle.store_server.proofs.Lasting.{answers_unwritten}
use Rattle.store_server.proofs.calls.stop.Goals as goal

pub returns : goal.returns
returns g c =
    let asked = c.stop-told in
    answers_unwritten g.S.Store c.args.store.now asked.new.self string_bytes c.done.result done_line asked.result c.done.ensures (Stops c.args.id.now c.args.attempt) asked.ensures.crash asked.ensures.does
