use Rattle.std.specs.Prelude.{string_bytes}
use Rattle.journal_model.specs.Event.{Event}
use Rattle.store_calls.specs.AbstractStore.{Adds}
use Rattle.store_calls.specs.Calls.{Invokes}
use Rattle.store_server.specs.RequestAnswers.{done_line}
use Rattle.store_server.proofs.Lasting.{answers_written}
use Rattle.store_server.proofs.calls.invoke.Goals as goal

pub returns : goal.returns
returns g c =
    let asked = c.invoke-told in
    answers_written g.S.Store c.args.store.now asked.new.self string_bytes c.done.result done_line asked.result c.done.ensures (Invokes c.args.new) (Adds (Event.Invoke c.args.new)) asked.ensures.crash asked.ensures.does asked.ensures.settled
