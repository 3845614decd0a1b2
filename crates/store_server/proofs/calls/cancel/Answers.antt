use Rattle.std.specs.Prelude.{string_bytes}
use Rattle.journal_model.specs.Event.{Event}
use Rattle.store_calls.specs.AbstractStore.{Adds}
use Rattle.store_calls.specs.Calls.{Cancels}
use Rattle.store_server.specs.RequestAnswers.{place_line}
use Rattle.store_server.proofs.Lasting.{answers_written}
use Rattle.store_server.proofs.calls.cancel.Goals as goal

pub returns : goal.returns
returns g c =
    let asked = c.cancel-told in
    answers_written g.S.Store c.args.store.now asked.new.self string_bytes c.placed.result place_line asked.result c.placed.ensures (Cancels c.args.id.now) (Adds (Event.Cancel c.args.id.now)) asked.ensures.crash asked.ensures.does asked.ensures.settled
