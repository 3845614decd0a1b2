use Rattle.std.specs.Prelude.{string_bytes}
use Rattle.journal_model.specs.Event.{Event}
use Rattle.store_calls.specs.AbstractStore.{Adds}
use Rattle.store_calls.specs.Calls.{Ticks}
use Rattle.store_server.specs.RequestAnswers.{ticked_line}
use Rattle.store_server.proofs.Lasting.{answers_written}
use Rattle.store_server.proofs.calls.tick.Goals as goal

pub returns : goal.returns
returns g c =
    let asked = c.tick-told in
    answers_written g.S.Store c.args.store.now asked.new.self string_bytes c.ticked.result ticked_line asked.result c.ticked.ensures (Ticks c.args.now) (Adds (Event.Tick c.args.now)) asked.ensures.crash asked.ensures.does asked.ensures.settled
