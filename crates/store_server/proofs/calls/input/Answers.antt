use Rattle.std.specs.Prelude.{string_bytes}
use Rattle.store_calls.specs.Calls.{HandsOut}
use Rattle.store_server.specs.RequestAnswers.{handed_line}
use Rattle.store_server.proofs.Lasting.{answers_unwritten}
use Rattle.store_server.proofs.calls.input.Goals as goal

pub returns : goal.returns
returns g c =
    let asked = c.next_input-told in
    answers_unwritten g.S.Store c.args.store.now asked.new.self string_bytes c.handed.result handed_line asked.result c.handed.ensures (HandsOut c.args.id.now c.args.attempt c.args.most) asked.ensures.crash asked.ensures.does
