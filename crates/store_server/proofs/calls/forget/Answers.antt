use Rattle.std.specs.Prelude.{string_bytes}
use Rattle.store_server.proofs.Lasting.{answers_forgotten}
use Rattle.store_server.proofs.calls.forget.Goals as goal

pub returns : goal.returns
returns g c =
    let asked = c.forget-told in
    answers_forgotten g.S.Store c.args.store.now asked.new.self string_bytes c.done.result c.args.ids.now asked.result c.done.ensures asked.ensures.crash asked.ensures.does asked.ensures.settled
