use Rattle.std.proofs.Common.{◌≡◌, Ok, Err}
use Rattle.std.specs.Prelude.{string_bytes}
use Rattle.journal_model.specs.Attempt.{is_due}
use Rattle.store_server.specs.RequestAnswers.{id_if, ids_line}
use Rattle.store_server.specs.StoreChanges.{CommitsNothing, TellsKnown}
use Rattle.store_server.proofs.Reaching.{answers}
use Rattle.store_server.proofs.asks.due_one.Goals as goal

pub returns-in-Ok : goal.returns-in-Ok
returns-in-Ok g c =
    let id = c.args.id.now in
    let reached = c.is_due.ensures in
    answers g.S.Store string_bytes c.due_one_line.result (λ told. ids_line (id_if told id)) (Ok c.in-Ok.told) c.args.store.now c.is_due.new.store c.due_one_line.ensures
    (TellsKnown id (λ events told. told ≡ is_due events id)) CommitsNothing c.in-Ok.ensures.crash c.in-Ok.ensures.leads

pub returns-in-Err : goal.returns-in-Err
returns-in-Err g c =
    let id = c.args.id.now in
    answers g.S.Store string_bytes c.refused.result (λ told. ids_line (id_if told id)) (Err c.in-Err.refusal) c.args.store.now c.is_due.new.store c.refused.ensures
    (TellsKnown id (λ events told. told ≡ is_due events id)) CommitsNothing c.in-Err.ensures.crash c.in-Err.ensures.leads
