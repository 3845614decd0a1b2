use Rattle.std.proofs.Common.{Some, None, refl, sym, ◌∙◌, inl}
use Rattle.std.specs.Prelude.{string_bytes}
use Rattle.server_lines.specs.Reply.{not_understood_text}
use Rattle.store_server.specs.RequestAnswers.{DoesRead, line_of}
use Rattle.store_server.specs.StoreChanges.{CommitsNothing}
use Rattle.store_server.proofs.Answering.{line_answered, line_unanswered}
use Rattle.store_server.proofs.Reaching.{reaches_none, stays}
use Rattle.store_server.proofs.serving.answer_line.Goals as goal

pub returns-in-Some-clause-ok : goal.returns-in-Some-clause-ok
returns-in-Some-clause-ok g c =
    line_answered g.S.Store c.args.line.now c.args.store.now c.answer_request.new.store string_bytes (Some c.in-Some.request) (sym c.in-Some.is ∙ c.in_ok-request.ensures)
    c.answer_request.result c.or.result c.or.ensures c.answer_request.ensures

pub returns-in-Some-clause-err : goal.returns-in-Some-clause-err
returns-in-Some-clause-err g c =
    line_unanswered g.S.Store c.args.line.now c.args.store.now c.answer_request.new.store string_bytes (Some c.in-Some.request) (sym c.in-Some.is ∙ c.in_ok-request.ensures)
    c.answer_request.result c.or.result c.or.ensures c.answer_request.ensures

pub returns-in-None-clause-ok : goal.returns-in-None-clause-ok
returns-in-None-clause-ok g c =
    let text = line_of not_understood_text in
    line_answered g.S.Store c.args.line.now c.args.store.now c.args.store.now string_bytes None (sym c.in-None.is ∙ c.in_ok-request.ensures)
    c.not_understood.result c.or-in-None.result c.or-in-None.ensures
    (text, c.not_understood.ensures, record { reaches = reaches_none g.S.Store CommitsNothing (DoesRead None text) c.args.store.now (λ s. (refl, stays s)); lasts = inl tt })

pub returns-in-None-clause-err : goal.returns-in-None-clause-err
returns-in-None-clause-err g c =
    let text = line_of not_understood_text in
    line_unanswered g.S.Store c.args.line.now c.args.store.now c.args.store.now string_bytes None (sym c.in-None.is ∙ c.in_ok-request.ensures)
    c.not_understood.result c.or-in-None.result c.or-in-None.ensures
    (text, c.not_understood.ensures, record { reaches = reaches_none g.S.Store CommitsNothing (DoesRead None text) c.args.store.now (λ s. (refl, stays s)); lasts = inl tt })
