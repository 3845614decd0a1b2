use Rattle.store_server.specs.RequestAnswers.{IsUnknown}
use Rattle.store_server.proofs.Asking.{has_answer, no_answer}
use Rattle.store_server.proofs.Reaching.{reaches_told}
use Rattle.store_server.proofs.Showing.{KnownAnswer, KnownOpen, refused_as}
use Rattle.store_server.proofs.asks.found_answer.Goals as goal

pub returns-in_err-is_open-clause-err : goal.returns-in_err-is_open-clause-err
returns-in_err-is_open-clause-err g c =
    let id = c.args.id.now in
    let asked = c.is_open in
    let why = c.in_err-is_open.field-0.0 in
    refused_as c.from_residual.result why c.from_residual.ensures.1 _
    (reaches_told g.S.Store c.args.store.now asked.new.self asked.ensures.crash asked.ensures.live (IsUnknown id why) c.in_err-is_open.ensures.told)

pub returns-in-Ok-clause-ok : goal.returns-in-Ok-clause-ok
returns-in-Ok-clause-ok g c =
    let id = c.args.id.now in
    let a = c.args.store.now in
    let first = c.is_open in
    let b = first.new.self in
    let asked = c.answer in
    let now = c.in_ok-is_open.is_open in
    let answer = c.in-Ok.answer in (
      c.new.ensures.items,
      has_answer g.S.Store id a b asked.new.self now (reaches_told g.S.Store a b first.ensures.crash first.ensures.live (KnownOpen id now) c.in_ok-is_open.ensures.told) answer
          (reaches_told g.S.Store b asked.new.self asked.ensures.crash asked.ensures.live (KnownAnswer id answer) c.in-Ok.ensures.told),
    )

pub returns-in-Err-clause-err : goal.returns-in-Err-clause-err
returns-in-Err-clause-err g c =
    let id = c.args.id.now in
    let a = c.args.store.now in
    let first = c.is_open in
    let b = first.new.self in
    let asked = c.answer in
    let now = c.in_ok-is_open.is_open in
    let why = c.in-Err.refusal in
    no_answer g.S.Store id a b asked.new.self now (reaches_told g.S.Store a b first.ensures.crash first.ensures.live (KnownOpen id now) c.in_ok-is_open.ensures.told) why
    (reaches_told g.S.Store b asked.new.self asked.ensures.crash asked.ensures.live (IsUnknown id why) c.in-Err.ensures.told)
