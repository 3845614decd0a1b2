use Rattle.store_server.proofs.Reaching.{reaches_told}
use Rattle.store_server.proofs.Showing.{KnownAnswer, KnownOpen, Unknown, refused_as, refused_so, shown_all, unknown_second, unknown_third}
use Rattle.store_server.proofs.asks.shown.Goals as goal

pub returns-in_err-is_open-clause-err : goal.returns-in_err-is_open-clause-err
returns-in_err-is_open-clause-err g c =
    let id = c.args.id.now in
    let asked = c.is_open in
    let why = c.in_err-is_open.field-0.0 in
    refused_as c.from_residual.result why c.from_residual.ensures.1 _
    (refused_so g.S.Store id c.args.store.now asked.new.self why
    (reaches_told g.S.Store c.args.store.now asked.new.self asked.ensures.crash asked.ensures.live (Unknown id why) c.in_err-is_open.ensures.told))

pub returns-in_err-answer-clause-err : goal.returns-in_err-answer-clause-err
returns-in_err-answer-clause-err g c =
    let id = c.args.id.now in
    let first = c.is_open in
    let b = first.new.self in
    let asked = c.answer in
    let why = c.in_err-answer.field-0.0 in
    let now = c.in_ok-is_open.is_open in
    refused_as c.from_residual-in_err-answer.result why c.from_residual-in_err-answer.ensures.1 _
    (unknown_second g.S.Store id c.args.store.now b asked.new.self asked.new.self why now
    (reaches_told g.S.Store c.args.store.now b first.ensures.crash first.ensures.live (KnownOpen id now) c.in_ok-is_open.ensures.told)
    (refused_so g.S.Store id b asked.new.self why
    (reaches_told g.S.Store b asked.new.self asked.ensures.crash asked.ensures.live (Unknown id why) c.in_err-answer.ensures.told)))

pub returns-in-Ok-clause-ok : goal.returns-in-Ok-clause-ok
returns-in-Ok-clause-ok g c =
    let id = c.args.id.now in
    let a = c.args.store.now in
    let first = c.is_open in
    let b = first.new.self in
    let asked = c.answer in
    let d = asked.new.self in
    let now = c.in_ok-is_open.is_open in
    let answer = c.in_ok-answer.answer in
    shown_all g.S.Store id a b d c.shown_entries.new.store c.in-Ok.entries.items answer now
    (reaches_told g.S.Store a b first.ensures.crash first.ensures.live (KnownOpen id now) c.in_ok-is_open.ensures.told)
    (reaches_told g.S.Store b d asked.ensures.crash asked.ensures.live (KnownAnswer id answer) c.in_ok-answer.ensures.told)
    c.in-Ok.ensures.ok

pub returns-in-Err-clause-err : goal.returns-in-Err-clause-err
returns-in-Err-clause-err g c =
    let id = c.args.id.now in
    let a = c.args.store.now in
    let first = c.is_open in
    let b = first.new.self in
    let asked = c.answer in
    let d = asked.new.self in
    let now = c.in_ok-is_open.is_open in
    let answer = c.in_ok-answer.answer in
    unknown_third g.S.Store id a b d c.shown_entries.new.store c.in-Err.refusal now answer
    (reaches_told g.S.Store a b first.ensures.crash first.ensures.live (KnownOpen id now) c.in_ok-is_open.ensures.told)
    (reaches_told g.S.Store b d asked.ensures.crash asked.ensures.live (KnownAnswer id answer) c.in_ok-answer.ensures.told)
    c.in-Err.ensures.err
