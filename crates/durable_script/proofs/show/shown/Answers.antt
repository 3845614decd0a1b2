use Rattle.durable_script.proofs.SchedulerChanges.{reaches_told}
use Rattle.durable_script.proofs.Showing.{KnownAnswer, KnownOpen, refused_as, refused_so, shown_all, unknown_second, unknown_third}
use Rattle.durable_script.proofs.show.shown.Goals as goal

pub returns-in_err-is_open-clause-err : goal.returns-in_err-is_open-clause-err
returns-in_err-is_open-clause-err g c =
    refused_as c.from_residual.result c.in_err-is_open.field-0.0 c.from_residual.ensures.1 _
    (refused_so g.S.Store c.args.id.now c.args.scheduler.now c.is_open.new.self c.is_open.ensures.crash c.is_open.ensures.kept c.in_err-is_open.field-0.0 c.in_err-is_open.ensures.told)

pub returns-in_err-answer-clause-err : goal.returns-in_err-answer-clause-err
returns-in_err-answer-clause-err g c =
    let id = c.args.id.now in
    let b = c.is_open.new.self in
    let asked = c.answer in
    let why = c.in_err-answer.field-0.0 in
    refused_as c.from_residual-in_err-answer.result why c.from_residual-in_err-answer.ensures.1 _
    (unknown_second g.S.Store id c.args.scheduler.now b asked.new.self asked.new.self why c.in_ok-is_open.is_open
    (reaches_told g.S.Store (KnownOpen id c.in_ok-is_open.is_open) c.args.scheduler.now b c.is_open.ensures.crash c.in_ok-is_open.ensures.told c.is_open.ensures.kept)
    (refused_so g.S.Store id b asked.new.self asked.ensures.crash asked.ensures.kept why c.in_err-answer.ensures.told))

pub returns-in-Ok-clause-ok : goal.returns-in-Ok-clause-ok
returns-in-Ok-clause-ok g c =
    let id = c.args.id.now in
    let b = c.is_open.new.self in
    let d = c.answer.new.self in
    shown_all g.S.Store id c.args.scheduler.now b d c.shown_entries.new.scheduler c.in-Ok.entries.items c.in_ok-answer.answer c.in_ok-is_open.is_open
    (reaches_told g.S.Store (KnownOpen id c.in_ok-is_open.is_open) c.args.scheduler.now b c.is_open.ensures.crash c.in_ok-is_open.ensures.told c.is_open.ensures.kept)
    (reaches_told g.S.Store (KnownAnswer id c.in_ok-answer.answer) b d c.answer.ensures.crash c.in_ok-answer.ensures.told c.answer.ensures.kept)
    c.in-Ok.ensures.ok

pub returns-in-Err-clause-err : goal.returns-in-Err-clause-err
returns-in-Err-clause-err g c =
    let id = c.args.id.now in
    let b = c.is_open.new.self in
    let d = c.answer.new.self in
    unknown_third g.S.Store id c.args.scheduler.now b d c.shown_entries.new.scheduler c.in-Err.refusal c.in_ok-is_open.is_open c.in_ok-answer.answer
    (reaches_told g.S.Store (KnownOpen id c.in_ok-is_open.is_open) c.args.scheduler.now b c.is_open.ensures.crash c.in_ok-is_open.ensures.told c.is_open.ensures.kept)
    (reaches_told g.S.Store (KnownAnswer id c.in_ok-answer.answer) b d c.answer.ensures.crash c.in_ok-answer.ensures.told c.answer.ensures.kept)
    c.in-Err.ensures.err
