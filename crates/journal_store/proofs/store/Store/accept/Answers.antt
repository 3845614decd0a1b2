use Rattle.std.proofs.Common.{arith, Ok}
use Rattle.sqlite.specs.Held.{state}
use Rattle.store_calls.specs.Calls.{Pushes}
use Rattle.journal_store.specs.Causes.{TriesFrameBehind, TriesFrameOf}
use Rattle.journal_store.proofs.OutputAcceptance.{accepts, accept_endures, accept_settled}
use Rattle.journal_store.proofs.Lasting.{kept_then}
use Rattle.journal_store.proofs.Causing.{frame_behind}
use Rattle.journal_store.proofs.store.Store.accept.Goals as goal

pub returns-in-Ok-clause-does : goal.returns-in-Ok-clause-does
returns-in-Ok-clause-does g c =
    accepts g.S.Store c.args.id.now c.args.attempt c.args.bytes.now c.args.self.now c.push.new.self c.take_all.new.store c.in-Ok.ensures.does c.take_all.result
    (λ clean. omega (arith, c.take_all.ensures.crash.clean, clean)) c.take_all.ensures.does

pub returns-in-Ok-clause-crash : goal.returns-in-Ok-clause-crash
returns-in-Ok-clause-crash g c =
    accept_endures g.S.Store c.args.id.now c.args.attempt c.args.bytes.now c.args.self.now c.push.new.self c.take_all.new.store c.in-Ok.ensures.does c.push.ensures.crash c.take_all.ensures.crash

pub returns-in-Ok-clause-settled : goal.returns-in-Ok-clause-settled
returns-in-Ok-clause-settled g c =
    accept_settled g.S.Store c.args.id.now c.args.attempt c.args.bytes.now c.args.self.now c.push.new.self c.take_all.new.store c.in-Ok.ensures.does
    c.take_all.result.replies.items c.take_all.result.refusal (λ clean. omega (arith, c.take_all.ensures.crash.clean, clean)) c.take_all.ensures.settled

pub returns-in-Ok-clause-kept_unanswered : goal.returns-in-Ok-clause-kept_unanswered
returns-in-Ok-clause-kept_unanswered g c none =
    kept_then (state g.S.Store c.args.self.now.connection) (state g.S.Store c.push.new.self.connection) (state g.S.Store c.take_all.new.store.connection)
    (λ clean. omega (arith, c.take_all.ensures.crash.clean, clean)) c.push.ensures.kept (c.take_all.ensures.kept none)

pub returns-in-Ok-clause-cause_of_frame : goal.returns-in-Ok-clause-cause_of_frame
returns-in-Ok-clause-cause_of_frame g c =
    let id = c.args.id.now in
    let bytes = c.args.bytes.now in
    let replies = c.take_all.result.replies.items in
    frame_behind g.S.Store (Pushes id c.args.attempt bytes (Ok tt)) (TriesFrameBehind id c.args.attempt replies) (TriesFrameOf id c.args.attempt bytes replies)
    c.args.self.now c.push.new.self c.take_all.new.store _ _ c.push.ensures.crash c.take_all.ensures.crash c.in-Ok.ensures.does (λ s m at event put tried. (m, put, tried)) c.take_all.result.refusal c.take_all.ensures.cause
