use Rattle.std.proofs.Common.{◌≡◌, ℕ, List, subst}
use Rattle.std.specs.Prelude.{IfOk, string_bytes}
use Rattle.store_model.specs.Progress.{last_error_of}
use Rattle.store_server.specs.RequestAnswers.{last_error_line, line_of}
use Rattle.store_server.proofs.Reaching.{knows_none, knows_so}
use Rattle.store_server.proofs.asks.error.Goals as goal

pub returns-in-Ok : goal.returns-in-Ok
returns-in-Ok g c =
    let asked = c.failure in
    knows_so g.S.Store string_bytes c.format-text.result last_error_line c.args.store.now asked.new.self asked.ensures.crash asked.ensures.live c.args.id.now (λ events error. error ≡ last_error_of events c.args.id.now) c.in-Ok.error
    (subst (λ (told : List ℕ). IfOk c.format-text.result (λ text. string_bytes text ≡ line_of told)) c.error_reply-reply.ensures c.format-text.ensures.ok)
    c.in-Ok.ensures.told

pub returns-in-Err : goal.returns-in-Err
returns-in-Err g c =
    let asked = c.failure in
    knows_none g.S.Store string_bytes c.refused.result last_error_line c.args.store.now asked.new.self asked.ensures.crash asked.ensures.live c.args.id.now (λ events error. error ≡ last_error_of events c.args.id.now) c.in-Err.refusal c.refused.ensures c.in-Err.ensures.told
