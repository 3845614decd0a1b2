use Rattle.std.proofs.Common.{◌≡◌, ◌++◌}
use Rattle.std.specs.Prelude.{string_bytes}
use Rattle.store_reads.specs.OpenRequests.{open_requests}
use Rattle.store_server.specs.Rows.{end_line, open_requests_text}
use Rattle.store_server.proofs.Reaching.{knows_none, knows_so}
use Rattle.store_server.proofs.asks.requests.Goals as goal

pub returns-in-Ok : goal.returns-in-Ok
returns-in-Ok g c =
    let asked = c.open_requests in
    knows_so g.S.Store string_bytes c.format-text.result (λ asked. open_requests_text c.args.id asked ++ end_line) c.args.store.now asked.new.self asked.ensures.crash asked.ensures.live c.args.id (λ events asked. asked ≡ open_requests events c.args.id) c.in-Ok.requests.items
    (c.format-text.ensures.ok)
    c.in-Ok.ensures.told

pub returns-in-Err : goal.returns-in-Err
returns-in-Err g c =
    let asked = c.open_requests in
    knows_none g.S.Store string_bytes c.refused.result (λ asked. open_requests_text c.args.id asked ++ end_line) c.args.store.now asked.new.self asked.ensures.crash asked.ensures.live c.args.id (λ events asked. asked ≡ open_requests events c.args.id) c.in-Err.refusal c.refused.ensures c.in-Err.ensures.told
