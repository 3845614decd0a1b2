use Rattle.std.proofs.Common.{◌≡◌, ℕ, List, subst}
use Rattle.std.specs.Prelude.{IfOk, string_bytes}
use Rattle.store_reads.specs.DuePage.{due_after}
use Rattle.store_server.specs.RequestAnswers.{ids_line}
use Rattle.store_server.proofs.Reaching.{tells_none, tells_so}
use Rattle.store_server.proofs.asks.due_page.Goals as goal

pub returns-in-Ok : goal.returns-in-Ok
returns-in-Ok g c =
    let asked = c.due_after in
    tells_so g.S.Store string_bytes c.due_line-text.result ids_line c.args.store.now asked.new.self asked.ensures.crash asked.ensures.live (λ events ids. ids ≡ due_after events c.args.after.now c.args.most) c.in-Ok.ids.items
    (subst (λ (ids : List (List ℕ)). IfOk c.due_line-text.result (λ text. string_bytes text ≡ ids_line ids)) c.as_slice.ensures.value c.due_line-text.ensures)
    c.in-Ok.ensures.told

pub returns-in-Err : goal.returns-in-Err
returns-in-Err g c =
    let asked = c.due_after in
    tells_none g.S.Store string_bytes c.refused.result ids_line c.args.store.now asked.new.self asked.ensures.crash asked.ensures.live (λ events ids. ids ≡ due_after events c.args.after.now c.args.most) c.in-Err.refusal c.refused.ensures c.in-Err.ensures.told
