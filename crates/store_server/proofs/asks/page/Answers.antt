use Rattle.std.proofs.Common.{[]}
use Rattle.store_refusals.specs.RefusalConditions.{IsRefused}
use Rattle.store_server.proofs.Pages.{page_told}
use Rattle.store_server.proofs.Reaching.{reaches_told}
use Rattle.store_server.proofs.asks.page.Goals as goal

pub returns-in-Ok : goal.returns-in-Ok
returns-in-Ok g c =
    let asked = c.invocations in
    page_told g.S.Store c.args.after.now c.args.most c.in-Ok.rows.items c.args.store.now asked.new.self asked.ensures.crash asked.ensures.live c.in-Ok.ensures.told
    c.listed.new.store _ c.listed.ensures

pub returns-in-Err : goal.returns-in-Err
returns-in-Err g c =
    let asked = c.invocations in
    reaches_told g.S.Store c.args.store.now asked.new.self asked.ensures.crash asked.ensures.live (λ events. IsRefused [] c.in-Err.refusal) c.in-Err.ensures.told
