use Rattle.std.proofs.Common.{◌≡◌, ◌∙◌, List, [], ℕ, ap}
use Rattle.std.specs.Prelude.{bytes_eq}
use Rattle.std.specs.List.{list_any}
use Rattle.journal_model.specs.Attempt.{due}
use Rattle.store_refusals.specs.RefusalConditions.{IsRefused}
use Rattle.store_server.proofs.Asking.{is_among}
use Rattle.store_server.proofs.Reaching.{reaches_told}
use Rattle.store_server.proofs.asks.is_listed.Goals as goal

pub returns-in-Ok : goal.returns-in-Ok
returns-in-Ok g c =
    let id = c.args.id.now in
    let asked = c.due in
    let ids = c.in-Ok.ids.items in
    is_among g.S.Store id c.args.store.now asked.new.self ids c.contains-is_among.result
    (c.contains-is_among.ensures.value ∙ ap (λ (some : List (List ℕ)). list_any (λ other. bytes_eq other id) some) c.as_slice.ensures.value)
    (reaches_told g.S.Store c.args.store.now asked.new.self asked.ensures.crash asked.ensures.live (λ events. ids ≡ due events) c.in-Ok.ensures.told)

pub returns-in-Err : goal.returns-in-Err
returns-in-Err g c =
    let asked = c.due in
    reaches_told g.S.Store c.args.store.now asked.new.self asked.ensures.crash asked.ensures.live (λ events. IsRefused [] c.in-Err.refusal) c.in-Err.ensures.told
