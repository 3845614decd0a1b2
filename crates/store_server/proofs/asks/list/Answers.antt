use Rattle.std.proofs.Common.{◌≡◌, ◌++◌, map, Some, Ok, Err}
use Rattle.std.specs.Prelude.{string_bytes}
use Rattle.store_reads.specs.Page.{invocations_after}
use Rattle.store_server.specs.Rows.{all_listed_text, end_line, listed_of}
use Rattle.store_server.specs.StoreChanges.{CommitsNothing, Tells}
use Rattle.store_server.proofs.Reaching.{answers}
use Rattle.store_server.proofs.asks.list.Goals as goal

pub returns-in-Ok : goal.returns-in-Ok
returns-in-Ok g c =
    let reached = c.in-Ok.ensures in
    answers g.S.Store string_bytes c.format-text.result (λ listed. all_listed_text listed ++ end_line) (Ok c.in-Ok.invocations.items) c.args.store.now c.page.new.store c.format-text.ensures.ok
    (Tells (λ events listed. listed ≡ map (listed_of events) (invocations_after events (Some c.args.after.now) c.args.most))) CommitsNothing reached.crash reached.leads

pub returns-in-Err : goal.returns-in-Err
returns-in-Err g c =
    let reached = c.in-Err.ensures in
    answers g.S.Store string_bytes c.refused.result (λ listed. all_listed_text listed ++ end_line) (Err c.in-Err.refusal) c.args.store.now c.page.new.store c.refused.ensures
    (Tells (λ events listed. listed ≡ map (listed_of events) (invocations_after events (Some c.args.after.now) c.args.most))) CommitsNothing reached.crash reached.leads
