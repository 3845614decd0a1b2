use Rattle.std.proofs.Common.{ap, ◌∙◌}
use Rattle.store_server.specs.Rows.{row_status}
use Rattle.store_server.proofs.ListedRows.{row_listed, row_unlisted}
use Rattle.store_server.proofs.rows.listed_row.Goals as goal

pub returns-in-Ok-clause-told : goal.returns-in-Ok-clause-told
returns-in-Ok-clause-told g c =
    row_listed g.S.Store c.args.store.now.live.attempts c.args.row c.args.store.now c.row_kind.new.store c.status_of-status.result c.in-Ok.answer (c.status_of-status.ensures ∙ ap (row_status c.args.row) c.is_attempt_live.ensures) c.in-Ok.ensures.told

pub returns-in-Err-clause-told : goal.returns-in-Err-clause-told
returns-in-Err-clause-told g c = row_unlisted g.S.Store c.args.store.now.live.attempts c.args.row c.args.store.now c.row_kind.new.store c.in-Err.refusal c.in-Err.ensures.told
