use Rattle.std.proofs.Common.{◌≡◌, Some, ap, ◌∙◌}
use Rattle.store_tables.specs.declared.row.Closing.TheVariants as closing
use Rattle.store_server.proofs.AnswerKinds.{of_ended, of_failed, of_open}
use Rattle.store_server.proofs.rows.row_kind.Goals as goal

pub returns-in-Some-Ended-clause-told : goal.returns-in-Some-Ended-clause-told
returns-in-Some-Ended-clause-told g c = of_ended g.S.Store c.args.row.now c.ended_kind.result c.args.store.now c.ended_kind.new.store c.ended_kind.ensures.told

pub returns-in-Some-Failed-clause-told : goal.returns-in-Some-Failed-clause-told
returns-in-Some-Failed-clause-told g c =
    let way : c.in-Some-Failed.field-0 ≡ closing.Failed = rw c.in-Some-Failed.is at c.in-Some-Failed.field-0-is in
    of_failed g.S.Store c.args.row.now c.args.store.now (c.in-Some-Failed.is ∙ ap Some way)

pub returns-in-None-clause-told : goal.returns-in-None-clause-told
returns-in-None-clause-told g c = of_open g.S.Store c.args.row.now c.args.store.now c.in-None.is
