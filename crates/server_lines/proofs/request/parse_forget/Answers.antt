use Rattle.std.proofs.Common.{sym, ◌∙◌}
use Rattle.std.proofs.lemmas.Result.{err_from_is_err_and}
use Rattle.server_lines.proofs.Ids.{none_named, not_named, some_named}
use Rattle.server_lines.proofs.request.parse_forget.Goals as goal

pub returns-then-is_empty : goal.returns-then-is_empty
returns-then-is_empty c = none_named c.args.arguments.now (sym c.is_empty.ensures ∙ c.if-is_empty.true)

pub returns : goal.returns
returns c = some_named c.args.arguments.now c.in_ok-ids.ids (sym c.is_empty.ensures ∙ c.if-is_empty.false) c.in_ok-ids.ensures

pub returns-in_err-ids : goal.returns-in_err-ids
returns-in_err-ids c =
    let p = err_from_is_err_and c.from_residual.result c.from_residual.ensures.1 in
    rw (p.1, p.2) (not_named c.args.arguments.now c.in_err-ids.field-0.0 c.in_err-ids.ensures)
