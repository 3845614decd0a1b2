-- What the row says is proved in `Joining`.
use Rattle.std.proofs.Common.{rules, ◌≡◌, true}
use Rattle.store_steps.specs.JoinedFrames.{can_join}
use Rattle.store_steps.proofs.Joining.{made_behind}
use Rattle.store_steps.proofs.joined.prepare_joined.Goals as goal

pub returns-in-Ok-decide_by_row-clause-made : goal.returns-in-Ok-decide_by_row-clause-made
returns-in-Ok-decide_by_row-clause-made g c clean events later store accepted same of =
    let joins : can_join c.args.frame ≡ true = search rules in
    made_behind later accepted c.args.id.now c.args.row of c.args.attempt c.in-Ok.is_awake c.args.frame c.in-Ok-decide_by_row.made joins (c.in-Ok.ensures.told clean events later store accepted same of)
    c.in-Ok-decide_by_row.ensures.ok
