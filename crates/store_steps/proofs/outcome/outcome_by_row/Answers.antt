use Rattle.std.proofs.Common.{refl}
use Rattle.store_steps.specs.declared.frame.FrameReply.TheVariants as replies
use Rattle.store_steps.specs.declared.frame.PreparedFrame.{PreparedFrame}
use Rattle.store_steps.proofs.Outcomes.{outcome_recorded, outcome_refused}
use Rattle.store_steps.proofs.outcome.outcome_by_row.Goals as goal

pub returns-in-Ok-clause-prepared : goal.returns-in-Ok-clause-prepared
returns-in-Ok-clause-prepared g c clean events store of attempt =
    let made : PreparedFrame = record { writes = c.in-Ok.field-0.writes; reply = replies.Recorded c.in-Ok.field-0.place; acknowledged = c.acknowledged_by-acknowledged.result } in
    outcome_recorded events store.accepted c.args.id.now c.args.row of c.args.completion c.args.brought c.args.is_acknowledged attempt
    c.in-Ok.field-0 (c.in-Ok.ensures.decided clean events store of) made refl refl c.acknowledged_by-acknowledged.ensures

pub returns-in-Err-clause-prepared : goal.returns-in-Err-clause-prepared
returns-in-Err-clause-prepared g c clean events store of attempt =
    outcome_refused events store.accepted c.args.id.now c.args.row of c.args.completion c.args.brought c.args.is_acknowledged attempt
    c.in-Err.why (c.in-Err.ensures.decided clean events store of)
