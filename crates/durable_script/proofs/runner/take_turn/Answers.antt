use Rattle.std.proofs.Common.{refl, subst}
use Rattle.durable_schedule.specs.Attempts.{RunOutcome}
use Rattle.durable_schedule.specs.Schedules.event
use Rattle.durable_script.proofs.SchedulerChanges.{Promised}
use Rattle.durable_script.proofs.Turning.{turn_not_taken, turn_taken}
use Rattle.durable_script.proofs.runner.take_turn.Goals as goal

pub returns-in-Ok : goal.returns-in-Ok
returns-in-Ok g c =
    let id = c.args.id.now in
    let n = c.args.attempt in
    let turn = c.take_turn in
    turn_taken g.S.Store id n c.args.outcome.now turn.result c.args.scheduler.now turn.new.self turn.ensures.store
    (subst (λ (given : RunOutcome). Promised g.S.Store (event.Turn id n given) turn.result c.args.scheduler.now turn.new.self) c.in-Ok.ensures.ok turn.ensures.does) turn.ensures.options

pub returns-in-Err : goal.returns-in-Err
returns-in-Err g c = turn_not_taken g.S.Store c.args.id.now c.args.attempt c.args.outcome.now _ c.args.scheduler.now c.in-Err.ensures.err refl
