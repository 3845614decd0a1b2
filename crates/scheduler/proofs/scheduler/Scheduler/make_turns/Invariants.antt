-- What is performed from here on is performed behind the turns that were made.
use Rattle.std.proofs.Common.{false}
use Rattle.scheduler.specs.declared.outcome.Outcome.{Outcome}
use Rattle.scheduler.specs.declared.scheduler.Scheduler.{Scheduler}
use Rattle.scheduler.specs.Loop.{MakesTurns, PerformsSome}
use Rattle.scheduler.proofs.scheduler.Scheduler.make_turns.Given as goal

abbrev pub invariant-loop-left : goal.invariant-loop-left
invariant-loop-left g l =
    (told : Outcome) (last : Scheduler g.row.H.Denot g.row.S.Denot) (end : g.row.E.Denot)
    → PerformsSome g.S.Store g.E.Effects.executes g.H.Handler.next_call (MakesTurns l.id l.attempt l.left l.is_closed) told l.self l.effects last end
    → PerformsSome g.S.Store g.E.Effects.executes g.H.Handler.next_call (MakesTurns l.id l.attempt l.most false) told l.initial.self l.initial.effects last end

abbrev pub decreases-loop-left : goal.decreases-loop-left
decreases-loop-left g l = l.left
