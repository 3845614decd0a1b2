use Rattle.std.proofs.Common.{◌≡◌, ◌≤◌, ◌+◌, ◌-◌, ℕ}
use Rattle.durable_script.specs.Line.{TurnsGoOn}
use Rattle.durable_script.specs.SchedulerChanges.{Reaches, Nowhere}
use Rattle.durable_script.proofs.runner.take_turns.Given as goal

abbrev pub invariant-loop-taken : goal.invariant-loop-taken
invariant-loop-taken g l = record {
  before : ℕ;
  taken : l.taken ≡ before + 1;
  within : l.taken ≤ l.count;
  gone_on : Reaches g.S.Store Nowhere (TurnsGoOn l.id l.attempt l.outcome before) l.fn.scheduler l.scheduler;
}

abbrev pub decreases-loop-taken : goal.decreases-loop-taken
decreases-loop-taken g l = l.count - l.taken
