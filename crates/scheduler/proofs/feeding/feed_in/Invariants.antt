-- What went to the attempt so far. Each part adds bytes.
use Rattle.std.proofs.Common.{◌≤◌, ◌-◌}
use Rattle.journal_store.specs.StoreStanding.{IsQuiet, Leads}
use Rattle.schedule_model.specs.Lends.{held_as}
use Rattle.scheduler.proofs.Parts.{HasFed}
use Rattle.scheduler.proofs.feeding.feed_in.Given as goal

abbrev pub invariant-loop-len : goal.invariant-loop-len
invariant-loop-len g l = record {
  within : l.fed ≤ l.count;
  fed : Leads g.S.Store (HasFed l.count (held_as l.invocation l.number l.initial.attempt) l.fed l.attempt) l.initial.store l.store;
  quiet : IsQuiet g.S.Store l.initial.store l.store;
}

abbrev pub decreases-loop-len : goal.decreases-loop-len
decreases-loop-len g l = l.count - l.fed
