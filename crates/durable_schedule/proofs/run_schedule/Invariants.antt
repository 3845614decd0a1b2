use Rattle.std.proofs.Common.{◌≡◌, ◌≤◌, length, vec_len, vec_capacity}
use Rattle.std.specs.List.{AllByRecursion}
use Rattle.schedule_laws.specs.Schedules.{FitsEvent}
use Rattle.journal_store.specs.StoreStanding.{Endures}
use Rattle.durable_schedule.specs.Causes.{TellsCauses}
use Rattle.durable_schedule.specs.Runs.{AppliesFirst}
use Rattle.durable_schedule.proofs.Running.{LeadsFirst}
use Rattle.durable_schedule.proofs.Written.{LeavesAnswered}
use Rattle.durable_schedule.proofs.run_schedule.Given as goal

abbrev pub invariant-loop-event : goal.invariant-loop-event
invariant-loop-event g l = record {
  applies : LeadsFirst g.H.Handler.next_call l.fn.options g.S.Store l.yielded l.replies.items l.fn.store l.scheduler;
  causes : TellsCauses g.S.Store g.H.Handler.next_call l.fn.options l.yielded l.replies.items l.fn.store l.scheduler;
  fits : AllByRecursion FitsEvent l.yielded;
  crash : Endures g.S.Store (AppliesFirst g.H.Handler.next_call l.fn.options l.yielded) l.fn.store l.scheduler.store;
  written : LeavesAnswered g.H.Handler.next_call l.fn.options g.S.Store l.yielded l.replies.items l.fn.store l.scheduler.store;
  options : l.scheduler.options ≡ l.fn.options;
  count : vec_len l.replies ≡ length l.yielded;
  room : length l.fn.events.items ≤ vec_capacity l.replies;
}
