-- Those that were gone on with so far, for which there is room.
use Rattle.std.proofs.Common.{◌≤◌, length, vec_len, vec_capacity}
use Rattle.scheduler.specs.DueAttempts.{GoesOnEach}
use Rattle.scheduler.proofs.scheduler.Scheduler.go_on_with_each.Given as goal

abbrev pub invariant-loop-id : goal.invariant-loop-id
invariant-loop-id g l = record {
  each : GoesOnEach g.S.Store g.W.Effects.executes g.W.Host.gives g.H.Handler.next_call l.now l.yielded l.outcomes.items
      (record { scheduler = l.initial.self; host = l.initial.host; waits = l.initial.waits }) (record { scheduler = l.self; host = l.host; waits = l.waits });
  count : vec_len l.outcomes ≤ length l.yielded;
  room : length l.fn.ids.items ≤ vec_capacity l.outcomes;
}
