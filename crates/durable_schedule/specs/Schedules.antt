-- Schedules and their events, passed on, so that crates above name this one alone.
pub use Rattle.scheduler.specs.Schedules.event
pub use Rattle.scheduler.specs.Schedules.reply
pub use Rattle.scheduler.specs.Schedules.{Event, Reply, Turned, Scheduled, AppliesAll, Brings, HeldAttempt, Does, Applies, StateRow, event_refusal_name_of, state_row}
pub use Rattle.schedule_laws.specs.Schedules.refusal
pub use Rattle.schedule_laws.specs.Schedules.{FitsEvent}
