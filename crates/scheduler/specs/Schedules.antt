-- Schedules and their events, passed on, so that crates above name this one alone.
pub use Rattle.schedule_model.specs.Names.{event_refusal_name_of}
pub use Rattle.schedule_model.specs.Schedule.{Scheduled, Applies, AppliesAll, Brings, Does}
pub use Rattle.schedule_model.specs.declared.event.Event.TheVariants as event
pub use Rattle.schedule_model.specs.declared.event.Event.{Event}
pub use Rattle.schedule_model.specs.declared.event.Reply.TheVariants as reply
pub use Rattle.schedule_model.specs.declared.event.Reply.TheVariants.{Turned}
pub use Rattle.schedule_model.specs.declared.event.Reply.{Reply}
pub use Rattle.schedule_model.specs.declared.held.HeldAttempt.{HeldAttempt}
-- the rows in which the state of an object is told
pub use Rattle.store_tables.specs.declared.row.StateRow.{StateRow}
pub use Rattle.store_model.specs.KeptRecords.{state_row}
