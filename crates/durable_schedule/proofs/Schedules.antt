-- Schedules and their events, passed on, so that crates above name this one alone.
pub use Rattle.schedule_laws.proofs.Schedules.{schedules_grow}
