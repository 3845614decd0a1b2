-- Schedules and their events, passed on, so that crates above name this one alone.
pub use Rattle.schedule_model.proofs.Applying.{schedules_grow}
pub use Rattle.schedule_model.proofs.Firsts.{with_same, with_twice}
pub use Rattle.schedule_model.proofs.Holding.{some_none, found_is, held_is, held_with, held_other_invocation}
