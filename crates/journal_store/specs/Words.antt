-- The words of the crates below that the contracts of this one share.
pub use Rattle.sqlite.specs.Held.{state}
pub use Rattle.sqlite.specs.State.{HasCleanDisk, Survives}
pub use Rattle.sql_tables.specs.QueryAnswers.{AreTablesKept}
pub use Rattle.store_live.specs.Attempts.{attempt_of}
pub use Rattle.store_live.specs.ChangedRoom.{AreAsBefore}
pub use Rattle.store_live_laws.specs.LiveAttempts.{has_number}
