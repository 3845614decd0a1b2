-- Schedules and their events, passed on, so that crates above name this one alone.
pub use Rattle.schedule_model.specs.First.{with_first}
pub use Rattle.schedule_model.specs.InputFeed.{given_in, IsAskedAgain, HandsOutEach, StopsHandingOut, FeedsEach, FeedsParts}
pub use Rattle.schedule_model.specs.ArgumentBounds.{FitsEvent}
pub use Rattle.schedule_model.specs.HeldAttempts.{is_held, held_of, with_attempt}
pub use Rattle.schedule_model.specs.LettingGo.{goes, is_among, left_of}
pub use Rattle.schedule_model.specs.Outcomes.{tells_mismatch}
pub use Rattle.schedule_model.specs.Schedule.{RepliesDone, RepliesPlace, RepliesCount, BeginDoes, IfHeld, UnlessMismatch, FeedsOne, ClosesOne, StopsOne, TurnsOne, MovesOne, Does, Brings, Scheduled, AppliesAll, Applies}
pub use Rattle.schedule_model.specs.declared.event.Event as scheduled
pub use Rattle.schedule_model.specs.declared.event.Event.TheVariants as event
pub use Rattle.schedule_model.specs.declared.event.Event.{Event}
pub use Rattle.schedule_model.specs.declared.event.EventRefusal.TheVariants as refusal
pub use Rattle.schedule_model.specs.declared.event.Reply.TheVariants as reply
pub use Rattle.schedule_model.specs.declared.event.Reply.{Reply}
pub use Rattle.schedule_model.specs.declared.held.HeldAttempt.{HeldAttempt}
