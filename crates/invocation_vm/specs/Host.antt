-- What a host does with an attempt, what it may feed it, and what follows: passed on, so that who embeds the machine names this crate alone.
pub use Rattle.vm_attempt_laws.specs.HostedAttempt.{AreNext, AttemptsFollow, Brought, CanBeHosted, Closed, ClosesSo, Fed, FollowsHost, Hosted, hosted_begun, HostStep, MayBeBrought, requests_asked, Taken, Turned, TurnsSo, WritesWhere}
pub use Rattle.vm_attempt_laws.specs.TurnReports.{arrivals_told, Told, TurnTellsNow}
pub use Rattle.vm_attempt_laws.specs.ArrivalsCome.{HasJournal}
pub use Rattle.vm_attempt_laws.specs.Attempts.{Turn}
pub use Rattle.vm_attempt_laws.specs.Bodies.{RunOutcome}
pub use Rattle.vm_attempt_laws.specs.OutputOfAttempt.{frame_meant, Sent}
pub use Rattle.vm_attempt_laws.specs.Words.{AttemptStart, Frame, Handler, Request, Version}
