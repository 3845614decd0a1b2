-- The bodies of an attempt's runs, and what is kept of them, passed on, so that crates above name this one alone.
pub use Rattle.body_laws.specs.Bodies.{Body, Executor, executor_over, has_handle, bodies_of}
pub use Rattle.body_laws.specs.BodySimulation.{Among, BodiesStand, has_arrived, count_proposed}
pub use Rattle.replay_laws.specs.OutcomesInFlight.{outcomes_in}
pub use Rattle.replay_laws.specs.AttemptWithBodies.{reads_message, reads_messages, AreCached, outcome_frame}
pub use Rattle.journal_model.specs.declared.value.NonEmptyValue.{NonEmptyValue}
pub use Rattle.replay_laws.specs.Laws.{ReplaysStay, StaysReplayed, ReplaysStand, StandsReplayed, ReplaysTurn, TurnsReplayed}
pub use Rattle.replay_laws.specs.ReplayedAttempt.{requests_asked_by, CanReplay, ComesAsAsked, IsBehind, IsReplayed}
pub use Rattle.vm_attempt.specs.Bodies.{retried, exit_by_policy, by_policy}
pub use Rattle.vm_attempt.specs.declared.run_outcome.RunOutcome.{RunOutcome}
pub use Rattle.vm_proposals.specs.RunFailureCauses.{feature_name_of, run_told, with_delay, about, pausing}
pub use Rattle.vm_proposals.specs.ProposalEffects.{tried_before, proposal, proposal_message}
pub use Rattle.vm_refusals.specs.declared.runs.RunExitResult.{RunExitResult}
pub use Rattle.vm_refusals.specs.BodyExits.{ending, Outcome, Retry, Pause, feature_lacked}
pub use Rattle.vm_refusals.specs.RetryDecisions.{Tried, inherits}
pub use Rattle.vm_runs.specs.KeptBodies.{IsNew, KeepsBodies}
pub use Rattle.vm_runs.specs.Runs.{Runs, no_runs, run_at}
pub use Rattle.vm_runs.specs.declared.run.Run.{Run}
