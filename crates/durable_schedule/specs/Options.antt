-- What a program may set, and what the theorem asks of it, passed on, so that specs of it name this crate alone.
pub use Rattle.journal_model.specs.declared.call.PayloadOptions.{PayloadOptions}
pub use Rattle.journal_model.specs.declared.options.ImplicitCancellationOption.{ImplicitCancellationOption}
pub use Rattle.journal_model.specs.declared.options.RunOptions.{RunOptions}
pub use Rattle.journal_model.specs.declared.options.SignalDelivery.{SignalDelivery}
pub use Rattle.vm_types.specs.Options.{default_options, run_options}
pub use Rattle.vm_types.specs.declared.options.AwaitingOnPolicy.{AwaitingOnPolicy}
pub use Rattle.vm_types.specs.declared.options.JournalMismatchRetryBehavior.{JournalMismatchRetryBehavior}
pub use Rattle.vm_types.specs.declared.options.JournalReplay.{JournalReplay}
pub use Rattle.vm_types.specs.declared.options.NonDeterministicChecksOption.{NonDeterministicChecksOption}
pub use Rattle.vm_types.specs.declared.options.VMOptions.{VMOptions}
pub use Rattle.vm_refusals.specs.declared.retries.Factor.{Factor}
pub use Rattle.vm_refusals.specs.declared.retries.OnMaxAttempts.{OnMaxAttempts}
pub use Rattle.vm_refusals.specs.declared.retries.RetryPolicy.{RetryPolicy}
-- what the theorem asks of the options, and what it says the run of an invocation begins with by them
pub use Rattle.schedule_laws.specs.InvocationInRun.{ReplaysInLine, given_of}
