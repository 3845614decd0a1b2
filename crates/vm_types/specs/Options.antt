-- The options of a virtual machine, and those of them that a run depends on.
use Rattle.std.specs.Prelude.{true, false}
use Rattle.journal_model.specs.declared.options.RunOptions.{RunOptions}
use Rattle.journal_model.specs.declared.options.ImplicitCancellationOption.{ImplicitCancellationOption}
use Rattle.journal_model.specs.declared.options.SignalDelivery.{SignalDelivery}
use Rattle.vm_types.specs.declared.options.VMOptions.{VMOptions}
use Rattle.vm_types.specs.declared.options.AwaitingOnPolicy.{AwaitingOnPolicy}
use Rattle.vm_types.specs.declared.options.NonDeterministicChecksOption.{NonDeterministicChecksOption}
use Rattle.vm_types.specs.declared.options.JournalMismatchRetryBehavior.{JournalMismatchRetryBehavior}
use Rattle.vm_types.specs.declared.options.JournalReplay.{JournalReplay}

abbrev pub default_options : VMOptions
default_options = record {
  implicit_cancellation = ImplicitCancellationOption.Enabled true false;
  non_determinism_checks = NonDeterministicChecksOption.Enabled;
  awaiting_on_policy = AwaitingOnPolicy.DontSendWhenExecutingRun;
  journal_mismatch_retry_behavior = JournalMismatchRetryBehavior.FollowRetryPolicy;
  journal_replay = JournalReplay.Enabled;
  signal_delivery = SignalDelivery.Queued;
  fallback_random_seed = 0;
}

-- the options that a run depends on
abbrev pub run_options : VMOptions → RunOptions
run_options options = record { implicit_cancellation = options.implicit_cancellation; signal_delivery = options.signal_delivery }
