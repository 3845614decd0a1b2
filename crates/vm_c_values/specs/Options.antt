-- What numbers of a host stand for.
use Rattle.std.specs.Prelude.{ℕ, Bool, true, false, not, ◌==◌, bit_and, if◌then◌else◌}
use Rattle.journal_model.specs.declared.call.PayloadOptions.{PayloadOptions}
use Rattle.journal_model.specs.declared.options.ImplicitCancellationOption.{ImplicitCancellationOption}
use Rattle.journal_model.specs.declared.options.ImplicitCancellationOption.TheVariants.{Disabled, Enabled}
use Rattle.journal_model.specs.declared.options.SignalDelivery.{SignalDelivery}
use Rattle.journal_model.specs.declared.options.SignalDelivery.TheVariants.{Queued, Overwrite}
use Rattle.vm_types.specs.declared.options.AwaitingOnPolicy.{AwaitingOnPolicy}
use Rattle.vm_types.specs.declared.options.AwaitingOnPolicy.TheVariants.{SendAlways, DontSendWhenExecutingRun, DontSend}
use Rattle.vm_types.specs.declared.options.JournalMismatchRetryBehavior.{JournalMismatchRetryBehavior}
use Rattle.vm_types.specs.declared.options.JournalMismatchRetryBehavior.TheVariants.{Pause, FailTerminally, FollowRetryPolicy}
use Rattle.vm_types.specs.declared.options.JournalReplay.{JournalReplay}
use Rattle.vm_types.specs.declared.options.JournalReplay.TheVariants as replays
use Rattle.vm_types.specs.declared.options.NonDeterministicChecksOption.{NonDeterministicChecksOption}
use Rattle.vm_types.specs.declared.options.NonDeterministicChecksOption.TheVariants as checked
use Rattle.vm_types.specs.declared.options.VMOptions.{VMOptions}

-- any number but 0
abbrev pub is_set : ℕ → Bool
is_set number = not (number == 0)

abbrev pub payload_options : (unstable : ℕ) → PayloadOptions
payload_options unstable = record { unstable_serialization = is_set unstable }

-- ---- options of a machine: each bit is one that is not as usual

abbrev pub cancellation : ℕ → ImplicitCancellationOption
cancellation options = if is_set (bit_and options 1) then Disabled else Enabled (not (is_set (bit_and options 2))) (is_set (bit_and options 4))

abbrev pub checks : ℕ → NonDeterministicChecksOption
checks options = if is_set (bit_and options 8) then checked.PayloadChecksDisabled else checked.Enabled

abbrev pub awaiting : ℕ → AwaitingOnPolicy
awaiting options = if is_set (bit_and options 32) then DontSend else (if is_set (bit_and options 16) then SendAlways else DontSendWhenExecutingRun)

abbrev pub mismatch : ℕ → JournalMismatchRetryBehavior
mismatch options = if is_set (bit_and options 128) then FailTerminally else (if is_set (bit_and options 64) then Pause else FollowRetryPolicy)

abbrev pub replay : ℕ → JournalReplay
replay options = if is_set (bit_and options 256) then replays.Disabled else replays.Enabled

abbrev pub delivery : ℕ → SignalDelivery
delivery options = if is_set (bit_and options 512) then Overwrite else Queued

abbrev pub vm_options : (options fallback_random_seed : ℕ) → VMOptions
vm_options options fallback_random_seed = record {
  implicit_cancellation = cancellation options;
  non_determinism_checks = checks options;
  awaiting_on_policy = awaiting options;
  journal_mismatch_retry_behavior = mismatch options;
  journal_replay = replay options;
  signal_delivery = delivery options;
  fallback_random_seed = fallback_random_seed;
}
