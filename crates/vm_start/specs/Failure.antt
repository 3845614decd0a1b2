-- What an attempt fails with, and how its frame tells it.
use Rattle.std.specs.Prelude.{ℕ, ◌-◌, ◌/◌, ◌^◌, ◌==◌, ◌&&◌, if◌then◌else◌, min, List, [], ◌∷◌, Option, Some, None, option_map}
use Rattle.std.specs.declared.time.Duration.{Duration}
use Rattle.std.specs.Duration.{as_nanos}
use Rattle.protocol_types.specs.MessageType.{type_number}
use Rattle.protocol_types.specs.Feature.{has_feature}
use Rattle.protocol_types.specs.declared.feature.Feature.TheVariants as features
use Rattle.protocol_errors.specs.Code.{journal_mismatch}
use Rattle.protocol_errors.specs.declared.error.Error.{Error}
use Rattle.protocol_errors.specs.declared.error.ErrorBehavior.{ErrorBehavior}
use Rattle.protocol_errors.specs.declared.metadata.CommandMetadata.{CommandMetadata}
use Rattle.protocol_controls.specs.declared.error.ErrorMessage.{ErrorMessage}
use Rattle.vm_types.specs.declared.options.JournalMismatchRetryBehavior.{JournalMismatchRetryBehavior}

-- what is asked for where a journal does not match
abbrev pub asked_behavior : JournalMismatchRetryBehavior → ErrorBehavior
asked_behavior JournalMismatchRetryBehavior.Pause = ErrorBehavior.Pause
asked_behavior JournalMismatchRetryBehavior.FailTerminally = ErrorBehavior.Fail
asked_behavior JournalMismatchRetryBehavior.FollowRetryPolicy = ErrorBehavior.Retry

-- an error of a journal that does not match takes the behaviour that is asked for, in the versions that have behaviours
abbrev pub failed_with : ℕ → JournalMismatchRetryBehavior → Error → Error
failed_with version asked error =
    if (error.code.0 == journal_mismatch) && has_feature version features.ErrorBehavior then record error { behavior = asked_behavior asked } else error

-- a name that is empty is not told
abbrev pub name_where_some : List ℕ → Option (List ℕ)
name_where_some [] = None
name_where_some (byte ∷ bytes) = Some (byte ∷ bytes)

abbrev pub name_told : Option (List ℕ) → Option (List ℕ)
name_told None = None
name_told (Some name) = name_where_some name

abbrev pub told_name : Option CommandMetadata → Option (List ℕ)
told_name None = None
told_name (Some command) = name_told command.name

-- a delay in whole milliseconds; past 64 bits it is the greatest
abbrev pub told_delay : Duration → ℕ
told_delay delay = min (as_nanos delay / 1000000) (2 ^ 64 - 1)

abbrev pub behavior_number : ErrorBehavior → ℕ
behavior_number ErrorBehavior.Retry = 0
behavior_number ErrorBehavior.Pause = 1
behavior_number ErrorBehavior.Fail = 2

-- what is told of an error
abbrev pub told_error : Error → ErrorMessage
told_error error = record {
  code = error.code.0;
  message = error.message;
  related_command_index = option_map (λ (command : CommandMetadata). command.index) error.related_command;
  related_command_name = told_name error.related_command;
  related_command_type = option_map (λ (command : CommandMetadata). type_number command.ty) error.related_command;
  next_retry_delay = option_map told_delay error.next_retry_delay;
  behavior = behavior_number error.behavior;
}
