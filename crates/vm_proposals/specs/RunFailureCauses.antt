-- Why a run's machine fails.
use Rattle.std.specs.Prelude.{ℕ, List, codes, Option, Some}
use Rattle.std.specs.declared.time.Duration.{Duration}
use Rattle.protocol_errors.specs.declared.metadata.CommandMetadata.{CommandMetadata}
use Rattle.protocol_errors.specs.Code.{internal, unsupported_feature}
use Rattle.protocol_errors.specs.Error.{plain_error}
use Rattle.protocol_errors.specs.Texts.{feature_text}
use Rattle.protocol_errors.specs.declared.error.Error.{Error}
use Rattle.protocol_errors.specs.declared.error.ErrorBehavior.{ErrorBehavior}
use Rattle.protocol_types.specs.Feature.{first_version}
use Rattle.protocol_types.specs.declared.feature.Feature.{Feature}
use Rattle.protocol_types.specs.declared.feature.Feature.TheVariants as features
use Rattle.protocol_types.specs.declared.message_type.MessageType.TheVariants.{RunCommand}
use Rattle.vm_machine.specs.Causes.{TellsPlainError}
use Rattle.vm_machine.specs.Steps.{FailsBy}
use Rattle.vm_machine.specs.declared.machine_state.MachineState.{MachineState}
use Rattle.vm_runs.specs.declared.run.Run.{Run}

-- the machine fails for want of memory
abbrev pub LacksMemoryToPropose : (old : MachineState) → Error → (new : MachineState) → Type 0
LacksMemoryToPropose old answer new = FailsBy (λ told. ⊥) old answer new

-- a handle of no run, or of one whose outcome was proposed, or taken
abbrev pub unknown_run_error : Error
unknown_run_error = plain_error internal (codes "The outcome of a run is proposed for a handle of no run")

-- what errors call the two features that an outcome can ask for
abbrev pub feature_name_of : Feature → List ℕ
feature_name_of features.FailureMetadata = codes "terminal error metadata"
feature_name_of _ = codes "pause"

-- the version lacks the feature; the error is about no command
abbrev pub IsUnsupported : Feature → (old : MachineState) → Error → (new : MachineState) → Type 0
IsUnsupported feature old answer new = FailsBy (TellsPlainError unsupported_feature (Some (feature_text (feature_name_of feature) old.version (first_version feature)))) old answer new

-- the command of a run, as an error names it: by its name, also where that is empty
abbrev pub run_told : Run → CommandMetadata
run_told run = record { index = run.command_index; ty = RunCommand; name = Some run.command_name }

-- the error of a body that is tried again: its delay is replaced, by one or by none
abbrev pub with_delay : Option Duration → Error → Error
with_delay delay error = record error { next_retry_delay = delay }

-- the same error, about a command
abbrev pub about : CommandMetadata → Error → Error
about command error = record error { related_command = Some command }

abbrev pub pausing : Error → Error
pausing error = record error { behavior = ErrorBehavior.Pause }
