-- An error of the host.
use Rattle.std.specs.Prelude.{◌≡◌, ℕ, Bool, true, false, List, codes, Option, Some, None, Result, Ok, IfOk, OnErr}
use Rattle.std.specs.declared.alloc.AllocError.{AllocError}
use Rattle.protocol_differences.specs.declared.relationship.CommandRelationship.{CommandRelationship}
use Rattle.protocol_errors.specs.Code.{unsupported_feature}
use Rattle.protocol_errors.specs.Texts.{feature_text}
use Rattle.protocol_errors.specs.declared.error.Error.{Error}
use Rattle.protocol_errors.specs.declared.error.ErrorBehavior.{ErrorBehavior}
use Rattle.protocol_types.specs.Feature.{first_version, lacks_feature}
use Rattle.protocol_types.specs.Version.{version_number}
use Rattle.protocol_types.specs.declared.feature.Feature.TheVariants as features
use Rattle.protocol_types.specs.declared.version.Version.{Version}
use Rattle.vm_context.specs.Journal.{JournalCounts, command_told, copies_name}
use Rattle.vm_feeding.specs.UnansweredFailure.{HasFailed}
use Rattle.vm_machine.specs.Causes.{TellsPlainError}
use Rattle.vm_machine.specs.declared.machine_state.MachineState.{MachineState}

-- whether an error has a behaviour that the version cannot tell: that of being retried is what one has where none is told
abbrev pub lacks_behavior : Version → ErrorBehavior → Bool
lacks_behavior version ErrorBehavior.Retry = false
lacks_behavior version _ = lacks_feature (version_number version) features.ErrorBehavior

abbrev pub behavior_text : Version → List ℕ
behavior_text version = feature_text (codes "error behavior") version (first_version features.ErrorBehavior)

-- the error, about the command that is named, if one is; memory is asked for the copy of a name alone
abbrev pub RelatedCauses : JournalCounts → Error → Option CommandRelationship → Result Error AllocError → Type 0
RelatedCauses journal error None cause = cause ≡ Ok error
RelatedCauses journal error (Some relationship) cause =
    IfOk cause (λ told. told ≡ record error { related_command = Some (command_told journal relationship) }) × OnErr cause (copies_name journal relationship ≡ true)

abbrev pub CausesWhere : (lacks : Bool) → Version → JournalCounts → Error → Option CommandRelationship → Result Error AllocError → Type 0
CausesWhere true version journal error relationship cause = IfOk cause (TellsPlainError unsupported_feature (Some (behavior_text version)))
CausesWhere false version journal error relationship cause = RelatedCauses journal error relationship cause

-- what the machine fails with
abbrev pub HostCauses : Version → JournalCounts → Error → Option CommandRelationship → Result Error AllocError → Type 0
HostCauses version journal error relationship cause = CausesWhere (lacks_behavior version error.behavior) version journal error relationship cause

pub record IsErrorTold (error : Error) (relationship : Option CommandRelationship) (old new : MachineState) : Type 0 where
  pub cause : Result Error AllocError
  pub causes : HostCauses old.version old.active.journal error relationship cause
  pub fails : HasFailed cause old new
