-- What stands before each call.
use Rattle.std.specs.Prelude.{◌≡◌, ◌⊎◌, ℕ, Bool, true, false, List, Option, Some, None, Result, IfOk}
use Rattle.std.specs.declared.alloc.AllocError.{AllocError}
use Rattle.journal_model.specs.Notification.{Text}
use Rattle.protocol_differences.specs.declared.relationship.CommandRelationship.TheVariants.{Last}
use Rattle.protocol_errors.specs.declared.metadata.CommandMetadata.{CommandMetadata}
use Rattle.protocol_errors.specs.Code.{internal}
use Rattle.protocol_errors.specs.declared.error.Error.{Error}
use Rattle.protocol_types.specs.TypeText.{type_text}
use Rattle.protocol_types.specs.declared.message_type.MessageType.{MessageType}
use Rattle.protocol_types.specs.declared.version.Version.{Version}
use Rattle.vm_machine.specs.Causes.{TellsPlainError}
use Rattle.vm_start.specs.declared.phase.Phase.TheVariants as phases
use Rattle.vm_calls.specs.declared.active.Active.{Active}
use Rattle.vm_calls.specs.Active.{LacksCompletions, HasCompletions, asking}
use Rattle.vm_start.specs.FailureReport.{IsCopy}
use Rattle.vm_start.specs.Phases.{kept_error, unexpected_error}
use Rattle.vm_start.specs.declared.phase.Phase.{Phase}
use Rattle.vm_context.specs.Journal.{no_id_text, command_told}
use Rattle.vm_refusals.specs.Refusals.{refusal_code, refusal_text}
use Rattle.vm_refusals.specs.declared.refusal.CallRefusal.{CallRefusal}
use Rattle.vm_refusals.specs.declared.refusal_error.RefusalError.{RefusalError}
use Rattle.vm_machine.specs.MachineFailure.{MachineFails}
use Rattle.vm_machine.specs.declared.admitting.Admission.{Admission}
use Rattle.vm_machine.specs.declared.admitting.Admission.TheVariants.{Admitted, Elsewhere, Stopped}
use Rattle.vm_machine.specs.declared.machine_state.MachineState.{MachineState}

-- whether calls are made of it
abbrev pub is_active : Phase → Bool
is_active phases.Active = true
is_active _ = false

-- Why a call that takes so many completions is not made where no calls are made: a number is lacking, or none is, and there is no such
-- call in this phase.
abbrev pub MissedCauses : (taken : ℕ) → Phase → Active → (event : List ℕ) → Error → Type 0
MissedCauses taken phase active event told =
    (LacksCompletions taken active × TellsPlainError internal (Some no_id_text) told) ⊎ (HasCompletions taken active × (told ≡ unexpected_error phase active.is_replaying event))

-- an error of which this is known is told about this command
pub record IsAbout (command : CommandMetadata) (Causes : Error → Type 0) (told : Error) : Type 0 where
  pub plain : Error
  pub causes : Causes plain
  pub about : told ≡ record plain { related_command = Some command }

-- the error of a command that is asked for where no calls are made; it is about that command
abbrev pub ElsewhereCauses : (taken : ℕ) → Phase → Active → MessageType → Error → Type 0
ElsewhereCauses taken phase active ty told = IsAbout (command_told active.journal Last) (MissedCauses taken phase active (type_text ty)) told

-- the command, which takes so many completions, is counted, and the machine fails
pub record IsElsewhere (taken : ℕ) (ty : MessageType) (name : Text) (old : MachineState) (answer : Error) (new : MachineState) : Type 0 where
  pub cause : Result Error AllocError
  pub causes : IfOk cause (ElsewhereCauses taken old.phase (asking ty name old.active) ty)
  pub fails : MachineFails cause (record old { active = asking ty name old.active }) answer new

-- the machine fails with why the call is refused; no command is counted
pub record IsRefused (refusal : RefusalError) (old : MachineState) (answer : Error) (new : MachineState) : Type 0 where
  pub cause : Result Error AllocError
  pub causes : IfOk cause (TellsPlainError (refusal_code refusal.refusal) (Some (refusal_text refusal)))
  pub fails : MachineFails cause old answer new

-- One that has failed answers that again. Then a refusal is told; and then whether calls are made.
abbrev pub AdmitsWhere : (kept : Option Error) → Option RefusalError → (old : MachineState) → Admission → (new : MachineState) → Type 0
AdmitsWhere (Some kept) refusal old (Stopped answer) new = (new ≡ old) × IsCopy kept answer
AdmitsWhere None (Some refusal) old (Stopped answer) new = IsRefused refusal old answer new
AdmitsWhere None None old Admitted new = (is_active old.phase ≡ true) × (new ≡ old)
AdmitsWhere None None old Elsewhere new = (is_active old.phase ≡ false) × (new ≡ old)
AdmitsWhere kept refusal old admission new = ⊥

abbrev pub Admits : Option RefusalError → (old : MachineState) → Admission → (new : MachineState) → Type 0
Admits refusal old admission new = AdmitsWhere (kept_error old.phase) refusal old admission new

-- a refusal, with the version that is spoken, and with what the call's moment is called
abbrev pub Carries : Version → Option CallRefusal → (event : List ℕ) → Option RefusalError → Type 0
Carries version None event None = Unit {0}
Carries version None event (Some error) = ⊥
Carries version (Some refusal) event None = ⊥
Carries version (Some refusal) event (Some error) = (error.refusal ≡ refusal) × (error.version ≡ version) × (error.event.now ≡ event)
