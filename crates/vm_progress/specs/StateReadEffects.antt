-- What a read of the object's state does, in every phase of a machine.
use Rattle.std.specs.Prelude.{◌≡◌, ℕ, Bool, List, None, Result, Ok, Err}
use Rattle.std.specs.declared.alloc.AllocError.{AllocError}
use Rattle.journal_model.specs.Notification.{Text}
use Rattle.journal_model.specs.Run.{Invocation}
use Rattle.journal_model.specs.declared.call.Call.{Call}
use Rattle.attempt_model.specs.Machine.{Machine}
use Rattle.protocol_commands.specs.declared.get_eager_state_command.GetEagerStateCommandMessage.{GetEagerStateCommandMessage}
use Rattle.protocol_commands.specs.declared.get_eager_state_keys_command.GetEagerStateKeysCommandMessage.{GetEagerStateKeysCommandMessage}
use Rattle.protocol_commands.specs.declared.get_lazy_state_command.GetLazyStateCommandMessage.{GetLazyStateCommandMessage}
use Rattle.protocol_commands.specs.declared.get_lazy_state_keys_command.GetLazyStateKeysCommandMessage.{GetLazyStateKeysCommandMessage}
use Rattle.protocol_differences.specs.State.{get_lazy_state_command_difference, get_eager_state_command_difference, get_lazy_state_keys_command_difference, get_eager_state_keys_command_difference}
use Rattle.protocol_differences.specs.declared.relationship.CommandRelationship.TheVariants.{Next}
use Rattle.protocol_errors.specs.declared.error.Error.{Error}
use Rattle.protocol_errors.specs.declared.fixed.FixedError.{FixedError}
use Rattle.protocol_errors.specs.declared.fixed.FixedError.TheVariants.{EmptyGetEagerState, EmptyGetEagerStateKeys}
use Rattle.protocol_stream.specs.CommandType.{command_words}
use Rattle.protocol_stream.specs.declared.command_type.CommandType.{CommandType}
use Rattle.protocol_stream.specs.declared.command_type.CommandType.TheVariants.{GetState, GetStateKeys}
use Rattle.protocol_types.specs.declared.message_type.MessageType.{MessageType}
use Rattle.protocol_types.specs.declared.message_type.MessageType.TheVariants.{GetEagerStateCommand, GetLazyStateCommand, GetEagerStateKeysCommand, GetLazyStateKeysCommand}
use Rattle.vm_calls.specs.Active.{Sees}
use Rattle.vm_calls.specs.declared.active.Active.{Active}
use Rattle.vm_context.specs.Journal.{command_told}
use Rattle.vm_start.specs.declared.phase.Phase.{Phase}
use Rattle.vm_calls.specs.SpentReplay.{IsSpent}
use Rattle.vm_state_reads.specs.MismatchedReads.{FindsRead}
use Rattle.vm_state_reads.specs.ReadAnswers.{Reads}
use Rattle.vm_state_reads.specs.SpentReplay.{ReadFailsSpent}
use Rattle.vm_state_reads.specs.ReadDescriptions.{IsAtRead}
use Rattle.vm_state_reads.specs.declared.read_error.ReadError.{ReadError}
use Rattle.vm_machine.specs.CallAdmission.{MissedCauses, IsAbout}
use Rattle.vm_machine.specs.Calls.{checks_off, IsOf}
use Rattle.vm_machine.specs.MachineFailure.{MachineFails}
use Rattle.vm_machine.specs.Steps.{FailsBy, Steps}
use Rattle.vm_machine.specs.declared.machine_state.MachineState.{MachineState}
use Rattle.vm_progress.specs.Causes.{ReadCauses}

-- ---- where no calls are made

-- the error is about the command that would be asked for next
abbrev pub NextCauses : Phase → Active → CommandType → Error → Type 0
NextCauses phase active ty told = IsAbout (command_told active.journal (Next ty None)) (MissedCauses 1 phase active (command_words ty)) told

-- no command is counted, and the machine fails
abbrev pub MissesNext : CommandType → (old : MachineState) → Error → (new : MachineState) → Type 0
MissesNext ty old answer new = FailsBy (NextCauses old.phase old.active ty) old answer new

-- ---- where they are

module _ {L E : Type 0} (lazy_difference : L → L → List ℕ) (eager_difference : E → E → List ℕ) (empty : FixedError) where
  -- the machine fails with this error of a read
  pub record FailsReading (error : ReadError L E) (old : MachineState) (answer : Error) (new : MachineState) : Type 0 where
    pub cause : Result Error AllocError
    pub causes : ReadCauses lazy_difference eager_difference empty old.active.journal error cause
    pub fails : MachineFails cause old answer new

  abbrev pub SettlesRead : Result ℕ (ReadError L E) → (old : MachineState) → Result ℕ Error → (new : MachineState) → Type 0
  SettlesRead (Ok handle) old (Ok answer) new = (answer ≡ handle) × (new ≡ old)
  SettlesRead (Err error) old (Err answer) new = FailsReading error old answer new
  SettlesRead _ old _ new = ⊥

-- what the two reads differ in: their commands, of which answers are to come and were known, and how they are told
pub record ReadKind (L E : Type 0) : Type 0 where
  pub lazy_difference : L → L → List ℕ
  pub eager_difference : E → E → List ℕ
  pub lazy : MessageType
  pub eager : MessageType
  pub ty : CommandType
  -- of a recorded read whose answer was known, and is not there
  pub empty : FixedError

abbrev pub value_read : ReadKind GetLazyStateCommandMessage GetEagerStateCommandMessage
value_read = record {
  lazy_difference = get_lazy_state_command_difference;
  eager_difference = get_eager_state_command_difference;
  lazy = GetLazyStateCommand;
  eager = GetEagerStateCommand;
  ty = GetState;
  empty = EmptyGetEagerState;
}

abbrev pub keys_read : ReadKind GetLazyStateKeysCommandMessage GetEagerStateKeysCommandMessage
keys_read = record {
  lazy_difference = get_lazy_state_keys_command_difference;
  eager_difference = get_eager_state_keys_command_difference;
  lazy = GetLazyStateKeysCommand;
  eager = GetEagerStateKeysCommand;
  ty = GetStateKeys;
  empty = EmptyGetEagerStateKeys;
}

-- of this call; `known` says whether its answer is known behind the journal
module _ {L E : Type 0} (kind : ReadKind L E) (call : Call) (known : Active → Bool) (name : Text) where
  -- The read is made as the abstract machine makes it, which was seen before; or the machine fails with why it is not. An error is
  -- about this read, and tells of what is recorded next why it is not.
  pub record IsStateRead (old : MachineState) (result : Result ℕ Error) (new : MachineState) : Type 0 where
    pub made : Result ℕ (ReadError L E)
    pub between : MachineState
    pub others : between ≡ record old { active = between.active }
    pub reads : (given : Invocation) (m : Machine) → IsOf given old → Sees given old.active m
        → Reads (checks_off old.options.non_determinism_checks) given m call old.active made between.active
    -- where nothing recorded is left although it still replays
    pub spent : IsSpent old.active → ReadFailsSpent old.active made between.active
    pub found : FindsRead kind.eager kind.lazy old.active made between.active
    pub told : IsAtRead kind.eager kind.lazy old.active.is_replaying (known old.active) name old.active between.active
    pub settles : SettlesRead kind.lazy_difference kind.eager_difference kind.empty made between result new

  -- What stands before the read, and then the read itself.
  abbrev pub StepsOfRead : (old : MachineState) → Result ℕ Error → (new : MachineState) → Type 0
  StepsOfRead old result new = Steps IsStateRead (MissesNext kind.ty) None old result new
