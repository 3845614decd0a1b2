-- What a machine is that is made of a request, and why none is made.
use Rattle.std.specs.Prelude.{◌≡◌, ℕ, true, false, List, [], ◌∷◌, Option, None, Result, Ok, Err}
use Rattle.std.specs.declared.alloc.AllocError.{AllocError}
use Rattle.protocol_errors.specs.Code.{internal}
use Rattle.protocol_errors.specs.Error.{plain_error}
use Rattle.protocol_errors.specs.FixedErrors.{fixed_code, fixed_text}
use Rattle.protocol_errors.specs.declared.error.Error.{Error}
use Rattle.protocol_errors.specs.declared.fixed.FixedError.TheVariants as fixed
use Rattle.protocol_types.specs.Version.{version_content_type}
use Rattle.protocol_types.specs.declared.version.Version.{Version}
use Rattle.vm_types.specs.Reads.{no_reads}
use Rattle.vm_start.specs.FailureReport.{or_out_of_memory, out_of_memory}
use Rattle.vm_start.specs.declared.phase.Phase.TheVariants.{WaitingStart}
use Rattle.vm_machine.specs.Causes.{TellsPlainError, Unless}
use Rattle.vm_machine.specs.StartReceipt.{IsFresh}
use Rattle.vm_machine.specs.declared.machine_state.MachineState.{MachineState}
use Rattle.vm_start.specs.Negotiation.{Negotiates, negotiation_code, negotiation_text, content_type}
use Rattle.vm_start.specs.declared.negotiation.NegotiationError.{NegotiationError}
use Rattle.vm_start.specs.declared.negotiation.NegotiationError.TheVariants.{MissingContentType, OutOfMemory}
use Rattle.attempt_model.specs.Machine.{Machine}
use Rattle.body_laws.specs.Bodies.{executor_over}
use Rattle.vm_runs.specs.KeptBodies.{KeepsBodies}
use Rattle.vm_runs.specs.Runs.{no_runs}
use Rattle.vm_types.specs.declared.answers.ResponseHead.{ResponseHead}
use Rattle.vm_types.specs.declared.options.VMOptions.{VMOptions}

-- why no machine is made of a request; that its header is missing takes no memory to tell
abbrev pub RefusalCauses : {E : Type 0} → NegotiationError E → Result Error AllocError → Type 0
RefusalCauses OutOfMemory cause = Unless true (TellsPlainError internal None) cause
RefusalCauses MissingContentType cause = cause ≡ Ok (plain_error (fixed_code fixed.MissingContentType) (fixed_text fixed.MissingContentType))
RefusalCauses refused cause = Unless false (TellsPlainError (negotiation_code refused) (negotiation_text refused)) cause

pub record Refuses {E : Type 0} (refused : NegotiationError E) (error : Error) : Type 0 where
  pub cause : Result Error AllocError
  pub causes : RefusalCauses refused cause
  pub error_is : error ≡ or_out_of_memory cause

-- nothing has come, was asked for or written
pub record IsNew (version : Version) (options : VMOptions) (vm : MachineState) : Type 0 where
  pub version_is : vm.version ≡ version
  pub options_are : vm.options ≡ options
  pub decoder : vm.decoder ≡ []
  pub opened : vm.is_input_closed ≡ false
  pub start : vm.start ≡ None
  pub phase : vm.phase ≡ WaitingStart
  pub active : IsFresh version options.signal_delivery vm.active
  pub reads : vm.reads ≡ no_reads
  -- no run was called, whatever machine is seen
  pub runs : vm.runs ≡ no_runs
  pub bodies : (m : Machine) → KeepsBodies vm.runs (executor_over m)

abbrev pub IsMachineMade : Version → VMOptions → Result MachineState Error → Type 0
IsMachineMade version options (Ok vm) = IsNew version options vm
IsMachineMade version options (Err error) = error ≡ out_of_memory

-- of the version that is spoken a machine is made
abbrev pub BeginsAs : {E : Type 0} → Result Version (NegotiationError E) → VMOptions → Result MachineState Error → Type 0
BeginsAs (Ok version) options result = IsMachineMade version options result
BeginsAs (Err refused) options (Err error) = Refuses refused error
BeginsAs (Err refused) options (Ok vm) = ⊥

-- A machine is made of a request whose content type says this, or none is.
pub record BeginsMachine (E : Type 0) (Fails : E → Type 0) (text : Option (List ℕ)) (options : VMOptions) (result : Result MachineState Error) : Type 0 where
  pub negotiated : Result Version (NegotiationError E)
  pub negotiates : Negotiates Fails text negotiated
  pub begins : BeginsAs negotiated options result

-- how the response begins
abbrev pub head_of : Version → ResponseHead
head_of version = record {
  status_code = 200;
  headers = record { key = content_type; value = version_content_type version } ∷ [];
  version = version;
}
