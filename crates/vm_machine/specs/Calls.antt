-- What a call does that puts one command, in every state of the machine.
use Rattle.std.specs.Prelude.{◌≡◌, ℕ, Bool, true, false, List, Option, Some, None, Result}
use Rattle.journal_model.specs.History.{completions_of}
use Rattle.journal_model.specs.Notification.{Text}
use Rattle.journal_model.specs.Refusal.{milliseconds, first_refusal, moment_tests, refusal_of}
use Rattle.journal_model.specs.Run.{Invocation}
use Rattle.journal_model.specs.declared.call.Answer.{Answer}
use Rattle.journal_model.specs.declared.call.Call.{Call}
use Rattle.journal_model.specs.declared.call.Moment.{Moment}
use Rattle.attempt_model.specs.Machine.{Machine}
use Rattle.protocol_errors.specs.declared.error.Error.{Error}
use Rattle.protocol_types.specs.Version.{version_number}
use Rattle.protocol_types.specs.declared.version.Version.{Version}
use Rattle.protocol_types.specs.declared.message_type.MessageType.{MessageType}
use Rattle.vm_calls.specs.Active.{Sees, IsAtCommand}
use Rattle.vm_calls.specs.CommandCalls.{MakesCommand}
use Rattle.vm_calls.specs.SpentReplay.{IsSpent, FailsSpent}
use Rattle.vm_calls.specs.MismatchedCommands.{FindsAs}
use Rattle.vm_calls.specs.declared.call_error.CallError.{CallError}
use Rattle.vm_refusals.specs.Refusals.{refusal_meant}
use Rattle.vm_refusals.specs.declared.refusal_error.RefusalError.{RefusalError}
use Rattle.vm_types.specs.declared.options.NonDeterministicChecksOption.{NonDeterministicChecksOption}
use Rattle.vm_types.specs.declared.options.NonDeterministicChecksOption.TheVariants.{PayloadChecksDisabled, Enabled}
use Rattle.vm_machine.specs.CallAdmission.{IsElsewhere}
use Rattle.vm_machine.specs.CallAnswers.{Settles}
use Rattle.vm_machine.specs.Steps.{Steps}
use Rattle.vm_machine.specs.declared.machine_state.MachineState.{MachineState}

-- whether payloads are not compared
abbrev pub checks_off : NonDeterministicChecksOption → Bool
checks_off PayloadChecksDisabled = true
checks_off Enabled = false

-- the machine is one of this invocation: it speaks its version, and cancellations do there what they do here
pub record IsOf (given : Invocation) (vm : MachineState) : Type 0 where
  pub version : given.version ≡ version_number vm.version
  pub cancellation : given.options.implicit_cancellation ≡ vm.options.implicit_cancellation

-- why the call is refused in this version, if it is, and what its moment is called where that is out of bounds
abbrev pub IsRefusalOf : Version → Call → (event : List ℕ) → Option RefusalError → Type 0
IsRefusalOf version call event None = refusal_of (version_number version) call ≡ None
IsRefusalOf version call event (Some error) = (refusal_of (version_number version) call ≡ Some (refusal_meant error.refusal)) × (error.version ≡ version) × (error.event.now ≡ event)

module _ {M Taken : Type 0} (difference : M → M → List ℕ) (call : Call) (answer : Taken → Answer) (ty : MessageType) (name : Text) where
  -- The call is made as the abstract machine makes it, which was seen before; or the machine fails with why it is not. Where nothing
  -- recorded is left although it still replays, it finds no entry. An error is about this command, and tells of what is recorded next
  -- why it is not the call's.
  pub record IsMade (old : MachineState) (result : Result Taken Error) (new : MachineState) : Type 0 where
    pub made : Result Taken (CallError M)
    pub between : MachineState
    pub others : between ≡ record old { active = between.active }
    pub makes : (given : Invocation) (m : Machine) → IsOf given old → Sees given old.active m
        → MakesCommand (checks_off old.options.non_determinism_checks) given m call answer old.active made between.active
    pub spent : IsSpent old.active → FailsSpent (completions_of call) old.active made between.active
    pub found : FindsAs ty old.active made between.active
    pub told : IsAtCommand ty name old.active.journal between.active.journal
    pub settles : Settles difference made between result new

-- What stands before each call that puts one command, and then the call itself.
pub record Calls {M Taken : Type 0} (difference : M → M → List ℕ) (call : Call) (answer : Taken → Answer) (event : List ℕ) (ty : MessageType) (name : Text)
    (old : MachineState) (result : Result Taken Error) (new : MachineState) : Type 0 where
  pub refusal : Option RefusalError
  pub refuses : IsRefusalOf old.version call event refusal
  pub steps : Steps (IsMade difference call answer ty name) (IsElsewhere (completions_of call) ty name) refusal old result new

-- ---- moments

-- a moment in milliseconds, or why a call with it is refused
abbrev pub TellsMoment : Version → Moment → (event : List ℕ) → ℕ × Option RefusalError → Type 0
TellsMoment version moment event (time, None) = (first_refusal (moment_tests moment) ≡ None) × (time ≡ milliseconds moment)
TellsMoment version moment event (time, Some error) =
    (first_refusal (moment_tests moment) ≡ Some (refusal_meant error.refusal)) × (error.version ≡ version) × (error.event.now ≡ event)
