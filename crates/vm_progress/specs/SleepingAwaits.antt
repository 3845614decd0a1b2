-- How an await goes on that waits behind the journal: a run is to be executed, it fails, it is suspended, or it stays.
use Rattle.std.specs.Prelude.{◌≡◌, ◌<◌, ℕ, Bool, true, false, length, [], codes, Option, Some, None, Result, Ok, Err}
use Rattle.protocol_errors.specs.Code.{internal, unsupported_feature}
use Rattle.protocol_errors.specs.Error.{plain_error}
use Rattle.protocol_errors.specs.FixedErrors.{fixed_code, fixed_text}
use Rattle.protocol_errors.specs.declared.error.Error.{Error}
use Rattle.protocol_errors.specs.declared.fixed.FixedError.{FixedError}
use Rattle.protocol_errors.specs.declared.fixed.FixedError.TheVariants.{Suspended, InputClosedWhileWaitingEphemeralNotifications}
use Rattle.protocol_stream.specs.ErrorText.{too_long_text}
use Rattle.protocol_stream.specs.declared.encoder.EncodingError.TheVariants.{PayloadTooLong, OutOfMemory}
use Rattle.vm_calls.specs.declared.active.Active.{Active}
use Rattle.vm_start.specs.declared.phase.Phase.TheVariants.{Closed}
use Rattle.vm_machine.specs.MachineFailure.{MachineFails}
use Rattle.vm_machine.specs.Causes.{TellsPlainError}
use Rattle.vm_machine.specs.Steps.{FailsBy}
use Rattle.vm_machine.specs.declared.machine_state.MachineState.{MachineState}
use Rattle.vm_types.specs.declared.answers.AwaitResponse.{AwaitResponse}
use Rattle.vm_types.specs.declared.answers.AwaitResponse.TheVariants.{WaitingExternalProgress, ExecuteRun}
use Rattle.vm_waiting.specs.SuspensionFrames.{Suspends, tells_awaiting, TellsIf}
use Rattle.vm_waiting.specs.WaitsFor.{awaited_ids, waits_for_any}
use Rattle.vm_waiting.specs.declared.suspending.TellError.{TellError}
use Rattle.vm_waiting.specs.declared.suspending.TellError.TheVariants.{TooDeep, Encoding}
use Rattle.vm_waiting.specs.declared.waits_for.WaitsFor.{WaitsFor}
use Rattle.vm_progress.specs.AwaitedRuns.{LooksForRun, run_for, is_executing_for, executes_any}
use Rattle.vm_progress.specs.declared.asleep.Sleep.{Sleep}
use Rattle.vm_progress.specs.declared.asleep.Sleep.TheVariants as sleeps

-- When it goes on so: it stays exactly while more input can come. Else it is suspended exactly where each read has its answer, and no run
-- of what is waited for is being executed.
abbrev pub SleepIs : Sleep → WaitsFor → MachineState → Type 0
SleepIs sleeps.Stays waits vm = vm.is_input_closed ≡ false
SleepIs sleeps.Unanswered waits vm = (vm.is_input_closed ≡ true) × (0 < length vm.reads.in_flight)
SleepIs sleeps.Proposal waits vm = (vm.is_input_closed ≡ true) × (vm.reads.in_flight ≡ []) × (is_executing_for waits vm.runs ≡ true)
SleepIs sleeps.Suspends waits vm = (vm.is_input_closed ≡ true) × (vm.reads.in_flight ≡ []) × (is_executing_for waits vm.runs ≡ false)

-- ---- how it fails

-- the machine fails for want of memory
abbrev pub LacksMemoryToAwait : (old : MachineState) → Error → (new : MachineState) → Type 0
LacksMemoryToAwait old answer new = FailsBy (λ told. ⊥) old answer new

-- of what no frame can tell
abbrev pub too_deep_error : Error
too_deep_error = plain_error unsupported_feature (codes "what is awaited is nested too deep to be told")

-- the machine fails with why what it waits for is not told, about no command
abbrev pub FailsUntold : TellError → (old : MachineState) → Error → (new : MachineState) → Type 0
FailsUntold TooDeep old answer new = MachineFails (Ok too_deep_error) old answer new
FailsUntold (Encoding PayloadTooLong) old answer new = FailsBy (TellsPlainError internal (Some too_long_text)) old answer new
FailsUntold (Encoding OutOfMemory) old answer new = LacksMemoryToAwait old answer new

abbrev pub fixed_error : FixedError → Error
fixed_error error = plain_error (fixed_code error) (fixed_text error)

-- the answer of a read cannot come
abbrev pub FailsUnanswered : (old : MachineState) → Error → (new : MachineState) → Type 0
FailsUnanswered old answer new = MachineFails (Ok (fixed_error InputClosedWhileWaitingEphemeralNotifications)) old answer new

-- ---- it stays

-- what is answered where it was told what is waited for, or did not need to be, and where it could not be
abbrev pub SettlesStay : (executing : Bool) → (told : Result (Unit {0}) TellError) → (old : MachineState) → Result AwaitResponse Error → (new : MachineState) → Type 0
SettlesStay executing (Ok done) old (Ok response) new = (response ≡ WaitingExternalProgress true executing) × (new ≡ old)
SettlesStay executing (Ok done) old (Err answer) new = ⊥
SettlesStay executing (Err error) old (Ok response) new = ⊥
SettlesStay executing (Err error) old (Err answer) new = FailsUntold error old answer new

-- it is told what is waited for, where that is to be told, by whether any run is being executed; answered is whether one of these is
pub record RemainsAsleep (waits : WaitsFor) (old : MachineState) (result : Result AwaitResponse Error) (new : MachineState) : Type 0 where
  pub told : Result (Unit {0}) TellError
  pub active : Active
  pub tells : TellsIf (tells_awaiting old.version old.options.awaiting_on_policy (executes_any old.runs) (waits_for_any waits)) (awaited_ids old.active waits) old.active told active
  pub settles : SettlesStay (is_executing_for waits old.runs) told (record old { active = active }) result new

-- ---- it is suspended

-- a machine whose suspension was written is closed, and has not failed
abbrev pub ClosesAs : (written : Result (Unit {0}) TellError) → (old : MachineState) → Error → (new : MachineState) → Type 0
ClosesAs (Ok done) old answer new = (answer ≡ fixed_error Suspended) × (new ≡ record old { phase = Closed })
ClosesAs (Err error) old answer new = FailsUntold error old answer new

pub record SuspendsWith (waits : WaitsFor) (old : MachineState) (answer : Error) (new : MachineState) : Type 0 where
  pub written : Result (Unit {0}) TellError
  pub active : Active
  pub suspends : Suspends old.version (awaited_ids old.active waits) old.active written active
  pub closes : ClosesAs written (record old { active = active }) answer new

-- ---- all of them

abbrev pub SleepsAs : Sleep → WaitsFor → (old : MachineState) → Result AwaitResponse Error → (new : MachineState) → Type 0
SleepsAs sleeps.Stays waits old result new = RemainsAsleep waits old result new
SleepsAs sleeps.Unanswered waits old (Ok response) new = ⊥
SleepsAs sleeps.Unanswered waits old (Err answer) new = FailsUnanswered old answer new
SleepsAs sleeps.Proposal waits old (Ok response) new = (response ≡ WaitingExternalProgress false true) × (new ≡ old)
SleepsAs sleeps.Proposal waits old (Err answer) new = ⊥
SleepsAs sleeps.Suspends waits old (Ok response) new = ⊥
SleepsAs sleeps.Suspends waits old (Err answer) new = SuspendsWith waits old answer new

-- it goes on as it is said, in the one case that is there
pub record SleepsOn (waits : WaitsFor) (old : MachineState) (result : Result AwaitResponse Error) (new : MachineState) : Type 0 where
  pub sleep : Sleep
  pub is : SleepIs sleep waits old
  pub goes_on : SleepsAs sleep waits old result new

-- a run is handed out, and nothing else has changed
pub record HandsOutRun (waits : WaitsFor) (handle : ℕ) (old new : MachineState) : Type 0 where
  pub looks : LooksForRun waits old.runs (Some handle) new.runs
  pub others : new ≡ record old { runs = new.runs }

abbrev pub SleepsWhere : (found : Option ℕ) → WaitsFor → (old : MachineState) → Result AwaitResponse Error → (new : MachineState) → Type 0
SleepsWhere (Some handle) waits old (Ok response) new = (response ≡ ExecuteRun handle) × HandsOutRun waits handle old new
SleepsWhere (Some handle) waits old (Err answer) new = ⊥
SleepsWhere None waits old result new = SleepsOn waits old result new

-- A run of what is waited for that is to be executed comes first: so nothing is suspended of which one is left.
abbrev pub Sleeps : WaitsFor → (old : MachineState) → Result AwaitResponse Error → (new : MachineState) → Type 0
Sleeps waits old result new = SleepsWhere (run_for waits old.runs) waits old result new
