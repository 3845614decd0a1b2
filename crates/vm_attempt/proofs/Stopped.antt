-- A machine that is not asked for calls has failed, or was closed.
use Rattle.std.proofs.Common.{◌≡◌, Bool, true, false, None, Result, Ok, Err, refl, subst}
use Rattle.std.specs.declared.alloc.AllocError.{AllocError}
use Rattle.protocol_errors.specs.declared.error.Error.{Error}
use Rattle.protocol_types.specs.declared.version.Version.{Version}
use Rattle.vm_context.specs.Output.{Written}
use Rattle.vm_start.specs.FailureReport.{FailsMachine}
use Rattle.vm_start.specs.declared.phase.Phase.{Phase}
use Rattle.vm_start.specs.declared.phase.Phase.TheVariants as phases
use Rattle.vm_feeding.specs.MachineQueries.{TellsReady}
use Rattle.vm_machine.specs.declared.machine_state.MachineState.{MachineState}
use Rattle.vm_feeding.specs.HostErrors.{IsErrorTold}
use Rattle.vm_types.specs.declared.options.JournalMismatchRetryBehavior.{JournalMismatchRetryBehavior}
use Rattle.vm_attempt.specs.Attempt.{has_stopped}

pub goes_on : (phase : Phase) (ready : Bool) → TellsReady phase (Ok ready) → false ≡ has_stopped phase
goes_on phases.WaitingStart ready is = refl
goes_on (phases.WaitingReplayEntries left) ready is = refl
goes_on phases.Active ready is = refl
goes_on phases.Closed ready is = absurd is
goes_on (phases.Failed kept) ready is = absurd is

pub stops : (phase : Phase) (answer : Error) → TellsReady phase (Err answer) → true ≡ has_stopped phase
stops phases.WaitingStart answer is = cc
stops (phases.WaitingReplayEntries left) answer is = cc
stops phases.Active answer is = cc
stops phases.Closed answer is = refl
stops (phases.Failed kept) answer is = refl

-- ---- a machine that was told an error

fails_ready : (version : Version) (asked : JournalMismatchRetryBehavior) (cause : Result Error AllocError) (old : Phase) (before : Written) (answer : Error) (new : Phase) (after : Written) (ready : Bool)
    → FailsMachine version asked cause old before answer new after → TellsReady new (Ok ready) → ⊥
fails_ready version asked cause phases.WaitingStart before answer new after ready fails is_ready = subst (λ (p : Phase). TellsReady p (Ok ready)) fails.phase_is is_ready
fails_ready version asked cause (phases.WaitingReplayEntries left) before answer new after ready fails is_ready = subst (λ (p : Phase). TellsReady p (Ok ready)) fails.phase_is is_ready
fails_ready version asked cause phases.Active before answer new after ready fails is_ready = subst (λ (p : Phase). TellsReady p (Ok ready)) fails.phase_is is_ready
fails_ready version asked cause phases.Closed before answer new after ready fails is_ready = subst (λ (p : Phase). TellsReady p (Ok ready)) fails.phase_is is_ready
fails_ready version asked cause (phases.Failed kept) before answer new after ready fails is_ready = subst (λ (p : Phase). TellsReady p (Ok ready)) fails.0 is_ready

-- it has failed
pub told_unready : (error : Error) (old new : MachineState) (ready : Bool) → IsErrorTold error None old new → TellsReady new.phase (Ok ready) → ⊥
told_unready error old new ready told is_ready =
    fails_ready old.version old.options.journal_mismatch_retry_behavior told.cause old.phase old.active.output told.fails.answer new.phase new.active.output ready told.fails.fails.fails is_ready
