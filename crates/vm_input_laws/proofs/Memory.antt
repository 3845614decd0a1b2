-- Memory was refused: what a machine has failed with then.
use Rattle.std.proofs.Common.{◌≡◌, ◌⊎◌, inl, inr, true, false, true≢false, Result, Ok, Err, refl, ap, subst, ◌∙◌}
use Rattle.std.specs.declared.alloc.AllocError.{AllocError}
use Rattle.protocol_errors.specs.declared.error.Error.{Error}
use Rattle.protocol_types.specs.declared.version.Version.{Version}
use Rattle.vm_types.specs.declared.options.JournalMismatchRetryBehavior.{JournalMismatchRetryBehavior}
use Rattle.vm_machine.specs.Causes.{Unless}
use Rattle.vm_context.specs.Output.{Written}
use Rattle.vm_start.specs.FailureReport.{out_of_memory, ended, TellsFailureCause, FailsNow, FailsAs}
use Rattle.vm_start.specs.Phases.{kept_error}
use Rattle.vm_start.specs.declared.phase.Phase.{Phase}
use Rattle.vm_start.specs.declared.phase.Phase.TheVariants as phases
use Rattle.vm_feeding.specs.UnansweredFailure.{HasFailed}
use Rattle.vm_feeding.specs.InputBytes.{has_failed}
use Rattle.vm_machine.specs.declared.machine_state.MachineState.{MachineState}
use Rattle.vm_input_laws.specs.Memory.{FailsForMemory}
use Rattle.vm_input_laws.specs.Messages.{Unkept}

-- what is told of want of memory alone is no error
pub unless_refused : (Told : Error → Type 0) (cause : Result Error AllocError) → Unless true Told cause → (refused : AllocError) × (cause ≡ Err refused)
unless_refused Told (Ok error) h = absurd h
unless_refused Told (Err refused) h = (refused, refl)

-- one that had not failed fails now
fails_now : (version : Version) (asked : JournalMismatchRetryBehavior) (cause : Result Error AllocError) (phase : Phase) (output : Written) (answer : Error) (phase' : Phase) (output' : Written)
    → has_failed phase ≡ false → FailsAs version asked cause (kept_error phase) phase output answer phase' output' → FailsNow version asked cause output answer phase' output'
fails_now version asked cause (phases.Failed kept) output answer phase' output' well h = absurd (true≢false well)
fails_now version asked cause phases.WaitingStart output answer phase' output' well h = h
fails_now version asked cause (phases.WaitingReplayEntries left) output answer phase' output' well h = h
fails_now version asked cause phases.Active output answer phase' output' well h = h
fails_now version asked cause phases.Closed output answer phase' output' well h = h

module _ (cause : Result Error AllocError) (old new : MachineState) (refused : (refused : AllocError) × (cause ≡ Err refused)) (well : has_failed old.phase ≡ false) (h : HasFailed cause old new) where
  now : FailsNow old.version old.options.journal_mismatch_retry_behavior cause old.active.output h.answer new.phase new.active.output
  now = fails_now old.version old.options.journal_mismatch_retry_behavior cause old.phase old.active.output h.answer new.phase new.active.output well h.fails.fails

  told : (now.told ≡ out_of_memory) × (now.before ≡ old.active.output)
  told = subst (λ (c : Result Error AllocError). TellsFailureCause old.version old.options.journal_mismatch_retry_behavior c old.active.output now.told now.before) refused.1 now.tells

  pub fails_for_memory : FailsForMemory old new
  fails_for_memory = record { phase = now.phase_is ∙ ap (λ (error : Error). phases.Failed error) told.0; output = now.output ∙ ap ended told.1 }

  same_answer : (h.answer ≡ now.told) ⊎ (h.answer ≡ out_of_memory) → h.answer ≡ out_of_memory
  same_answer (inl same) = same ∙ told.0
  same_answer (inr same) = same

  -- and it answers that
  pub answers_memory : h.answer ≡ out_of_memory
  answers_memory = same_answer now.answers

-- nothing was written before
pub memory_over : (old between new : MachineState) → between.active.output ≡ old.active.output → FailsForMemory between new → FailsForMemory old new
memory_over old between new same h = record { phase = h.phase; output = h.output ∙ ap ended same }

pub unkept_fails : (old new : MachineState) → has_failed old.phase ≡ false → Unkept old new → FailsForMemory old new
unkept_fails old new well h =
    memory_over old h.between new h.output
    (fails_for_memory (Err h.lacks.refused) h.between new (h.lacks.refused, refl) (ap has_failed h.phase ∙ well) h.lacks.fails)
