-- A machine that fails while commands are made, behind nothing of the call that it fails in.
use Rattle.std.proofs.Common.{◌≡◌, ◌⊎◌, inl, inr, ◌∙◌, ◌==◌, ◌&&◌, if◌then◌else◌, Bool, false, List, [], ◌∷◌, ◌++◌, map, Result, Ok, Err, sym, ap, subst}
use Rattle.std.specs.declared.alloc.AllocError.{AllocError}
use Rattle.std.specs.List.{AllByRecursion}
use Rattle.protocol_types.specs.Feature.{has_feature}
use Rattle.protocol_types.specs.declared.feature.Feature.TheVariants as features
use Rattle.vm_machine.specs.MachineFailure.{MachineFails}
use Rattle.vm_start.specs.FailureReport.{IsCopy}
use Rattle.vm_start.specs.Failure.{asked_behavior, failed_with}
use Rattle.vm_types.specs.declared.options.JournalMismatchRetryBehavior.{JournalMismatchRetryBehavior}
use Rattle.vm_attempt_laws.specs.Bodies.{outcomes_in}
use Rattle.vm_attempt_laws.specs.AttemptInvariants.{FailsWith, IsNoFailure, TellsBy}
use Rattle.vm_attempt_laws.specs.Machine.phases
use Rattle.vm_attempt_laws.specs.Machine.{FailsNow, MachineState, out_of_memory, TellsError, TellsFailureCause, told_error, Written}
use Rattle.vm_attempt_laws.specs.OutputOfAttempt.{AllFit, Fails, frame_meant, Sent, sent_stream}
use Rattle.vm_attempt_laws.specs.Words.{Error, IsNote, journal_mismatch, Version, version_number}
use Rattle.vm_attempt_laws.proofs.Notes.{cause_tells, fails_now, TellsNotes}
use Rattle.vm_attempt_laws.proofs.Unfailed.{CauseAsksNoEnd, sent_open, told_open}

-- an error is what the machine fails with, and its frame alone is sent; or memory was refused
abbrev pub ToldBy : Version → JournalMismatchRetryBehavior → Written → Result Error AllocError → Error → List Sent → Type 0
ToldBy version asked old (Ok cause) error coming = (FailsWith (failed_with (version_number version) asked cause) old error × (coming ≡ Fails (told_error error) ∷ [])) ⊎ (error ≡ out_of_memory)
ToldBy version asked old (Err refused) error coming = error ≡ out_of_memory

pub record FailsAlone (version : Version) (asked : JournalMismatchRetryBehavior) (old : Written) (cause : Result Error AllocError) (error : Error) (new : MachineState) : Type 0 where
  pub coming : List Sent
  pub fit : AllFit version coming
  pub bytes : new.active.output.bytes ≡ old.bytes ++ sent_stream version coming
  pub notes : AllByRecursion IsNote (map (frame_meant version) coming)
  pub quiet : outcomes_in (map (frame_meant version) coming) ≡ []
  -- none ends the invocation where the cause asks for no end
  pub unfailed : CauseAsksNoEnd version asked cause → AllByRecursion IsNoFailure (map (frame_meant version) coming)
  pub kept : Error
  pub phase : new.phase ≡ phases.Failed kept
  pub copies : IsCopy kept error
  pub told : ToldBy version asked old cause error coming

-- an error that tells no mismatch keeps its behaviour
pub failed_same : (version : Version) (asked : JournalMismatchRetryBehavior) (error : Error) → (error.code.0 == journal_mismatch) ≡ false → failed_with (version_number version) asked error ≡ error
failed_same version asked error other = ap (λ (b : Bool). if b && has_feature (version_number version) features.ErrorBehavior then record error { behavior = asked_behavior asked } else error) other

module _ (error : Error) (old : Written) (told : Error) (new : Written) where
  tells_with : TellsError error old told new → FailsWith error old told ⊎ (told ≡ out_of_memory)
  tells_with (inl tells) = inl (inl tells.0)
  tells_with (inr (inl tells)) = inl (inr (tells.0, tells.1))
  tells_with (inr (inr tells)) = inr tells.0

  -- a copy of it is answered
  copied : (answer : Error) (coming : List Sent) → FailsWith error old told ⊎ (told ≡ out_of_memory) → TellsBy told coming → IsCopy told answer
      → (FailsWith error old answer × (coming ≡ Fails (told_error answer) ∷ [])) ⊎ (answer ≡ out_of_memory)
  copied answer coming fails tells (inr lacks) = inr lacks
  copied answer coming (inr lacks) tells (inl same) = inr (same ∙ lacks)
  copied answer coming (inl fails) (inr none) (inl same) = inr (same ∙ none.0)
  copied answer coming (inl fails) (inl frame) (inl same) =
      inl (subst (λ (e : Error). FailsWith error old e) (sym same) fails, frame ∙ ap (λ (e : Error). Fails (told_error e) ∷ []) (sym same))

told_by : (version : Version) (asked : JournalMismatchRetryBehavior) (cause : Result Error AllocError) (old : Written) (told : Error) (new : Written) (answer : Error) (coming : List Sent)
    → TellsFailureCause version asked cause old told new → TellsBy told coming → IsCopy told answer → ToldBy version asked old cause answer coming
told_by version asked (Ok error) old told new answer coming tells sends copy =
    copied (failed_with (version_number version) asked error) old told new answer coming (tells_with (failed_with (version_number version) asked error) old told new tells) sends copy
told_by version asked (Err refused) old told new answer coming tells sends copy = elim copy [ inl same ↦ same ∙ tells.0 | inr lacks ↦ lacks ]

-- the machine fails, whose output is the one before
pub fails_alone : (cause : Result Error AllocError) (old : MachineState) (answer : Error) (new : MachineState) → old.phase ≡ phases.Active → old.active.output.is_closed ≡ false
    → old.active.output.version ≡ old.version → MachineFails cause old answer new
    → FailsAlone old.version old.options.journal_mismatch_retry_behavior old.active.output cause answer new
fails_alone cause old answer new active opened of_version fails = record {
  coming = notes.coming;
  fit = subst (λ (v : Version). AllFit v notes.coming) of_version notes.fit;
  bytes = ap (λ (o : Written). o.bytes) now.output ∙ notes.written.bytes ∙ ap (λ (v : Version). old.active.output.bytes ++ sent_stream v notes.coming) of_version;
  notes = subst (λ (v : Version). AllByRecursion IsNote (map (frame_meant v) notes.coming)) of_version notes.notes;
  quiet = subst (λ (v : Version). outcomes_in (map (frame_meant v) notes.coming) ≡ []) of_version notes.quiet;
  unfailed = λ unended. subst (λ (v : Version). AllByRecursion IsNoFailure (map (frame_meant v) notes.coming)) of_version
      (sent_open old.active.output.version now.told notes.coming
      (told_open old.version old.options.journal_mismatch_retry_behavior cause old.active.output now.told now.before unended now.tells) notes.tells);
  kept = now.told;
  phase = now.phase_is;
  copies = now.answers;
  told = told_by old.version old.options.journal_mismatch_retry_behavior cause old.active.output now.told now.before answer notes.coming now.tells notes.tells now.answers;
}
  where
    now : FailsNow old.version old.options.journal_mismatch_retry_behavior cause old.active.output answer new.phase new.active.output
    now = fails_now cause old new active (record { answer = answer; fails = fails })

    notes : TellsNotes now.told old.active.output now.before
    notes = cause_tells old.version old.options.journal_mismatch_retry_behavior cause old.active.output now.told now.before opened now.tells
