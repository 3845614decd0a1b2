-- What a machine that fails has written says nothing of requests, and so is of the run.
use Rattle.std.proofs.Common.{◌≡◌, ◌⊎◌, inl, inr, ◌∙◌, ℕ, ◌==◌, ◌&&◌, if◌then◌else◌, Bool, false, List, [], ◌∷◌, ◌++◌, append-nil, append_assoc, map, Option, Result, Ok, Err, refl, sym, ap, subst}
use Rattle.std.specs.List.{AllByRecursion}
use Rattle.std.specs.declared.alloc.AllocError.{AllocError}
use Rattle.live_laws.specs.TurnWrites.{nothing}
use Rattle.protocol_types.specs.Feature.{has_feature}
use Rattle.protocol_types.specs.declared.feature.Feature.TheVariants as features
use Rattle.vm_start.specs.Failure.{asked_behavior, failed_with}
use Rattle.vm_start.specs.Phases.{kept_error}
use Rattle.vm_types.specs.declared.options.JournalMismatchRetryBehavior.{JournalMismatchRetryBehavior}
use Rattle.vm_output_laws.specs.WrittenFrames.{Sends}
use Rattle.vm_output_laws.proofs.WrittenFrames.{frames_are_written}
use Rattle.vm_attempt_laws.specs.Attempts.{output_of, Attempt, Turn}
use Rattle.vm_attempt_laws.specs.Bodies.{outcomes_in}
use Rattle.vm_attempt_laws.specs.AttemptInvariants.{FailsWith, TellsBy}
use Rattle.vm_attempt_laws.specs.Machine.phases
use Rattle.vm_attempt_laws.specs.Machine.{Written, FailsNow, FailsAs, TellsFailureCause, TellsError, WritesError, out_of_memory, told_error, MachineState, HasFailed, IsCopy}
use Rattle.vm_attempt_laws.specs.AttemptSimulation.{AnswersKept}
use Rattle.vm_attempt_laws.specs.TurnsInRun.{IsTurnOf}
use Rattle.vm_attempt_laws.specs.OutputOfAttempt.{Sent, Fails, sent_stream, AllFit, frame_meant}
use Rattle.vm_attempt_laws.specs.Words.{journal_mismatch, Error, version_number, Version, Frame, Handler, IsNote, AttemptInRun, notes}

-- a turn that sends nothing
pub no_turn : (next : Handler) (is_closed : Bool) (live : AttemptInRun) → IsTurnOf next is_closed live []
no_turn next is_closed live = record { some = []; still = live.unread; parts = refl; bytes = refl; whole = λ suspension e. cc; writes = nothing }

-- and one that sends notes alone
pub note_turn : (next : Handler) (is_closed : Bool) (live : AttemptInRun) (frames : List Frame) → AllByRecursion IsNote frames → IsTurnOf next is_closed live frames
note_turn next is_closed live frames all = record {
  some = [];
  still = live.unread;
  parts = refl;
  bytes = refl;
  whole = λ suspension e. absurd (subst (AllByRecursion IsNote) e all).0;
  writes = notes frames all;
}

-- ---- what a machine tells that fails

-- calls were made of it
pub fails_now : (cause : Result Error AllocError) (old new : MachineState) → old.phase ≡ phases.Active → (failed : HasFailed cause old new)
    → FailsNow old.version old.options.journal_mismatch_retry_behavior cause old.active.output failed.answer new.phase new.active.output
fails_now cause old new active failed =
    subst (λ (kept : Option Error). FailsAs old.version old.options.journal_mismatch_retry_behavior cause kept old.phase old.active.output failed.answer new.phase new.active.output)
    (ap kept_error active) failed.fails.fails

-- frames that fit are behind what was written, and say nothing of requests
pub record TellsNotes (told : Error) (old new : Written) : Type 0 where
  pub coming : List Sent
  pub fit : AllFit old.version coming
  pub written : Sends coming old new
  pub notes : AllByRecursion IsNote (map (frame_meant old.version) coming)
  pub quiet : outcomes_in (map (frame_meant old.version) coming) ≡ []
  pub tells : TellsBy told coming

tells_none : (told : Error) (old new : Written) → told ≡ out_of_memory → new ≡ old → TellsNotes told old new
tells_none told old new lacks same = record {
  coming = [];
  fit = tt;
  written = record { version = ap (λ (w : Written). w.version) same; bytes = ap (λ (w : Written). w.bytes) same ∙ sym (append-nil old.bytes) };
  notes = tt;
  quiet = refl;
  tells = inr (lacks, refl);
}

tells_one : (error : Error) (old new : Written) → old.is_closed ≡ false → WritesError error old new → TellsNotes error old new
tells_one error old new opens writes =
    let one = frames_are_written.errors error old new opens writes in
    record { coming = Fails (told_error error) ∷ []; fit = (one.fits, tt); written = one.sends; notes = (tt, tt); quiet = refl; tells = inl refl }

tells_of : (error : Error) (old : Written) (told : Error) (new : Written) → old.is_closed ≡ false → TellsError error old told new → TellsNotes told old new
tells_of error old told new opens (inl tells) = tells_one told old new opens (subst (λ (e : Error). WritesError e old new) (sym tells.0) tells.1)
tells_of error old told new opens (inr (inl tells)) = tells_one told old new opens tells.2
tells_of error old told new opens (inr (inr tells)) = tells_none told old new tells.0 tells.1

pub cause_tells : (version : Version) (asked : JournalMismatchRetryBehavior) (cause : Result Error AllocError) (old : Written) (told : Error) (new : Written) → old.is_closed ≡ false
    → TellsFailureCause version asked cause old told new → TellsNotes told old new
cause_tells version asked (Ok error) old told new opens tells = tells_of (failed_with (version_number version) asked error) old told new opens tells
cause_tells version asked (Err refused) old told new opens tells = tells_none told old new tells.0 tells.1

-- an error that tells no mismatch keeps its behaviour, and is what the machine fails with
pub fails_with : (version : Version) (asked : JournalMismatchRetryBehavior) (error : Error) (old : Written) (told : Error) (new : Written) → (error.code.0 == journal_mismatch) ≡ false
    → TellsFailureCause version asked (Ok error) old told new → FailsWith error old told ⊎ (told ≡ out_of_memory)
fails_with version asked error old told new other tells =
    go (subst (λ (e : Error). TellsError e old told new)
    (ap (λ (b : Bool). if b && has_feature (version_number version) features.ErrorBehavior then record error { behavior = asked_behavior asked } else error) other) tells)
  where
    go : TellsError error old told new → FailsWith error old told ⊎ (told ≡ out_of_memory)
    go (inl tells) = inl (inl tells.0)
    go (inr (inl tells)) = inl (inr (tells.0, tells.1))
    go (inr (inr tells)) = inr tells.0

same_failed : (one other : Error) → phases.Failed one ≡ phases.Failed other → one ≡ other
same_failed one other e = cc

-- ---- what waits behind that

module _ {H : Type 0} where
  -- what was answered is a copy of what it has failed with
  pub answers_kept : (kept error : Error) (a : Attempt H) → a.vm.state.phase ≡ phases.Failed kept → IsCopy kept error → AnswersKept (Turn.Failed error) a
  answers_kept kept error a failed copies other is = subst (λ (one : Error). IsCopy one error) (same_failed kept other (sym failed ∙ is)) copies

  -- what the machine has written more is behind what waited
  pub waits_more : (version : Version) (coming : List Sent) (before after : Attempt H) → after.front ++ after.behind ≡ before.front ++ before.behind
      → after.vm.state.active.output.bytes ≡ before.vm.state.active.output.bytes ++ sent_stream version coming → output_of after ≡ output_of before ++ sent_stream version coming
  waits_more version coming before after same more =
      ap (λ (bytes : List ℕ). bytes ++ after.vm.state.active.output.bytes) same ∙ ap (λ (bytes : List ℕ). (before.front ++ before.behind) ++ bytes) more
      ∙ sym (append_assoc (before.front ++ before.behind) before.vm.state.active.output.bytes (sent_stream version coming))
