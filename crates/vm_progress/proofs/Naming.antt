-- An error over ids is told by its code and its text.
use Rattle.std.proofs.Common.{◌≡◌, ◌∙◌, sym, ap, ℕ, Option, Some, None, option_map, Result, Ok, Err, IfOk}
use Rattle.std.specs.declared.alloc.AllocError.{AllocError}
use Rattle.journal_model.specs.AwaitTree.{AwaitTree}
use Rattle.journal_model.specs.Notification.{Bytes}
use Rattle.journal_model.specs.declared.notification.NotificationId.{NotificationId}
use Rattle.protocol_errors.specs.Code.{journal_mismatch}
use Rattle.protocol_errors.specs.Texts.{uncompleted_text}
use Rattle.protocol_errors.specs.declared.error.Error.{Error}
use Rattle.protocol_errors.specs.declared.uncompleted.UncompletedDoProgressDuringReplay.{UncompletedDoProgressDuringReplay}
use Rattle.vm_machine.specs.Causes.{TellsPlainError}
use Rattle.attempt_model.specs.Results.{Slots}
use Rattle.protocol_errors.specs.declared.metadata.CommandMetadata.{CommandMetadata}
use Rattle.vm_proposals.specs.RunFailureCauses.{run_told}
use Rattle.vm_runs.specs.Runs.{Table, Runs, run_at}
use Rattle.vm_runs.specs.declared.run.Run.{Run}
use Rattle.vm_waiting.specs.WaitsFor.{ids_over}
use Rattle.vm_waiting.specs.declared.waits_for.WaitsFor.{WaitsFor}
use Rattle.vm_progress.specs.UncompletedAwaits.{lists_over, NamesIn, IsLast, uncompleted_run, IsLastRun, TellsAbout, TellsAwaited, TellsUncompleted}

pub told_by : (invocation : Bytes) (table : Table) (tree : AwaitTree NotificationId) (error : UncompletedDoProgressDuringReplay) (told : Result Error AllocError)
    → NamesIn invocation table (lists_over tree) error → IfOk told (TellsPlainError journal_mismatch (Some (uncompleted_text error))) → IfOk told (TellsAwaited invocation table tree)
told_by invocation table tree error (Ok told) names tells = record { error = error; names = names; tells = tells }
told_by invocation table tree error (Err refused) names tells = tt

-- ---- the run that it is about

module _ (table : Table) (waits : WaitsFor) (last : Option ℕ) (is_last : IsLast table waits last) where
  -- there is none
  pub last_none : last ≡ None → IsLastRun table waits None
  last_none is = record { last = last; is_last = is_last; command_is = sym (ap (λ (l : Option ℕ). option_map run_told (uncompleted_run table l)) is) }

  pub last_absent : (handle : ℕ) → last ≡ Some handle → run_at table handle ≡ None → IsLastRun table waits None
  last_absent handle is absent = record {
    last = last;
    is_last = is_last;
    command_is = sym (ap (λ (l : Option ℕ). option_map run_told (uncompleted_run table l)) is ∙ ap (λ (found : Option Run). option_map run_told found) absent);
  }

  pub last_there : (handle : ℕ) (run : Run) (command : CommandMetadata) → last ≡ Some handle → Some run ≡ run_at table handle → command ≡ run_told run → IsLastRun table waits (Some command)
  last_there handle run command is found told = record {
    last = last;
    is_last = is_last;
    command_is = ap (λ (c : CommandMetadata). Some c) told ∙ ap (λ (found : Option Run). option_map run_told found) found ∙ sym (ap (λ (l : Option ℕ). option_map run_told (uncompleted_run table l)) is);
  }

pub told_about : (invocation : Bytes) (slots : Slots) (runs : Runs) (waits : WaitsFor) (error told : Error) (command : CommandMetadata) → TellsAwaited invocation runs.table (ids_over slots waits) error
    → IsLastRun runs.table waits (Some command) → told ≡ record error { related_command = Some command } → TellsUncompleted invocation slots runs waits told
told_about invocation slots runs waits error told command tells last is = record { run = Some command; last = last; tells = record { plain = error; causes = tells; about = is } }

pub told_of_none : (invocation : Bytes) (slots : Slots) (runs : Runs) (waits : WaitsFor) (error : Error) → TellsAwaited invocation runs.table (ids_over slots waits) error → IsLastRun runs.table waits None
    → TellsUncompleted invocation slots runs waits error
told_of_none invocation slots runs waits error tells last = record { run = None; last = last; tells = tells }

-- ---- its code

about_some : (invocation : Bytes) (table : Table) (tree : AwaitTree NotificationId) (run : Option CommandMetadata) (told : Error) → TellsAbout run (TellsAwaited invocation table tree) told
    → told.code.0 ≡ journal_mismatch
about_some invocation table tree None told tells = ap (λ (e : Error). e.code.0) tells.tells.plain
about_some invocation table tree (Some command) told tells = ap (λ (e : Error). e.code.0) tells.about ∙ ap (λ (e : Error). e.code.0) tells.causes.tells.plain

-- it is a mismatch, whichever run it is about
pub uncompleted_code : (invocation : Bytes) (slots : Slots) (runs : Runs) (waits : WaitsFor) (told : Error) → TellsUncompleted invocation slots runs waits told → told.code.0 ≡ journal_mismatch
uncompleted_code invocation slots runs waits told uncompleted = about_some invocation runs.table _ uncompleted.run told uncompleted.tells
