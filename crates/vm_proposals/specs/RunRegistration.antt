-- What a run is answered, and what is kept of it, as its command is made.
use Rattle.std.specs.Prelude.{◌≡◌, ◌+◌, ◌⊎◌, ℕ, Bool, true, false, length, Result, Ok, Err}
use Rattle.std.specs.declared.alloc.AllocError.{AllocError}
use Rattle.journal_model.specs.Notification.{Text}
use Rattle.body_laws.specs.Bodies.{Executor}
use Rattle.protocol_types.specs.declared.message_type.MessageType.TheVariants.{RunCommand}
use Rattle.vm_awaits.specs.Calls.{has_come}
use Rattle.vm_awaits.specs.Views.{results_of, slots_of}
use Rattle.vm_calls.specs.declared.active.Active.{Active}
use Rattle.vm_calls.specs.declared.call_error.CallError.{CallError}
use Rattle.vm_context.specs.Journal.{JournalCounts, after_command, last_index}
use Rattle.vm_refusals.specs.declared.runs.RunHandle.{RunHandle}
use Rattle.vm_runs.specs.KeptBodies.{IsNew, KeepsBodies, with_body}
use Rattle.vm_runs.specs.Runs.{Runs, body_of, with_run}
use Rattle.vm_runs.specs.declared.run.Run.{Run}

-- ---- what is kept

-- its body is to be executed, behind those that were called before
pub record HasInserted (handle : ℕ) (run : Run) (old new : Runs) : Type 0 where
  pub runs : new ≡ with_run handle run old
  pub bodies : (e : Executor) → KeepsBodies old e → IsNew handle e → KeepsBodies new (with_body e (body_of handle run))

abbrev pub Inserts : (handle : ℕ) → Run → (old : Runs) → Result (Unit {0}) AllocError → (new : Runs) → Type 0
Inserts handle run old (Ok done) new = HasInserted handle run old new
Inserts handle run old (Err refused) new = new ≡ old

-- exactly where its outcome has not come it is kept, to be executed
abbrev pub IsRunKept : (known : Bool) → (handle : ℕ) → Run → (old new : Runs) → Type 0
IsRunKept true handle run old new = new ≡ old
IsRunKept false handle run old new = HasInserted handle run old new

-- whether its outcome has come is answered
abbrev pub Keeps : (known : Bool) → (handle : ℕ) → Run → (old : Runs) → Result Bool AllocError → (new : Runs) → Type 0
Keeps known handle run old (Ok told) new = (told ≡ known) × IsRunKept known handle run old new
Keeps known handle run old (Err refused) new = new ≡ old

-- ---- the run that a call makes

-- the run whose command is the last that was asked for
abbrev pub last_run_asked : (completion : ℕ) → JournalCounts → Run
last_run_asked completion journal = record {
  completion = completion;
  command_index = last_index journal;
  command_name = journal.last_name;
  is_executing = false;
}

-- the next completion brings its outcome, by the next handle
abbrev pub run_called : Text → Active → Run
run_called name active = last_run_asked active.journal.completions (after_command RunCommand name active.journal)

abbrev pub handle_called : Active → ℕ
handle_called active = 17 + length (slots_of active.results)

-- whether something has come for its completion, looked at or not
abbrev pub is_known : Active → Bool
is_known active = has_come active.journal.completions (results_of active.results)

-- What is kept of a run that is called is kept before its command is matched or written. Where the call fails all is as before, or the run
-- is kept.
abbrev pub KeepsRun : {E : Type 0} → Text → Active → (old : Runs) → Result RunHandle E → (new : Runs) → Type 0
KeepsRun name active old (Ok run) new = (run.replayed ≡ is_known active) × IsRunKept (is_known active) (handle_called active) (run_called name active) old new
KeepsRun name active old (Err error) new = (new ≡ old) ⊎ IsRunKept (is_known active) (handle_called active) (run_called name active) old new

-- ---- what is answered

-- the handle, and whether the outcome is known
abbrev pub called : {M : Type 0} → (known : Bool) → Result ℕ (CallError M) → Result RunHandle (CallError M)
called known (Ok handle) = Ok (record { replayed = known; handle = handle })
called known (Err error) = Err error
