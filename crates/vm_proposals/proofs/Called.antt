-- A machine makes the call of a run over what it keeps of runs behind it.
use Rattle.std.proofs.Common.{◌≡◌, ◌∙◌, inl, [], List, ℕ, Bool, Option, Some, None, Result, Ok, Err, IfOk, refl, sym, ap, subst}
use Rattle.journal_model.specs.Notification.{Text}
use Rattle.journal_model.specs.Refusal.{refusal_of}
use Rattle.journal_model.specs.Run.{Invocation}
use Rattle.journal_model.specs.declared.call.Answer.{Answer}
use Rattle.journal_model.specs.declared.call.Call.{Call}
use Rattle.attempt_model.specs.Machine.{Machine}
use Rattle.protocol_commands.specs.declared.run_command.RunCommandMessage.{RunCommandMessage}
use Rattle.protocol_differences.specs.Promises.{run_command_difference}
use Rattle.protocol_errors.specs.declared.error.Error.{Error}
use Rattle.protocol_types.specs.declared.message_type.MessageType.TheVariants.{RunCommand}
use Rattle.vm_calls.specs.Active.{Sees, IsAtCommand}
use Rattle.vm_calls.specs.MismatchedCommands.{FindsAs}
use Rattle.vm_calls.specs.CommandCalls.{MakesCommand}
use Rattle.vm_calls.specs.SpentReplay.{IsSpent, FailsSpent}
use Rattle.vm_calls.specs.declared.active.Active.{Active}
use Rattle.vm_calls.specs.declared.call_error.CallError.{CallError}
use Rattle.vm_machine.specs.CallAdmission.{AdmitsWhere, Admits, IsElsewhere}
use Rattle.vm_machine.specs.Calls.{checks_off, Calls}
use Rattle.vm_start.specs.Phases.{kept_error}
use Rattle.vm_machine.specs.CallAnswers.{Settles}
use Rattle.vm_machine.specs.declared.admitting.Admission.TheVariants.{Admitted, Elsewhere, Stopped}
use Rattle.vm_machine.specs.declared.machine_state.MachineState.{MachineState}
use Rattle.vm_machine.proofs.Admitted.{admitted_free, made_by, calls_made, calls_elsewhere, calls_stopped}
use Rattle.vm_refusals.specs.declared.runs.RunHandle.{RunHandle}
use Rattle.vm_runs.specs.Runs.{Runs}
use Rattle.vm_proposals.specs.RunCallEffects.{CallsRun, KeepsBodiesOf}
use Rattle.vm_proposals.specs.RunRegistration.{KeepsRun}
use Rattle.vm_proposals.proofs.Runs.{bodies_of_run}

abbrev over : Runs → MachineState → MachineState
over runs vm = record vm { runs = runs }

abbrev CallsOver : Text → (old : MachineState) → Runs → Result RunHandle Error → (new : MachineState) → Type 0
CallsOver name old runs result new = Calls run_command_difference (Call.Run name) (λ run. Answer.Handle run.handle) [] RunCommand name (over runs old) result new

-- ---- a call that is made

admits_over : (kept : Option Error) (runs : Runs) (old between : MachineState) → AdmitsWhere kept None old Admitted between → AdmitsWhere kept None (over runs old) Admitted (over runs old)
admits_over None runs old between admits = (admits.0, refl)
admits_over (Some kept) runs old between admits = absurd admits

runs_settled : {M T : Type 0} (difference : M → M → List ℕ) (made : Result T (CallError M)) (old : MachineState) (result : Result T Error) (new : MachineState) → Settles difference made old result new
    → new.runs ≡ old.runs
runs_settled difference (Ok taken) old (Ok answer) new settles = ap (λ (vm : MachineState). vm.runs) settles.1
runs_settled difference (Ok taken) old (Err told) new settles = absurd settles
runs_settled difference (Err error) old (Ok answer) new settles = absurd settles
runs_settled difference (Err error) old (Err told) new settles = ap (λ (vm : MachineState). vm.runs) settles.fails.others

keeps_settled : {M : Type 0} (difference : M → M → List ℕ) (name : Text) (active : Active) (runs kept : Runs) (made : Result RunHandle (CallError M)) (old : MachineState) (result : Result RunHandle Error) (new : MachineState)
    → Settles difference made old result new → KeepsRun name active runs made kept → KeepsRun name active runs result kept
keeps_settled difference name active runs kept (Ok taken) old (Ok answer) new settles keeps = (ap (λ (run : RunHandle). run.replayed) settles.0 ∙ keeps.0, keeps.1)
keeps_settled difference name active runs kept (Ok taken) old (Err told) new settles keeps = absurd settles
keeps_settled difference name active runs kept (Err error) old (Ok answer) new settles keeps = absurd settles
keeps_settled difference name active runs kept (Err error) old (Err told) new settles keeps = keeps

module _ (name : Text) (off : Bool) (old : MachineState) (made : Result RunHandle (CallError RunCommandMessage)) (active : Active) (runs : Runs) (result : Result RunHandle Error) (new : MachineState)
    (off_is : off ≡ checks_off old.options.non_determinism_checks)
    (makes : (given : Invocation) (m : Machine) → refusal_of given.version (Call.Run name) ≡ None → Sees given old.active m
    → MakesCommand off given m (Call.Run name) (λ run. Answer.Handle run.handle) old.active made active)
    (keeps : KeepsRun name old.active old.runs made runs)
    (told : IsAtCommand RunCommand name old.active.journal active.journal) (spent : IsSpent old.active → FailsSpent 1 old.active made active) (found : FindsAs RunCommand old.active made active)
    (settles : Settles run_command_difference made (record old { active = active; runs = runs }) result new) where
  made_over : Admits None old Admitted old → CallsOver name old runs result new
  made_over admits =
      calls_made run_command_difference (Call.Run name) (λ run. Answer.Handle run.handle) [] RunCommand name None (over runs old) (over runs old) result new refl
      (admits_over (kept_error old.phase) runs old old admits)
      (made_by run_command_difference (Call.Run name) (λ run. Answer.Handle run.handle) RunCommand name off (over runs old) made active result new off_is (λ given m is_of sees. makes given m refl sees) told spent found settles)

  calls_admitted : Admits None old Admitted old → CallsRun name old result new
  calls_admitted admits =
      let same : new.runs ≡ runs = runs_settled run_command_difference made (record old { active = active; runs = runs }) result new settles in
      record {
        calls = subst (λ (kept : Runs). CallsOver name old kept result new) (sym same) (made_over admits);
        keeps = subst (λ (kept : Runs). KeepsRun name old.active old.runs result kept) (sym same)
            (keeps_settled run_command_difference name old.active old.runs runs made (record old { active = active; runs = runs }) result new settles keeps);
      }

  pub calls_made_run : (before : MachineState) → Admits None before Admitted old → CallsRun name before result new
  calls_made_run before admits =
      let free = admitted_free (kept_error before.phase) None before old admits in
      subst (λ (vm : MachineState). CallsRun name vm result new) free.1 (calls_admitted (subst (λ (vm : MachineState). Admits None vm Admitted old) (sym free.1) admits))

-- ---- one that is not

stopped_same : (kept : Option Error) (old : MachineState) (told : Error) (new : MachineState) → AdmitsWhere kept None old (Stopped told) new → new ≡ old
stopped_same (Some kept) old told new admits = admits.0
stopped_same None old told new admits = absurd admits

elsewhere_same : (kept : Option Error) (old new : MachineState) → AdmitsWhere kept None old Elsewhere new → new ≡ old
elsewhere_same (Some kept) old new admits = absurd admits
elsewhere_same None old new admits = admits.1

unmade : (name : Text) (old : MachineState) (told : Error) (new : MachineState) → CallsOver name old old.runs (Err told) new → new.runs ≡ old.runs → CallsRun name old (Err told) new
unmade name old told new calls same = record {
  calls = subst (λ (runs : Runs). CallsOver name old runs (Err told) new) (sym same) calls;
  keeps = inl same;
}

pub calls_stopped_run : (name : Text) (old between : MachineState) (told : Error) → Admits None old (Stopped told) between → CallsRun name old (Err told) between
calls_stopped_run name old between told admits =
    unmade name old told between (calls_stopped run_command_difference (Call.Run name) (λ run. Answer.Handle run.handle) [] RunCommand name None old between told refl admits)
    (ap (λ (vm : MachineState). vm.runs) (stopped_same (kept_error old.phase) old told between admits))

pub calls_elsewhere_run : (name : Text) (old between : MachineState) (told : Error) (new : MachineState) → Admits None old Elsewhere between → IsElsewhere 1 RunCommand name between told new
    → CallsRun name old (Err told) new
calls_elsewhere_run name old between told new admits elsewhere =
    unmade name old told new (calls_elsewhere run_command_difference (Call.Run name) (λ run. Answer.Handle run.handle) [] RunCommand name None old between told new name refl refl admits elsewhere)
    (ap (λ (vm : MachineState). vm.runs) elsewhere.fails.others ∙ ap (λ (vm : MachineState). vm.runs) (elsewhere_same (kept_error old.phase) old between admits))

-- ---- the bodies behind it

pub bodies_called : (name : Text) (old : MachineState) (result : Result RunHandle Error) (new : MachineState) → CallsRun name old result new
    → IfOk result (λ run. (given : Invocation) (m : Machine) → Sees given old.active m → KeepsBodiesOf m (Call.Run name) old.runs new.runs)
bodies_called name old (Ok run) new calls = λ given m sees. bodies_of_run given m name old.active old.runs new.runs sees calls.keeps.1
bodies_called name old (Err told) new calls = tt
