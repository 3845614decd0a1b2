-- A run is carried out; and a machine that has failed, and one that is closed, stays so.
use Rattle.std.proofs.Common.{◌≡◌, ◌+◌, inl, inr, ℕ, Bool, true, false, if◌then◌else◌, [], length, Result, Ok, Err, IfOk, refl, ap, subst, ◌∙◌}
use Rattle.journal_model.specs.Notification.{Text}
use Rattle.journal_model.specs.Run.{Invocation}
use Rattle.journal_model.specs.declared.call.Answer.{Answer}
use Rattle.journal_model.specs.declared.call.Call.{Call}
use Rattle.attempt_model.specs.Machine.{Machine, next_slot}
use Rattle.attempt_model.specs.Results.{Slots}
use Rattle.body_laws.specs.Bodies.{has_come}
use Rattle.protocol_errors.specs.declared.error.Error.{Error}
use Rattle.protocol_types.specs.declared.message_type.MessageType.TheVariants.{RunCommand}
use Rattle.vm_awaits.specs.Calls.{has_come as has_come_among}
use Rattle.vm_awaits.specs.Views.{AsyncResults}
use Rattle.vm_calls.specs.Active.{Sees}
use Rattle.vm_calls.specs.declared.active.Active.{Active}
use Rattle.vm_context.specs.Journal.{after_command}
use Rattle.vm_start.specs.Phases.{kept_error}
use Rattle.vm_start.specs.declared.phase.Phase.{Phase}
use Rattle.vm_start.specs.declared.phase.Phase.TheVariants as phases
use Rattle.vm_feeding.specs.MachineQueries.{TellsReady}
use Rattle.vm_machine.specs.declared.machine_state.MachineState.{MachineState}
use Rattle.vm_proposals.specs.RunCallEffects.{CallsRun, KeepsBodiesOf}
use Rattle.vm_proposals.specs.RunRegistration.{IsRunKept, KeepsRun, handle_called, is_known, run_called, last_run_asked}
use Rattle.vm_refusals.specs.declared.runs.RunHandle.{RunHandle}
use Rattle.vm_runs.specs.Runs.{Runs, with_run}
use Rattle.vm_runs.specs.declared.run.Run.{Run}
use Rattle.vm_outcomes.specs.CallOutcomes.{Comes, CarriesOut, StaysFailed, StaysClosed}
use Rattle.vm_outcomes.specs.DrivenMachine.{IsDriven}
use Rattle.vm_outcomes.specs.Outcomes.{answered_as}
use Rattle.vm_outcomes.specs.Runs.{BodiesAreKept, runs_after}
use Rattle.vm_outcomes.specs.declared.outcome.CallOutcome.{CallOutcome}
use Rattle.vm_outcomes.specs.declared.outcome.CallOutcome.TheVariants.{Failed}
use Rattle.vm_outcomes.proofs.Answering.{RunsIn}
use Rattle.vm_outcomes.proofs.Calling.{call_comes}

-- ---- runs

abbrev kept_where : (known : Bool) → (handle : ℕ) → Run → Runs → Runs
kept_where known handle run runs = if known then runs else with_run handle run runs

kept_as : (known : Bool) (handle : ℕ) (run : Run) (old new : Runs) → IsRunKept known handle run old new → new ≡ kept_where known handle run old
kept_as true handle run old new is = is
kept_as false handle run old new is = is.runs

module _ (given : Invocation) (m : Machine) (name : Text) (active : Active) (sees : Sees given active m) where
  -- its outcome has come to both, or to none
  known_is : is_known active ≡ has_come m m.completions
  known_is = ap (λ (r : AsyncResults). has_come_among active.journal.completions r) sees.results ∙ ap (λ (n : ℕ). has_come m n) sees.completions

  -- its handle and its completion are the next ones of both
  run_kept : (old new : Runs) → IsRunKept (is_known active) (handle_called active) (run_called name active) old new → new ≡ runs_after m (Call.Run name) active.journal old
  run_kept old new is =
      kept_as (is_known active) (handle_called active) (run_called name active) old new is
      ∙ ap (λ (known : Bool). kept_where known (handle_called active) (run_called name active) old) known_is
      ∙ ap (λ (slots : Slots). kept_where (has_come m m.completions) (17 + length slots) (run_called name active) old) (ap (λ (r : AsyncResults). r.slots) sees.results)
      ∙ ap (λ (n : ℕ). kept_where (has_come m m.completions) (next_slot m) (last_run_asked n (after_command RunCommand name active.journal)) old) sees.completions

module _ (given : Invocation) (m : Machine) (name : Text) (old : MachineState) (driven : IsDriven given m old) where
  runs_in : (result : Result RunHandle Error) (new : Runs) → KeepsRun name old.active old.runs result new → IfOk result (λ run. KeepsBodiesOf m (Call.Run name) old.runs new) → RunsIn m (Call.Run name) old new result
  runs_in (Ok run) new keeps bodies = record { kept = run_kept given m name old.active driven.sees old.runs new keeps.1; bodies = bodies }
  runs_in (Err error) new (inl same) bodies = inl same
  runs_in (Err error) new (inr is) bodies = inr (run_kept given m name old.active driven.sees old.runs new is)

  bodies_of : (result : Result RunHandle Error) (new : MachineState) → BodiesAreKept (Call.Run name) old result new → IfOk result (λ run. KeepsBodiesOf m (Call.Run name) old.runs new.runs)
  bodies_of (Ok run) new bodies = bodies given m driven.sees
  bodies_of (Err error) new bodies = tt

  run_comes : (result : Result RunHandle Error) (new : MachineState) → CallsRun name old result new → BodiesAreKept (Call.Run name) old result new
      → Comes given m (Call.Run name) old (answered_as (λ run. Answer.Handle run.handle) result) new
  run_comes result new calls bodies =
      call_comes given m (Call.Run name) old driven new.runs _ (λ (run : RunHandle). Answer.Handle run.handle) [] RunCommand name result new refl refl refl
      (runs_in result new.runs calls.keeps (bodies_of result new bodies)) calls.calls

-- a run is carried out
pub run_carried : (name : Text) (old : MachineState) (result : Result RunHandle Error) (new : MachineState) → CallsRun name old result new → BodiesAreKept (Call.Run name) old result new
    → CarriesOut (Call.Run name) old (answered_as (λ run. Answer.Handle run.handle) result) new
run_carried name old result new calls bodies = λ given m driven. run_comes given m name old driven result new calls bodies

-- ---- machines that have failed

pub ready_stays : (phase : Phase) (ready : Bool) (old : MachineState) (outcome : CallOutcome) (new : MachineState) → TellsReady phase (Ok ready) → StaysFailed (kept_error phase) old outcome new
ready_stays phases.WaitingStart ready old outcome new is = tt
ready_stays (phases.WaitingReplayEntries left) ready old outcome new is = tt
ready_stays phases.Active ready old outcome new is = tt
ready_stays phases.Closed ready old outcome new is = tt
ready_stays (phases.Failed kept) ready old outcome new is = absurd is

pub unready_stays : (phase : Phase) (answer : Error) (old : MachineState) → TellsReady phase (Err answer) → StaysFailed (kept_error phase) old (Failed answer) old
unready_stays phases.WaitingStart answer old is = tt
unready_stays (phases.WaitingReplayEntries left) answer old is = tt
unready_stays phases.Active answer old is = tt
unready_stays phases.Closed answer old is = tt
unready_stays (phases.Failed kept) answer old is = (is, refl)

-- ---- machines that are closed

pub ready_open : (phase : Phase) (ready : Bool) (old : MachineState) (outcome : CallOutcome) (new : MachineState) → TellsReady phase (Ok ready) → StaysClosed phase old outcome new
ready_open phases.WaitingStart ready old outcome new is = tt
ready_open (phases.WaitingReplayEntries left) ready old outcome new is = tt
ready_open phases.Active ready old outcome new is = tt
ready_open phases.Closed ready old outcome new is = absurd is
ready_open (phases.Failed kept) ready old outcome new is = tt

pub unready_closed : (phase : Phase) (answer : Error) (old : MachineState) → TellsReady phase (Err answer) → StaysClosed phase old (Failed answer) old
unready_closed phases.WaitingStart answer old is = tt
unready_closed (phases.WaitingReplayEntries left) answer old is = tt
unready_closed phases.Active answer old is = tt
unready_closed phases.Closed answer old is = (is, refl)
unready_closed (phases.Failed kept) answer old is = tt

-- ---- machines that are driven

active_ready : {A : Type 0} (answer : Error) → ◌≡◌ {A = Result Bool Error} (Err answer) (Ok true) → A
active_ready answer wrong = cc

-- calls are made of a machine that is driven
pub unready_carried : (call : Call) (answer : Error) (old : MachineState) → TellsReady old.phase (Err answer) → CarriesOut call old (Failed answer) old
unready_carried call answer old is = λ given m driven. active_ready answer (subst (λ (p : Phase). TellsReady p (Err answer)) driven.phase is)
