-- Whatever a machine was told and asked, the clauses of its calls speak of it.
use Rattle.std.proofs.Common.{◌≤◌, ◌^◌, true, false, List, [], ◌∷◌, refl, sym, ap, subst, arith}
use Rattle.journal_model.specs.State.{StartState}
use Rattle.journal_model.specs.declared.call.Call.{Call}
use Rattle.journal_model.specs.declared.options.SignalDelivery.{SignalDelivery}
use Rattle.protocol_types.specs.declared.version.Version.{Version}
use Rattle.attempt_model.specs.Children.{Child}
use Rattle.vm_awaits.specs.Children.{AreMade}
use Rattle.vm_awaits.specs.Views.{AsyncResults}
use Rattle.vm_feeding.specs.NewMachine.{IsNew}
use Rattle.vm_calls.specs.declared.active.Active.{Active}
use Rattle.vm_context.specs.Eager.{KnownState, known_from}
use Rattle.vm_context.specs.StateKnowledge.{KnowsState}
use Rattle.vm_context.specs.Journal.{JournalCounts}
use Rattle.vm_context.specs.Output.{Written}
use Rattle.vm_machine.specs.StartReceipt.{IsFresh}
use Rattle.vm_start.specs.declared.phase.Phase.{Phase}
use Rattle.vm_start.specs.declared.phase.Phase.TheVariants as phases
use Rattle.vm_machine.specs.declared.machine_state.MachineState.{MachineState}
use Rattle.vm_types.specs.declared.options.VMOptions.{VMOptions}
use Rattle.vm_core_laws.specs.HostCalls.{HostCall, NotifyInput, NotifyInputClosed, NotifyError, TakeOutput, SysInput, EphemeralStateGet, TakeEphemeralNotification, ProposeRunCompletion, MakeCall, MakesCall, Does, DoesEach}
use Rattle.vm_core_laws.specs.CallPreconditions.{CallsSpeak}
use Rattle.vm_core_laws.proofs.Keeping.{Keeps, StandsIn, Stands, moved, spoken_of}
use Rattle.vm_core_laws.proofs.Making.{commands_stand, reads_stand, signals_stand, awakeables_stand, takes_stand}
use Rattle.vm_core_laws.proofs.Feeding.{fed_stands, closed_stands, told_stands, output_stands, read_stands}
use Rattle.vm_core_laws.proofs.Runs.{run_stands, proposal_stands}
use Rattle.vm_core_laws.proofs.Waiting.{awaits_stand, ends_stand, gets_ephemeral, takes_ephemeral}

-- ---- a machine that was made

abbrev nothing_shown : StartState
nothing_shown = record { is_whole = false; entries = [] }

-- nothing is known of a state of which nothing was shown
knows_nothing : KnowsState (known_from true []) nothing_shown []
knows_nothing = record { ordered = refl; values = refl; whole = refl; keys = λ key. refl }

fresh_keeps : (version : Version) (delivery : SignalDelivery) (active : Active) → IsFresh version delivery active → Keeps delivery active
fresh_keeps version delivery active fresh = record {
  start = nothing_shown;
  done = [];
  state = subst (λ (state : KnownState). KnowsState state nothing_shown []) (sym fresh.state) knows_nothing;
  opened = ap (λ (written : Written). written.is_closed) fresh.output;
  delivers = ap (λ (results : AsyncResults). results.delivery) fresh.results;
  made = subst (λ (children : List Child). AreMade active.journal.completions children) (sym fresh.children) tt;
  counted = subst (λ (journal : JournalCounts). journal.completions ≤ 2 ^ 32) (sym fresh.journal) (omega arith);
}

begins_standing : (version : Version) (options : VMOptions) (vm : MachineState) → IsNew version options vm → Stands vm
begins_standing version options vm new =
    subst (λ (p : Phase). StandsIn p vm.options.signal_delivery vm.active) (sym new.phase) (
      subst (λ (options : VMOptions). Keeps options.signal_delivery vm.active) (sym new.options_are) (fresh_keeps version options.signal_delivery vm.active new.active),
      new.active.replaying,
    )

-- ---- calls

makes_stand : (call : Call) (old new : MachineState) → MakesCall call old new → Stands old → Stands new
makes_stand (Call.StateGet key name options) old new (result, is) stands = reads_stand _ _ refl _ _ old result new is stands
makes_stand (Call.StateGetKeys name) old new (result, is) stands = reads_stand _ _ refl _ _ old result new is stands
makes_stand (Call.StateSet key value name options) old new (result, is) stands = commands_stand _ _ refl _ _ _ _ old result new is stands
makes_stand (Call.StateClear key name) old new (result, is) stands = commands_stand _ _ refl _ _ _ _ old result new is stands
makes_stand (Call.StateClearAll name) old new (result, is) stands = commands_stand _ _ refl _ _ _ _ old result new is stands
makes_stand (Call.Sleep name wake_up now) old new (result, is) stands = commands_stand _ _ refl _ _ _ _ old result new is stands
makes_stand (Call.Call target parameter name options) old new (result, is) stands = commands_stand _ _ refl _ _ _ _ old result new is stands
makes_stand (Call.Send target parameter execution_time name options) old new (result, is) stands = commands_stand _ _ refl _ _ _ _ old result new is stands
makes_stand Call.Awakeable old new (result, is) stands = awakeables_stand old result new is stands
makes_stand (Call.CompleteAwakeable id value options) old new (result, is) stands = commands_stand _ _ refl _ _ _ _ old result new is stands
makes_stand (Call.Signal name) old new (result, is) stands = signals_stand name old result new is stands
makes_stand (Call.CompleteSignal target_id name value) old new (result, is) stands = commands_stand _ _ refl _ _ _ _ old result new is stands
makes_stand (Call.GetPromise key) old new (result, is) stands = commands_stand _ _ refl _ _ _ _ old result new is stands
makes_stand (Call.PeekPromise key) old new (result, is) stands = commands_stand _ _ refl _ _ _ _ old result new is stands
makes_stand (Call.CompletePromise key value options) old new (result, is) stands = commands_stand _ _ refl _ _ _ _ old result new is stands
makes_stand (Call.Run name) old new (result, is) stands = run_stands name old result new is stands
makes_stand (Call.Cancel target_id) old new (result, is) stands = commands_stand _ _ refl _ _ _ _ old result new is stands
makes_stand (Call.Attach target) old new (result, is) stands = commands_stand _ _ refl _ _ _ _ old result new is stands
makes_stand (Call.GetOutput target) old new (result, is) stands = commands_stand _ _ refl _ _ _ _ old result new is stands
makes_stand (Call.IsCompleted handle) old new is stands = moved old new is stands
makes_stand (Call.Take handle) old new (result, is) stands = takes_stand handle old result new is stands
makes_stand (Call.Await tree) old new (result, is) stands = awaits_stand tree old result new is stands
makes_stand (Call.Output value options) old new (result, is) stands = commands_stand _ _ refl _ _ _ _ old result new is stands
makes_stand Call.End old new (result, is) stands = ends_stand old result new is stands

does_stand : (call : HostCall) (old new : MachineState) → Does call old new → Stands old → Stands new
does_stand (NotifyInput bytes) old new is stands = fed_stands bytes old new is stands
does_stand NotifyInputClosed old new is stands = closed_stands old new is stands
does_stand (NotifyError error relationship) old new is stands = told_stands error relationship old new is
does_stand TakeOutput old new (result, is) stands = output_stands old result new is stands
does_stand SysInput old new (result, is) stands = read_stands old result new is stands
does_stand (EphemeralStateGet key) old new (result, is) stands = gets_ephemeral key old result new is stands
does_stand (TakeEphemeralNotification id) old new (result, is) stands = takes_ephemeral id old result new is stands
does_stand (ProposeRunCompletion handle exit policy) old new (result, is) stands = proposal_stands handle exit policy old result new is stands
does_stand (MakeCall call) old new is stands = makes_stand call old new is stands

each_stands : (calls : List HostCall) (old new : MachineState) → DoesEach calls old new → Stands old → Stands new
each_stands [] old new is stands = moved old new is stands
each_stands (call ∷ before) old new (between, each, last) stands = does_stand call between new last (each_stands before old between each stands)

-- ---- the law

pub calls_speak : CallsSpeak
calls_speak version options calls made vm new each active =
    let stands = each_stands calls made vm each (begins_standing version options made new) in
    let kept : StandsIn phases.Active vm.options.signal_delivery vm.active = subst (λ (p : Phase). StandsIn p vm.options.signal_delivery vm.active) active stands in
    spoken_of vm kept.0 kept.1
