-- What the clauses of calls ask of a machine, and that it is so of one that was made and asked any calls.
use Rattle.std.specs.Prelude.{◌≡◌, ◌⊎◌, List}
use Rattle.journal_model.specs.Run.{Invocation}
use Rattle.attempt_model.specs.Machine.{Machine}
use Rattle.protocol_types.specs.declared.version.Version.{Version}
use Rattle.vm_feeding.specs.NewMachine.{IsNew}
use Rattle.vm_calls.specs.Active.{Sees}
use Rattle.vm_calls.specs.SpentReplay.{IsSpent}
use Rattle.vm_start.specs.declared.phase.Phase.TheVariants as phases
use Rattle.vm_machine.specs.Calls.{IsOf}
use Rattle.vm_machine.specs.declared.machine_state.MachineState.{MachineState}
use Rattle.vm_feeding.specs.Handles.{started_id}
use Rattle.vm_types.specs.declared.options.VMOptions.{VMOptions}
use Rattle.vm_core_laws.specs.HostCalls.{HostCall, DoesEach}

-- What a machine keeps for calls is what an abstract machine keeps, and that of an invocation of its version, its id and its options.
pub record IsSeen (vm : MachineState) : Type 0 where
  pub machine : Machine
  pub given : Invocation
  pub is_of : IsOf given vm
  pub id : given.input.invocation_id ≡ started_id vm.start
  pub sees : Sees given vm.active machine

-- so it is, or it replays and nothing is left
abbrev pub IsSpokenOf : MachineState → Type 0
IsSpokenOf vm = IsSeen vm ⊎ IsSpent vm.active

-- Whatever a machine that was made is told and asked, and whatever it answers: where calls are made of it, their clauses speak of it. Elsewhere
-- they ask nothing.
abbrev pub CallsSpeak : Type 0
CallsSpeak = (version : Version) (options : VMOptions) (calls : List HostCall) (made vm : MachineState) → IsNew version options made → DoesEach calls made vm
    → vm.phase ≡ phases.Active → IsSpokenOf vm
