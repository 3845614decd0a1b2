-- What a machine keeps that was made.
use Rattle.std.specs.Prelude.{Result, Ok, Err}
use Rattle.protocol_errors.specs.declared.error.Error.{Error}
use Rattle.vm_machine.specs.declared.machine_state.MachineState.{MachineState}
use Rattle.vm_core.specs.declared.core_vm.CoreVM.{CoreVM}

abbrev pub state_made : Result CoreVM Error → Result MachineState Error
state_made (Ok vm) = Ok vm.state
state_made (Err error) = Err error
